-- What one call of the server does to a board, a source and a sink, from the bytes that were unread to those that are unread
-- then: the parts of which a connection's run is made.
use Rattle.std.specs.Prelude.{◌≡◌, ◌≢◌, ◌⊎◌, ℕ, ◌+◌, ◌<◌, ◌≤◌, ◌==◌, Bool, true, false, List, [], ◌++◌, length, slice_get, All, Option, Some, None, Result, Ok, Err, is_err, OnOk, OnErr, IfOk, IfErr, IfSome, IsSome, IsSomeAnd, if◌then◌else◌}
use Rattle.std.specs.List.{concat}
use Rattle.std.specs.Io.KnownBytes.{Appends}
use Rattle.healpix_nested.specs.Cells.{cell_count}
use Rattle.survey_link.specs.Link.{AppendsPrefix, CountsFault}
use Rattle.survey_link.specs.declared.faults.Failed.{Failed}
use Rattle.http_frame.specs.declared.request.Request.{Request}
use Rattle.http_frame.specs.declared.stop.FrameStop.{FrameStop}
use Rattle.http_frame.specs.declared.stop.FrameStop.TheVariants as stop
use Rattle.http_frame.specs.declared.stop.FrameStop.TheVariants.{End, Refuse}
use Rattle.http_frame.specs.declared.stop.Turn.TheVariants.{AtHead}
use Rattle.http_frame.specs.Frame.{ReadsHead, StopsBody, KeepsUnread}
use Rattle.http_frame.specs.Reply.{is_reply_code, reply_bytes, continue_bytes}
use Rattle.survey_core.specs.History.{SurveyState, IsHistory, Begins}
use Rattle.reader_pin.specs.Board.{BoardContent, KeepsSeat, Stays}
use Rattle.hips_http.specs.declared.call.PathKind.{PathKind}
use Rattle.hips_http.specs.declared.call.Call.{Call}
use Rattle.hips_http.specs.declared.call.Call.TheVariants as call
use Rattle.hips_http.specs.declared.served.SessionEnd.{SessionEnd}
use Rattle.hips_http.specs.declared.served.SessionEnd.TheVariants.{Closed, Refused, Cut, ReadFault, WriteFault, OutOfMemory}
use Rattle.hips_http.specs.Paths.{IsPathOf, IsOfKind, call_of}
use Rattle.http_frame.specs.Next.{IsFound, IsWhole, IsRefusedNext}
use Rattle.hips_http.specs.Replies.{Answer, head_of, sent_body, output_of, refusal_bytes}
use Rattle.hips_http.specs.Moment.{Input, Output, Moment, unread_of, connection_at, NeverFalls}
use Rattle.hips_http.specs.SessionRun.{closes, room_of, most_requests, IsCutInput, AreRequests, AreAnswered, first_point, Flushes, FlushesAll, IsServed, Goes, CountsFaults}
use Rattle.hips_http.specs.Answers.{Asking, Point, Answers, cost_of}

-- the state at the place is the one that is held
abbrev pub IsHeld : List SurveyState → Option ℕ → Option SurveyState → Type 0
IsHeld states None held = held ≡ None
IsHeld states (Some place) held = (state : SurveyState) × (slice_get states place ≡ Some state) × (held ≡ Some state)

-- a board that had these events of its own at first is at this point of a connection, where the count of steps was
-- `first_steps` at first, and so many requests have found no memory
pub record IsAt (first_own : List ℕ) (first_steps : ℕ) (board : BoardContent) (steps memory_faults : ℕ) (point : Point) : Type 0 where
  pub within : point.place < length board.history
  pub held : IsHeld board.history point.held board.held
  pub own_is : board.own ≡ first_own ++ point.own
  pub own_seen : All (λ place. place ≤ point.place) point.own
  pub memory_faults_is : memory_faults ≡ point.memory_faults
  pub steps_are : memory_faults ≡ 0 → steps ≤ first_steps + point.cost

-- how many more requests have found no memory after an answer
abbrev pub memory_faults_after : ℕ → Answer → ℕ
memory_faults_after memory_faults answer = memory_faults + (if answer.code == 503 then 1 else 0)

-- a call is answered at a point, and the board is at a later one
pub record ServesAt (request : Asking) (call : Call) (first_own : List ℕ) (first_steps : ℕ) (new : BoardContent) (steps memory_faults : ℕ) (before : Point) (answer : Answer) : Type 0 where
  pub after : Point
  pub at : IsAt first_own first_steps new steps (memory_faults_after memory_faults answer) after
  pub never_falls : before.place ≤ after.place
  pub answers : Answers new.conf new.opening new.history request call before after answer
  pub cost : after.cost ≡ before.cost + cost_of new.conf new.history request call before.place after.place

-- a call is answered, at whatever point the board was
pub record Serves (request : Asking) (call : Call) (old new : BoardContent) (steps steps' : ℕ) (answer : Answer) : Type 0 where
  pub conf : new.conf ≡ old.conf
  pub opening : new.opening ≡ old.opening
  pub legal : IsHistory new.opening new.history
  pub begins : Begins old.history new.history
  pub seat : KeepsSeat old new
  pub at_each : (first_own : List ℕ) (first_steps memory_faults : ℕ) (before : Point) → IsAt first_own first_steps old steps memory_faults before
      → ServesAt request call first_own first_steps new steps' memory_faults before answer

-- ---- a file

-- the bytes of a reply
abbrev pub reply_of : Bool → Request → Answer → List ℕ
reply_of close asked answer = reply_bytes (head_of close answer) (sent_body asked.method answer.body)

-- these bytes were written; or a writing failed, and a prefix of them was
pub record Sends (old new : Output) (bytes : List ℕ) (result : Result (Unit {0}) Failed) : Type 0 where
  pub whole : OnOk result (Appends old.held new.held bytes)
  pub part : OnErr result (AppendsPrefix old.held new.held bytes)

-- all that is held was flushed; or the sink failed, and no more was flushed
pub record FlushesReply (old new : Output) (result : Result (Unit {0}) Failed) : Type 0 where
  pub flushed : OnOk result (new.flushed ≡ new.held)
  pub stays : OnErr result (new.flushed ≡ old.flushed)
  pub faults : CountsFault (is_err result) old.faults new.faults
  pub never_falls : old.faults ≤ new.faults

-- a board sees the newest state, unless one is held
abbrev pub Looks : BoardContent → BoardContent → Type 0
Looks old new = ((new ≡ old) × IsSome old.held) ⊎ (Stays old new × (old.held ≡ None))

-- ---- one request

-- a head was read, which asks for this call
pub record ReadsCall (top : ℕ) (old new : Input) (request : Request) (asked : Call) : Type 0 where
  pub head : ReadsHead old.frame new.frame old.left new.left request
  pub kind : PathKind
  pub of_kind : IsOfKind top new.frame.path kind
  pub call_is : asked ≡ call_of request.method kind

-- the leaf of a call is one of the survey's
abbrev pub HasLeaf : ℕ → Call → Type 0
HasLeaf top (call.Put leaf) = leaf < cell_count top
HasLeaf top (call.Delete leaf) = leaf < cell_count top
HasLeaf top _ = Unit {0}

-- the file of a call is the one of its path
abbrev pub HasFile : Option (List ℕ) → Call → Type 0
HasFile path (call.File file) = IsPathOf path file
HasFile path _ = Unit {0}

-- the call is answered by a text, or without a body
abbrev pub is_text : Call → Bool
is_text (call.File file) = false
is_text _ = true

-- how a connection ends where no request follows
abbrev pub EndsAt : FrameStop → Option (List ℕ) → Option (List ℕ) → SessionEnd → Type 0
EndsAt End written written' end = (end ≡ Closed) × (written' ≡ written)
EndsAt stop.Cut written written' end = (end ≡ Cut) × (written' ≡ written)
EndsAt stop.ReadFault written written' end = (end ≡ ReadFault) × (written' ≡ written)
EndsAt (Refuse code) written written' end = is_reply_code code ≡ true
    → ((end ≡ Refused code) × Appends written written' (refusal_bytes code)) ⊎ ((end ≡ WriteFault) × AppendsPrefix written written' (refusal_bytes code))

-- ---- a body

-- a body of so many bytes was read
pub record TakesBody (count : ℕ) (old new : Input) (body : List ℕ) : Type 0 where
  pub bytes : IfSome (unread_of old) (λ bytes. IsSomeAnd (unread_of new) (λ rest. bytes ≡ body ++ rest))
  pub count_is : length body ≡ count
  pub turn : new.frame.turn ≡ AtHead

-- no body was read
pub record LeavesNoBody (count : ℕ) (old new : Input) (stop : FrameStop) : Type 0 where
  pub why : StopsBody count old.frame new.frame old.left stop
  pub kept : KeepsUnread old.frame new.frame old.left new.left

-- ---- writing that fails

-- a prefix of these bytes was written
pub record Breaks (written written' : Option (List ℕ)) (begun : List ℕ) : Type 0 where
  pub part : List ℕ
  pub left : List ℕ
  pub begun_is : begun ≡ part ++ left
  pub appended : Appends written written' part

-- what is written next, where no request is answered: the reply to a head that is refused, or 100 Continue
pub record BeginsRefusal (room : ℕ) (all begun : List ℕ) : Type 0 where
  pub code : ℕ
  pub refused : IsRefusedNext room all code
  pub begun_is : begun ≡ refusal_bytes code

pub record BeginsLeave (room : ℕ) (all begun : List ℕ) : Type 0 where
  pub asked : Request
  pub path : Option (List ℕ)
  pub after : List ℕ
  pub head : IsFound room all asked path after
  pub waits : asked.expects ≡ true
  pub begun_is : begun ≡ continue_bytes

abbrev pub IsBegunAt : ℕ → List ℕ → List ℕ → Type 0
IsBegunAt room all begun = BeginsRefusal room all begun ⊎ BeginsLeave room all begun

-- the source failed: what was read ends the input between requests, or within one
pub record ReadsPart (room : ℕ) (all rest : List ℕ) (written written' : Option (List ℕ)) : Type 0 where
  pub read : List ℕ
  pub all_is : all ≡ read ++ rest
  pub extra : List ℕ
  pub ends : ((read ≡ []) × (extra ≡ [])) ⊎ IsCutInput room read extra
  pub appended : Appends written written' extra

-- ---- one request, whole

-- a request was read and answered
pub record Serving (old new : Moment) (request : Asking) (answer : Answer) : Type 0 where
  pub kind : PathKind
  pub of_kind : IsOfKind new.board.conf.shape.top request.path kind
  pub whole : IfSome (unread_of old.input) (λ all. IsSomeAnd (unread_of new.input) (λ more. IsWhole (room_of new.board.conf) all request.asked request.path request.body more))
  pub serves : Serves request (call_of request.asked.method kind) old.board new.board old.steps new.steps answer

-- a request was read and answered, and its reply was written; `count` others came before it
pub record IsServedOne (count : ℕ) (old new : Moment) (closed : Bool) : Type 0 where
  pub request : Asking
  pub answer : Answer
  pub serving : Serving old new request answer
  pub sent : Appends old.output.held new.output.held (output_of (closes count request) request.asked answer)
  pub memory_faults_is : new.memory_faults ≡ memory_faults_after old.memory_faults answer
  pub closed_is : closed ≡ request.asked.close

-- a writing failed in what is written for a request that was answered
pub record BreaksOne (count : ℕ) (old new : Moment) : Type 0 where
  pub request : Asking
  pub answer : Answer
  pub serving : Serving old new request answer
  pub broken : Breaks old.output.held new.output.held (output_of (closes count request) request.asked answer)
  pub memory_faults_is : new.memory_faults ≡ memory_faults_after old.memory_faults answer

-- why no request was answered, where these were the unread bytes
abbrev pub EndsOne : SessionEnd → ℕ → List ℕ → Option (List ℕ) → Option (List ℕ) → Option (List ℕ) → Type 0
EndsOne Closed room all left written written' = (all ≡ []) × Appends written written' []
EndsOne (Refused code) room all left written written' = IsRefusedNext room all code × Appends written written' (refusal_bytes code)
EndsOne Cut room all left written written' = (extra : List ℕ) × IsCutInput room all extra × Appends written written' extra
EndsOne ReadFault room all left written written' = IsSomeAnd left (λ rest. ReadsPart room all rest written written')
EndsOne WriteFault room all left written written' = (begun : List ℕ) × IsBegunAt room all begun × Breaks written written' begun
EndsOne end room all left written written' = ⊥

-- nothing happened on the board
pub record Untouched (old new : Moment) : Type 0 where
  pub board : new.board ≡ old.board
  pub steps_are : new.steps ≡ old.steps
  pub wants_are : new.memory_faults ≡ old.memory_faults

-- how a connection ended instead of a request that was answered and written whole
pub record StopsOne (count : ℕ) (old new : Moment) (end : SessionEnd) : Type 0 where
  pub how : ((end ≡ WriteFault) × BreaksOne count old new)
      ⊎ (Untouched old new × IfSome (unread_of old.input) (λ all. EndsOne end (room_of old.board.conf) all new.input.left old.output.held new.output.held))

-- the first of the unread bytes were taken, and the source has the rest
pub record LeavesPart (all : List ℕ) (left : Option (List ℕ)) : Type 0 where
  pub gone : List ℕ
  pub rest : List ℕ
  pub left_is : left ≡ Some rest
  pub all_is : all ≡ gone ++ rest

-- all that is held was flushed, or nothing was written and nothing flushed; where a writing failed, some more may have been
pub record FlushesOne (old new : Output) (result : Result Bool SessionEnd) : Type 0 where
  pub flushed : OnOk result (new.flushed ≡ new.held)
  pub flushes : IfErr result (λ end. ¬ (end ≡ WriteFault) → FlushesAll old.held new.held old.flushed new.flushed)
  pub breaks : result ≡ Err WriteFault → (more : List ℕ) × Flushes old.held old.flushed new.flushed more

-- a connection ended so, and the counts of faults of source and sink show it
abbrev pub FaultsAt : SessionEnd → Moment → Moment → Type 0
FaultsAt end old new = CountsFaults end old.input.faults new.input.faults old.output.faults new.output.faults

-- neither source nor sink failed, or the connection ended by that, and not out of memory
abbrev pub FaultsOne : {T : Type 0} → Moment → Moment → Result T SessionEnd → Type 0
FaultsOne old new (Ok _) = (new.input.faults ≡ old.input.faults) × (new.output.faults ≡ old.output.faults)
FaultsOne old new (Err end) = FaultsAt end old new × (end ≢ OutOfMemory)

-- what came of the next request, where `count` others came before it; `Ok` says whether it asked to close
pub record ServesOne (count : ℕ) (old new : Moment) (result : Result Bool SessionEnd) : Type 0 where
  pub ok : IfOk result (IsServedOne count old new)
  pub stops : IfErr result (StopsOne count old new)
  pub left : IfSome (unread_of old.input) (λ all. LeavesPart all new.input.left)
  pub turn : OnOk result (new.input.frame.turn ≡ AtHead)
  pub hands : FlushesOne old.output new.output result
  pub faults : FaultsOne old new result
  pub never_falls : NeverFalls old new

-- ---- after a head

-- a body was read, and the call is answered
pub record Replied (asked : Request) (wanted : Call) (old new : Moment) (answer : Answer) : Type 0 where
  pub body : List ℕ
  pub takes : TakesBody asked.length old.input new.input body
  pub serves : Serves (record { asked = asked; path = old.input.frame.path; body = body }) wanted old.board new.board old.steps new.steps answer
  pub memory_faults_is : new.memory_faults ≡ memory_faults_after old.memory_faults answer

-- how a connection ends where a body isn't whole
abbrev pub body_end : FrameStop → SessionEnd
body_end stop.ReadFault = ReadFault
body_end _ = Cut

-- no body was read, and nothing else happened
pub record Halts (asked : Request) (old new : Moment) (end : SessionEnd) : Type 0 where
  pub stop : FrameStop
  pub leaves : LeavesNoBody asked.length old.input new.input stop
  pub end_is : end ≡ body_end stop
  pub untouched : Untouched old new
  pub written_is : new.output.held ≡ old.output.held

-- all that is held was flushed; or no more was, and nothing was written unless a writing failed
pub record FlushesCall (old new : Output) (result : Result (Unit {0}) SessionEnd) : Type 0 where
  pub flushed : OnOk result (new.flushed ≡ new.held)
  pub stays : OnErr result (new.flushed ≡ old.flushed)
  pub unwritten : IfErr result (λ end. ¬ (end ≡ WriteFault) → new.held ≡ old.held)

-- what came of a call: it was answered, and its reply was written; or a writing failed in the reply; or the body isn't whole
pub record ServesCall (asked : Request) (wanted : Call) (close : Bool) (old new : Moment) (result : Result (Unit {0}) SessionEnd) : Type 0 where
  pub ok : OnOk result ((answer : Answer) × Replied asked wanted old new answer × Appends old.output.held new.output.held (reply_of close asked answer))
  pub broken : result ≡ Err WriteFault → (answer : Answer) × Replied asked wanted old new answer × AppendsPrefix old.output.held new.output.held (reply_of close asked answer)
  pub halted : IfErr result (λ end. ¬ (end ≡ WriteFault) → Halts asked old new end)
  pub hands : FlushesCall old.output new.output result
  pub faults : FaultsOne old new result
  pub never_falls : NeverFalls old new

-- ---- many requests

-- what was answered so far, of the bytes that the source had left at first
pub record Progress (count : ℕ) (first now : Moment) : Type 0 where
  pub conf : now.board.conf ≡ first.board.conf
  pub opening : now.board.opening ≡ first.board.opening
  pub legal : IsHistory now.board.opening now.board.history
  pub begins : Begins first.board.history now.board.history
  pub seat : KeepsSeat first.board now.board
  pub requests : List Asking
  pub outputs : List (List ℕ)
  pub last : Point
  pub count_is : length requests ≡ count
  pub few : length last.own ≤ count
  pub at : IsAt first.board.own first.steps now.board now.steps now.memory_faults last
  pub answered : AreAnswered now.board.conf now.board.opening now.board.history 0 (first_point first.board.history) requests last outputs
  pub taken : IfSome first.input.left (λ all. IsSomeAnd (unread_of now.input) (λ rest. AreRequests (room_of now.board.conf) all requests rest))

-- none was answered, and nothing was written or flushed; or all that is held was flushed
abbrev pub HasFlushed : List (List ℕ) → Option (List ℕ) → Option (List ℕ) → Option (List ℕ) → Option (List ℕ) → Type 0
HasFlushed outputs held held' handed handed' = ((outputs ≡ []) × (held' ≡ held) × (handed' ≡ handed)) ⊎ (handed' ≡ held')

-- none of these asked to close, and all that they were answered was written and flushed
pub record Going (count : ℕ) (first now : Moment) : Type 0 where
  pub progress : Progress count first now
  pub none_closes : All (λ request. request.asked.close ≡ false) progress.requests
  pub written_is : Appends first.output.held now.output.held (concat progress.outputs)
  pub handed_is : HasFlushed progress.outputs first.output.held now.output.held first.output.flushed now.output.flushed

-- ---- a whole connection

-- it is served from its first moment to its last, where its source had these bytes
abbrev pub IsServedTo : Moment → Moment → SessionEnd → List ℕ → Type 0
IsServedTo first last end bytes =
    IsServed first.board last.board bytes (connection_at first) (connection_at last) first.steps last.steps (record { end = end; memory_faults = last.memory_faults })

-- what came of its requests
pub record ServesAll (first last : Moment) (end : SessionEnd) : Type 0 where
  pub goes : Goes first.board last.board
  pub memory_faults : last.memory_faults ≤ most_requests
  pub faults : FaultsAt end first last
  pub memory : end ≢ OutOfMemory
  pub flushed : ¬ (end ≡ WriteFault) → FlushesAll first.output.held last.output.held first.output.flushed last.output.flushed
  pub source_never_falls : first.input.faults ≤ last.input.faults
  pub sink_never_falls : first.output.faults ≤ last.output.faults
  pub steps_never_fall : first.steps ≤ last.steps
  pub room : last.input.frame.room ≡ first.input.frame.room
