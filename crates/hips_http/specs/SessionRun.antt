-- One connection, from when it is taken to when it is given back: which requests its input has, what they are answered, how
-- it ends, and what is written. This project's profile; framing by RFC 9112.
use Rattle.std.specs.Prelude.{◌≡◌, ◌⊎◌, ℕ, ◌+◌, ◌-◌, ◌*◌, ◌<◌, ◌≤◌, ◌==◌, ◌||◌, Bool, true, false, List, [], ◌∷◌, ◌++◌, length, All, Option, None, Some}
use Rattle.std.specs.List.{concat}
use Rattle.fits_header.specs.Cards.{whole_blocks}
use Rattle.fits_tile.specs.TileFile.{data_len}
use Rattle.survey_conf.specs.Description.{Description}
use Rattle.survey_link.specs.Door.{Connection}
use Rattle.survey_link.specs.Link.{CountsFault}
use Rattle.edit_journal.specs.Leaves.{LeafTiles}
use Rattle.http_frame.specs.declared.request.Request.{Request}
use Rattle.http_frame.specs.Next.{IsCut, IsCutInBody, IsFound, IsRefusedNext, IsWhole}
use Rattle.http_frame.specs.Reply.{continue_bytes}
use Rattle.survey_core.specs.History.{SurveyState, IsHistory, Begins}
use Rattle.reader_pin.specs.Board.{BoardContent, KeepsSeat}
use Rattle.std.specs.Io.KnownBytes.{Appends}
use Rattle.hips_http.specs.declared.served.Served.{Served}
use Rattle.hips_http.specs.declared.served.SessionEnd.{SessionEnd}
use Rattle.hips_http.specs.declared.served.SessionEnd.TheVariants.{Closed, Asked, Refused, Cut, Spent, ReadFault, WriteFault, OutOfMemory}
use Rattle.hips_http.specs.Replies.{Answer, leave_bytes, output_of, refusal_bytes}
use Rattle.hips_http.specs.Answers.{Asking, Point, IsAnswered}

-- the most requests of a connection
abbrev pub most_requests : ℕ
most_requests = 65536

-- how many bytes a body may have: four times what a tile file may have
abbrev pub room_of : Description → ℕ
room_of conf = 4 * (106560 + whole_blocks (data_len conf.shape))

-- ---- the requests

-- the bytes are these requests, one after another, and then the rest
abbrev pub AreRequests : ℕ → List ℕ → List Asking → List ℕ → Type 0
AreRequests room bytes [] rest = rest ≡ bytes
AreRequests room bytes (request ∷ requests) rest =
    (more : List ℕ) × IsWhole room bytes request.asked request.path request.body more × AreRequests room more requests rest

-- the connection is closed after the reply: the request asked for it, or it is the last that may be answered; `count` came
-- before it
abbrev pub closes : ℕ → Asking → Bool
closes count request = request.asked.close || (count + 1 == most_requests)

-- a request is answered, and this is all that is written for it
pub record IsOutput (conf : Description) (opening : LeafTiles) (states : List SurveyState) (count : ℕ) (request : Asking) (before after : Point) (output : List ℕ) : Type 0 where
  pub answer : Answer
  pub answered : IsAnswered conf opening states request before after answer
  pub output_is : output ≡ output_of (closes count request) request.asked answer

-- they are answered one after another, `count` others before them, with these outputs
abbrev pub AreAnswered : Description → LeafTiles → List SurveyState → ℕ → Point → List Asking → Point → List (List ℕ) → Type 0
AreAnswered conf opening states count before [] after outputs = (after ≡ before) × (outputs ≡ [])
AreAnswered conf opening states count before (request ∷ requests) after [] = ⊥
AreAnswered conf opening states count before (request ∷ requests) after (output ∷ outputs) = (mid : Point)
    × IsOutput conf opening states count request before mid output
    × AreAnswered conf opening states (count + 1) mid requests after outputs

-- ---- the end

-- none of them asked to close, and more may come
pub record GoOn (requests : List Asking) : Type 0 where
  pub none_closes : All (λ request. request.asked.close ≡ false) requests
  pub few : length requests < most_requests

-- a last one comes after requests that went on
pub record EndsWith (requests : List Asking) (last : Asking) : Type 0 where
  pub before : List Asking
  pub is : requests ≡ before ++ last ∷ []
  pub went_on : GoOn before

-- the input ends within a request, and this is written for it: 100 Continue, if it waited for that
pub record IsCutInput (room : ℕ) (rest extra : List ℕ) : Type 0 where
  pub cut : (IsCut rest × (extra ≡ [])) ⊎ ((body : IsCutInBody room rest) × (extra ≡ leave_bytes body.asked))

-- what was written is these outputs, which were all flushed, and then a prefix of one that was begun
pub record BreaksOff (outputs : List (List ℕ)) (begun out handed : List ℕ) : Type 0 where
  pub part : List ℕ
  pub left : List ℕ
  pub begun_is : begun ≡ part ++ left
  pub out_is : out ≡ concat outputs ++ part
  pub more : List ℕ
  pub handed_is : handed ≡ concat outputs ++ more

-- a writing failed in what is written for the last request that was answered
pub record BreaksInReply (requests : List Asking) (outputs : List (List ℕ)) (out handed : List ℕ) : Type 0 where
  pub last : Asking
  pub ends : EndsWith requests last
  pub before : List (List ℕ)
  pub begun : List ℕ
  pub outputs_are : outputs ≡ before ++ begun ∷ []
  pub broken : BreaksOff before begun out handed

-- it failed in the reply to a head that is refused
pub record BreaksInRefusal (room : ℕ) (rest : List ℕ) (outputs : List (List ℕ)) (out handed : List ℕ) : Type 0 where
  pub code : ℕ
  pub refused : IsRefusedNext room rest code
  pub broken : BreaksOff outputs (refusal_bytes code) out handed

-- it failed in 100 Continue, and the body wasn't read
pub record BreaksInLeave (room : ℕ) (rest : List ℕ) (outputs : List (List ℕ)) (out handed : List ℕ) : Type 0 where
  pub asked : Request
  pub path : Option (List ℕ)
  pub after : List ℕ
  pub head : IsFound room rest asked path after
  pub waits : asked.expects ≡ true
  pub broken : BreaksOff outputs continue_bytes out handed

-- a connection as the proof sees it: the bytes that were read of it and those left, the bytes that were written and those of
-- them that were flushed, and the counts of faults of its source and of its sink, before and after
pub record Exchange : Type 0 where
  pub read : List ℕ
  pub left : List ℕ
  pub written : List ℕ
  pub flushed : List ℕ
  pub source_faults : ℕ
  pub source_faults_then : ℕ
  pub sink_faults : ℕ
  pub sink_faults_then : ℕ

-- all that there was to read
abbrev pub input_of : Exchange → List ℕ
input_of exchange = exchange.read ++ exchange.left

-- the bytes that decide an end: those that were read, as though the input ended there, if the source failed; else all
abbrev pub input_seen : SessionEnd → Exchange → List ℕ
input_seen ReadFault exchange = exchange.read
input_seen _ exchange = input_of exchange

-- how it ended, after these requests with these outputs and before the rest
abbrev pub Ends : SessionEnd → ℕ → List Asking → List ℕ → List (List ℕ) → Exchange → Type 0
Ends Closed room requests rest outputs exchange = GoOn requests × (rest ≡ []) × (exchange.written ≡ concat outputs)
Ends Asked room requests rest outputs exchange =
    ((last : Asking) × EndsWith requests last × (last.asked.close ≡ true)) × (exchange.written ≡ concat outputs)
Ends Spent room requests rest outputs exchange =
    (length requests ≡ most_requests) × All (λ request. request.asked.close ≡ false) requests × (exchange.written ≡ concat outputs)
Ends (Refused code) room requests rest outputs exchange =
    GoOn requests × IsRefusedNext room rest code × (exchange.written ≡ concat outputs ++ refusal_bytes code)
Ends Cut room requests rest outputs exchange =
    GoOn requests × ((extra : List ℕ) × IsCutInput room rest extra × (exchange.written ≡ concat outputs ++ extra))
Ends ReadFault room requests rest outputs exchange =
    GoOn requests × ((extra : List ℕ) × (((rest ≡ []) × (extra ≡ [])) ⊎ IsCutInput room rest extra) × (exchange.written ≡ concat outputs ++ extra))
Ends WriteFault room requests rest outputs exchange = BreaksInReply requests outputs exchange.written exchange.flushed
    ⊎ (GoOn requests × (BreaksInRefusal room rest outputs exchange.written exchange.flushed ⊎ BreaksInLeave room rest outputs exchange.written exchange.flushed))
Ends OutOfMemory room requests rest outputs exchange = (requests ≡ []) × (exchange.read ≡ []) × (exchange.written ≡ [])

-- the source failed
abbrev pub is_read_fault : SessionEnd → Bool
is_read_fault ReadFault = true
is_read_fault _ = false

-- the sink failed
abbrev pub is_write_fault : SessionEnd → Bool
is_write_fault WriteFault = true
is_write_fault _ = false

-- the source's count of faults rose if and only if the source failed, and the sink's if and only if the sink did
pub record CountsFaults (end : SessionEnd) (source source_then sink sink_then : ℕ) : Type 0 where
  pub read : CountsFault (is_read_fault end) source source_then
  pub write : CountsFault (is_write_fault end) sink sink_then

-- all that was written was flushed, unless a writing failed: then all but what was begun then, as said there
abbrev pub AllFlushed : SessionEnd → Exchange → Type 0
AllFlushed WriteFault exchange = Unit {0}
AllFlushed _ exchange = exchange.flushed ≡ exchange.written

-- a connection begins at the last state that was seen before it, and holds none
abbrev pub first_point : List SurveyState → Point
first_point states = record { place = length states - 1; held = None; own = []; memory_faults = 0; cost = 0 }

-- running out of memory at the beginning changes nothing
abbrev pub KeepsStates : SessionEnd → List SurveyState → List SurveyState → Type 0
KeepsStates OutOfMemory states states' = states' ≡ states
KeepsStates _ states states' = Unit {0}

-- one connection: the states seen before it, its exchange, the places of its own events, the states seen after it, its end,
-- and its memory faults, how many of its replies were 503
pub record SessionRun (conf : Description) (opening : LeafTiles) (states : List SurveyState) (exchange : Exchange) (own : List ℕ)
    (states' : List SurveyState) (end : SessionEnd) (memory_faults : ℕ) : Type 0 where
  pub history : IsHistory opening states'
  pub begins : Begins states states'
  pub kept : KeepsStates end states states'
  pub requests : List Asking
  pub rest : List ℕ
  pub are_requests : AreRequests (room_of conf) (input_seen end exchange) requests rest
  pub last : Point
  pub outputs : List (List ℕ)
  pub answered : AreAnswered conf opening states' 0 (first_point states) requests last outputs
  pub own_is : own ≡ last.own
  pub memory_faults_is : memory_faults ≡ last.memory_faults
  pub ended : Ends end (room_of conf) requests rest outputs exchange
  pub flushed : AllFlushed end exchange
  pub faults : CountsFaults end exchange.source_faults exchange.source_faults_then exchange.sink_faults exchange.sink_faults_then

-- ---- a call

-- a sink that held these bytes has flushed all that it holds; or nothing was written, and nothing flushed
abbrev pub FlushesAll : Option (List ℕ) → Option (List ℕ) → Option (List ℕ) → Option (List ℕ) → Type 0
FlushesAll held held' handed handed' = (handed' ≡ held') ⊎ ((held' ≡ held) × (handed' ≡ handed))

-- of what was written to a sink that held these bytes, those bytes were flushed, and so was all that it had held back; or
-- nothing was flushed
abbrev pub Flushes : Option (List ℕ) → Option (List ℕ) → Option (List ℕ) → List ℕ → Type 0
Flushes held handed handed' bytes = Appends held handed' bytes ⊎ ((handed' ≡ handed) × (bytes ≡ []))

-- what serving a connection did, whose source had this input: to the board, to the connection as the proof sees it, and to
-- the count of steps
pub record IsServed (old new : BoardContent) (input : List ℕ) (taken back : Connection) (steps steps' : ℕ) (served : Served) : Type 0 where
  pub read : List ℕ
  pub rest : List ℕ
  pub out : List ℕ
  pub own : List ℕ
  pub input_is : input ≡ read ++ rest
  pub left_is : back.unread ≡ Some rest
  pub appended : Appends taken.written back.written out
  pub passed : List ℕ
  pub passed_is : Flushes taken.written taken.flushed back.flushed passed
  pub own_is : new.own ≡ old.own ++ own
  pub run : SessionRun new.conf new.opening old.history
      (record {
        read = read;
        left = rest;
        written = out;
        flushed = passed;
        source_faults = taken.source_faults;
        source_faults_then = back.source_faults;
        sink_faults = taken.sink_faults;
        sink_faults_then = back.sink_faults;
      })
      own new.history served.end served.memory_faults
  pub steps_are : served.memory_faults ≡ 0 → steps' ≤ steps + run.last.cost

-- what is true of it, also where the proof can't see its bytes
pub record Goes (old new : BoardContent) : Type 0 where
  pub conf : new.conf ≡ old.conf
  pub opening : new.opening ≡ old.opening
  pub legal : IsHistory new.opening new.history
  pub begins : Begins old.history new.history
  pub seat : KeepsSeat old new
  pub own : List ℕ
  pub own_is : new.own ≡ old.own ++ own
  pub few : length own ≤ most_requests
