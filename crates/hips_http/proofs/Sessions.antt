-- Whole connections, from their requests.
use Rattle.std.proofs.Common.{◌≡◌, ◌⊎◌, inl, inr, ℕ, suc, ◌+◌, ◌<◌, ◌≤◌, true, false, List, [], ◌∷◌, ◌++◌, length, Option, Some, None, Ok, Err, refl, sym, ap, ◌∙◌, subst, arith, append_assoc, length-append}
use Rattle.std.specs.Prelude.{◌≢◌, IfSome, IsSomeAnd, All}
use Rattle.std.specs.List.{concat}
use Rattle.std.specs.Io.KnownBytes.{Appends, prepend_known}
use Rattle.std.proofs.lemmas.List.{append-nil}
use Rattle.std.proofs.lemmas.List.Elements.{All-push}
use Rattle.survey_conf.specs.Description.{Description}
use Rattle.edit_journal.specs.Leaves.{LeafTiles}
use Rattle.http_frame.specs.Next.{IsWhole}
use Rattle.http_frame.specs.declared.stop.Turn.TheVariants.{AtHead}
use Rattle.survey_core.specs.History.{SurveyState, IsHistory}
use Rattle.survey_core.specs.HistoryLaws.{begins_trans, history_some}
use Rattle.reader_pin.specs.Board.{BoardContent, IsOwned, holding_none}
use Rattle.reader_pin.specs.SeatLaws.{keeps_trans, keeps_holding_none}
use Rattle.hips_http.specs.declared.call.Call.{Call}
use Rattle.hips_http.specs.declared.call.Call.TheVariants as call
use Rattle.hips_http.specs.declared.served.SessionEnd.{SessionEnd}
use Rattle.hips_http.specs.declared.served.SessionEnd.TheVariants as end
use Rattle.hips_http.specs.Paths.{call_of}
use Rattle.hips_http.specs.Replies.{Answer, output_of, refusal_bytes}
use Rattle.hips_http.specs.Answers.{Asking, Point, Asked, asked_put, asked_delete, asked_batch, Changes, Answers}
use Rattle.hips_http.specs.Moment.{Input, Output, Moment, moment, unread_of, NeverFalls}
use Rattle.hips_http.specs.SessionRun.{Exchange, AreRequests, AreAnswered, IsOutput, closes, room_of, most_requests, first_point, GoOn, EndsWith, BreaksOff, BreaksInRefusal, BreaksInLeave, input_seen, Ends, AllFlushed, KeepsStates, Flushes, FlushesAll, Goes}
use Rattle.hips_http.specs.Progress.{IsAt, Serving, IsServedOne, BreaksOne, StopsOne, EndsOne, IsBegunAt, LeavesPart, Progress, Going, HasFlushed, memory_faults_after, FaultsAt, FaultsOne, ServesOne, ServesAll}
use Rattle.hips_http.proofs.Runs.{answered_more, answered_push, requests_push}
use Rattle.hips_http.proofs.Truncated.{requests_front}
use Rattle.hips_http.proofs.Steps.{appends_trans, split_of, faults_from}
use Rattle.hips_http.proofs.Flushed.{HandsMore, hands_all, hands_all_on, has_handed_all, hands_before}
use Rattle.hips_http.proofs.Whole.{appends_nothing, begins_same}
use Rattle.hips_http.proofs.InOrder.{FlushesReplies, ServedAfter}

-- ---- one request more

changes_own : (opening : LeafTiles) (states : List SurveyState) (asked : Asked) (before after : Point) (answer : Answer) → Changes opening states asked before after answer → length after.own ≤ length before.own + 1
changes_own opening states (Err refusal) before after answer (inl j) = omega (arith, ap length j.0.own)
changes_own opening states (Ok change) before after answer (inl (inl r)) = omega (arith, ap length r.kept.own)
changes_own opening states (Ok change) before after answer (inl (inr a)) = omega (arith, ap length a.step.own, length-append before.own (after.place ∷ []))
changes_own opening states asked before after answer (inr none) = omega (arith, ap length none.own)

own_one : (conf : Description) (opening : LeafTiles) (states : List SurveyState) (request : Asking) (wanted : Call) (before after : Point) (answer : Answer)
    → Answers conf opening states request wanted before after answer → length after.own ≤ length before.own + 1
own_one conf opening states request (call.NotAllowed allow) before after answer is = omega (arith, ap length is.0.own)
own_one conf opening states request (call.File file) before after answer is = omega (arith, ap length is.kept.own)
own_one conf opening states request call.Pin before after answer is = omega (arith, ap length is.holds.own)
own_one conf opening states request call.Unpin before after answer is = omega (arith, ap length is.0.own)
own_one conf opening states request call.Publish before after answer (inl p) = omega (arith, ap length p.step.own, length-append before.own (after.place ∷ []))
own_one conf opening states request call.Publish before after answer (inr (inl h)) = omega (arith, ap length h.kept.own)
own_one conf opening states request call.Publish before after answer (inr (inr none)) = omega (arith, ap length none.own)
own_one conf opening states request call.Batch before after answer is = changes_own opening states (asked_batch conf request) before after answer is
own_one conf opening states request (call.Put leaf) before after answer is = changes_own opening states (asked_put conf request leaf) before after answer is
own_one conf opening states request (call.Delete leaf) before after answer is = changes_own opening states (asked_delete request leaf) before after answer is

taken_more : (room : ℕ) (b m n : Option (List ℕ)) (requests : List Asking) (request : Asking) → IfSome b (λ all. IsSomeAnd m (λ rest. AreRequests room all requests rest))
    → IfSome m (λ after. IsSomeAnd n (λ more. IsWhole room after request.asked request.path request.body more)) → IfSome b (λ all. IsSomeAnd n (λ rest. AreRequests room all (requests ++ request ∷ []) rest))
taken_more room None m n requests request taken whole = tt
taken_more room (Some all) None n requests request taken whole = absurd taken
taken_more room (Some all) (Some after) None requests request taken whole = absurd whole
taken_more room (Some all) (Some after) (Some more) requests request taken whole = requests_push room all requests after request more taken whole

-- the progress with one request more
record Pushed (count : ℕ) (first now : Moment) (requests : List Asking) (outputs : List (List ℕ)) (request : Asking) (output : List ℕ) : Type 0 where
  pub next : Progress (count + 1) first now
  pub requests_are : next.requests ≡ requests ++ request ∷ []
  pub outputs_are : next.outputs ≡ outputs ++ output ∷ []

push : (count : ℕ) (first now new : Moment) (p : Progress count first now) (request : Asking) (answer : Answer) → Serving now new request answer → new.memory_faults ≡ memory_faults_after now.memory_faults answer
    → Pushed count first new p.requests p.outputs request (output_of (closes count request) request.asked answer)
push count first now new p request answer s want =
    let sv = s.serves.at_each first.board.own first.steps now.memory_faults p.last p.at in
    let conf : new.board.conf ≡ now.board.conf = s.serves.conf in
    let opening : new.board.opening ≡ now.board.opening = s.serves.opening in
    let states = first.board.history in
    let output = output_of (closes count request) request.asked answer in
    let earlier : AreAnswered now.board.conf now.board.opening new.board.history 0 (first_point states) p.requests p.last p.outputs
    = answered_more now.board.conf now.board.opening now.board.history new.board.history s.serves.begins 0 (first_point states) p.requests p.last p.outputs p.answered in
    let here : AreAnswered new.board.conf new.board.opening new.board.history 0 (first_point states) p.requests p.last p.outputs
    = subst (λ (c : Description). AreAnswered c new.board.opening new.board.history 0 (first_point states) p.requests p.last p.outputs) (sym conf)
    (subst (λ (l : LeafTiles). AreAnswered now.board.conf l new.board.history 0 (first_point states) p.requests p.last p.outputs) (sym opening) earlier) in
    let one : IsOutput new.board.conf new.board.opening new.board.history count request p.last sv.after output = record {
      answer = answer;
      answered = record {
        kind = s.kind;
        of_kind = s.of_kind;
        never_falls = sv.never_falls;
        within = sv.at.within;
        answers = sv.answers;
        cost = sv.cost;
      };
      output_is = refl;
    } in
    let count_is : length p.requests ≡ count = p.count_is in
    record {
      next = record {
        conf = conf ∙ p.conf;
        opening = opening ∙ p.opening;
        legal = s.serves.legal;
        begins = begins_trans first.board.history now.board.history new.board.history p.begins s.serves.begins;
        seat = keeps_trans first.board now.board new.board p.seat s.serves.seat;
        requests = p.requests ++ request ∷ [];
        outputs = p.outputs ++ output ∷ [];
        last = sv.after;
        count_is = length-append p.requests (request ∷ []) ∙ ap (λ n. n + 1) count_is;
        few = (let few = p.few in let one_more = own_one new.board.conf new.board.opening new.board.history request (call_of request.asked.method s.kind) p.last sv.after answer sv.answers in omega arith);
        at = subst (λ (n : ℕ). IsAt first.board.own first.steps new.board new.steps n sv.after) (sym want) sv.at;
        answered = answered_push new.board.conf new.board.opening new.board.history 0 count (first_point states) p.requests p.last p.outputs request sv.after output (omega (arith, count_is)) here one;
        taken = taken_more (room_of new.board.conf) first.input.left (unread_of now.input) (unread_of new.input) p.requests request
            (subst (λ (c : Description). IfSome first.input.left (λ all. IsSomeAnd (unread_of now.input) (λ rest. AreRequests (room_of c) all p.requests rest))) (sym conf) p.taken) s.whole;
      };
      requests_are = refl;
      outputs_are = refl;
    }

concat-push : (outputs : List (List ℕ)) (output : List ℕ) → concat (outputs ++ output ∷ []) ≡ concat outputs ++ output
concat-push [] output = append-nil output
concat-push (x ∷ xs) output = ap (λ (b : List ℕ). x ++ b) (concat-push xs output) ∙ sym (append_assoc x (concat xs) output)

goes_on : (count : ℕ) (first now new : Moment) → Going count first now → IsServedOne count now new false → new.output.flushed ≡ new.output.held → Going (count + 1) first new
goes_on count first now new g s on =
    let p = g.progress in
    let out = output_of (closes count s.request) s.request.asked s.answer in
    let pushed = push count first now new p s.request s.answer s.serving s.memory_faults_is in
    record {
      progress = pushed.next;
      none_closes = rw pushed.requests_are (All-push (λ (r : Asking). r.asked.close ≡ false) p.requests s.request g.none_closes (sym s.closed_is));
      written_is = rw pushed.outputs_are (rw (concat-push p.outputs out) (appends_trans first.output.held now.output.held new.output.held (concat p.outputs) out g.written_is s.sent));
      handed_is = inr on;
    }

-- ---- the beginning

unread_all : (left : Option (List ℕ)) → prepend_known [] left ≡ left
unread_all None = refl
unread_all (Some bytes) = refl

all_told : (room : ℕ) (b b1 : Option (List ℕ)) → b1 ≡ b → IfSome b (λ all. IsSomeAnd b1 (λ rest. AreRequests room all [] rest))
all_told room None b1 same = tt
all_told room (Some all) b1 same = rw same refl

begins_going : (first : Moment) → first.board ≡ holding_none first.board → IsHistory first.board.opening first.board.history → IsOwned first.board → first.input.frame.held ≡ [] → first.memory_faults ≡ 0 → Going 0 first first
begins_going first is legal owned empty none_wanted =
    let board = first.board in
    let some : 0 < length board.history = history_some board.opening board.history legal in
    let same : unread_of first.input ≡ first.input.left = ap (λ (held : List ℕ). prepend_known held first.input.left) empty ∙ unread_all first.input.left in
    record {
      progress = record {
        conf = refl;
        opening = refl;
        legal = legal;
        begins = begins_same board.history board.history refl;
        seat = keeps_holding_none board board is owned;
        requests = [];
        outputs = [];
        last = first_point board.history;
        count_is = refl;
        few = omega arith;
        at = record {
          within = omega (arith, some);
          held = ap (λ (b : BoardContent). b.held) is;
          own_is = sym (append-nil board.own);
          own_seen = λ k d h. absurd (omega arith);
          memory_faults_is = none_wanted;
          steps_are = λ _. omega arith;
        };
        answered = (refl, refl);
        taken = all_told (room_of board.conf) first.input.left (unread_of first.input) same;
      };
      none_closes = λ k d h. absurd (omega arith);
      written_is = appends_nothing first.output.held;
      handed_is = inl (refl, refl, refl);
    }

-- ---- the end

-- an option of which something is known is there
record There (o : Option (List ℕ)) (P : List ℕ → Type 0) : Type 0 where
  bytes : List ℕ
  is : o ≡ Some bytes
  holds : P bytes

there_of : (P : List ℕ → Type 0) (o : Option (List ℕ)) → IsSomeAnd o P → There o P
there_of P None h = absurd h
there_of P (Some bytes) h = record { bytes = bytes; is = refl; holds = h }

told_at : (P : List ℕ → Type 0) (o : Option (List ℕ)) (bytes : List ℕ) → o ≡ Some bytes → IfSome o P → P bytes
told_at P None bytes is h = absurd (cc)
told_at P (Some x) bytes is h = let e : x ≡ bytes = cc in subst P e h

-- the bytes before the rest of the requests
front_part : (room : ℕ) (all : List ℕ) (requests : List Asking) (rest : List ℕ) → AreRequests room all requests rest → (left : Option (List ℕ)) → LeavesPart rest left → LeavesPart all left
front_part room all requests rest are left part =
    let f = requests_front room all requests [] rest are in
    record { gone = f.front ++ part.gone; rest = part.rest; left_is = part.left_is; all_is = f.all_is ∙ ap (λ (b : List ℕ). f.front ++ b) part.all_is ∙ sym (append_assoc f.front part.gone part.rest) }

appends_end : (a b c : Option (List ℕ)) (x : List ℕ) → Appends a b x → Appends b c [] → Appends a c x
appends_end a b c x h k = subst (λ (bytes : List ℕ). Appends a c bytes) (append-nil x) (appends_trans a b c x [] h k)

abbrev going_on : List Asking → Type 0
going_on requests = All (λ request. request.asked.close ≡ false) requests

-- what was taken so far of the bytes that the source had
taken_at : (count : ℕ) (first now : Moment) (p : Progress count first now) (bytes : List ℕ) → first.input.left ≡ Some bytes
    → There (unread_of now.input) (λ rest. AreRequests (room_of now.board.conf) bytes p.requests rest)
taken_at count first now p bytes is =
    there_of (λ rest. AreRequests (room_of now.board.conf) bytes p.requests rest) (unread_of now.input)
    (told_at (λ all. IsSomeAnd (unread_of now.input) (λ rest. AreRequests (room_of now.board.conf) all p.requests rest)) first.input.left bytes is p.taken)

-- what holds of the bytes of an option, where there are some
known : (P : List ℕ → Type 0) (o : Option (List ℕ)) → ((bytes : List ℕ) → o ≡ Some bytes → P bytes) → IfSome o P
known P None h = tt
known P (Some bytes) h = h bytes refl

-- its exchange
abbrev told_as : Moment → Input → Output → List ℕ → List ℕ → List ℕ → List ℕ → Exchange
told_as first input output read rest out passed = record {
  read = read;
  left = rest;
  written = out;
  flushed = passed;
  source_faults = first.input.faults;
  source_faults_then = input.faults;
  sink_faults = first.output.faults;
  sink_faults_then = output.faults;
}

-- the requests were answered by `now`, and these are the ends then
module _ (count : ℕ) (first now : Moment) (input : Input) (output : Output) (p : Progress count first now) (bytes read rest : List ℕ) (bytes_are : bytes ≡ read ++ rest) (left_is : input.left ≡ Some rest) (flushed : ℕ) where
  served_by : (ended : SessionEnd) → FaultsAt ended first (moment input output now.board now.steps now.memory_faults) → (out passed : List ℕ) → Appends first.output.held output.held out → Flushes first.output.held first.output.flushed output.flushed passed
      → KeepsStates ended first.board.history now.board.history → (r : List ℕ) → AreRequests (room_of now.board.conf) (input_seen ended (told_as first input output read rest out passed)) p.requests r
      → Ends ended (room_of now.board.conf) p.requests r p.outputs (told_as first input output read rest out passed) → AllFlushed ended (told_as first input output read rest out passed)
      → FlushesReplies flushed p.outputs passed → ServedAfter flushed first (moment input output now.board now.steps now.memory_faults) ended bytes
  served_by ended f out passed appended on keeps r are ends all_on replies = record {
    served = record {
      read = read;
      rest = rest;
      out = out;
      own = p.last.own;
      input_is = bytes_are;
      left_is = left_is;
      appended = appended;
      passed = passed;
      passed_is = on;
      own_is = p.at.own_is;
      run = record {
        history = p.legal;
        begins = p.begins;
        kept = keeps;
        requests = p.requests;
        rest = r;
        are_requests = are;
        last = p.last;
        outputs = p.outputs;
        answered = p.answered;
        own_is = refl;
        memory_faults_is = p.at.memory_faults_is;
        ended = ends;
        flushed = all_on;
        faults = f;
      };
      steps_are = p.at.steps_are;
    };
    replies = replies;
  }

  -- all that is told of the whole input
  whole_input : (r : List ℕ) → AreRequests (room_of now.board.conf) bytes p.requests r → AreRequests (room_of now.board.conf) (read ++ rest) p.requests r
  whole_input r are = subst (λ (all : List ℕ). AreRequests (room_of now.board.conf) all p.requests r) bytes_are are

-- each request has its reply
outputs_length : (conf : Description) (opening : LeafTiles) (states : List SurveyState) (count : ℕ) (before : Point) (requests : List Asking) (after : Point) (outputs : List (List ℕ))
    → AreAnswered conf opening states count before requests after outputs → length outputs ≡ length requests
outputs_length conf opening states count before [] after outputs is = ap length is.1
outputs_length conf opening states count before (request ∷ requests) after [] is = absurd is
outputs_length conf opening states count before (request ∷ requests) after (output ∷ outputs) is =
    ap suc (outputs_length conf opening states (count + 1) is.0 requests after outputs is.2)

-- all that was answered so far was flushed, and this more
flushes_all : (count : ℕ) (first now : Moment) (p : Progress count first now) (outputs later : List (List ℕ)) (passed more : List ℕ) → outputs ≡ p.outputs ++ later → passed ≡ concat p.outputs ++ more
    → FlushesReplies count outputs passed
flushes_all count first now p outputs later passed more outputs_are passed_is = record {
  replies = p.outputs;
  count_is = outputs_length now.board.conf now.board.opening now.board.history 0 (first_point first.board.history) p.requests p.last p.outputs p.answered ∙ p.count_is;
  later = later;
  outputs_are = outputs_are;
  more = more;
  flushed_is = passed_is;
}

begun_ends : (room : ℕ) (r : List ℕ) (outputs : List (List ℕ)) (begun out passed : List ℕ) → IsBegunAt room r begun → BreaksOff outputs begun out passed
    → BreaksInRefusal room r outputs out passed ⊎ BreaksInLeave room r outputs out passed
begun_ends room r outputs begun out passed (inl f) broken = inl (record { code = f.code; refused = f.refused; broken = subst (λ (b : List ℕ). BreaksOff outputs b out passed) f.begun_is broken })
begun_ends room r outputs begun out passed (inr l) broken =
    inr (record { asked = l.asked; path = l.path; after = l.after; head = l.head; waits = l.waits; broken = subst (λ (b : List ℕ). BreaksOff outputs b out passed) l.begun_is broken })

-- no request was answered in its place
module _ (count : ℕ) (first now : Moment) (input : Input) (output : Output) (p : Progress count first now) (bytes : List ℕ) (open_all : going_on p.requests)
    (written : Appends first.output.held now.output.held (concat p.outputs)) (before : HasFlushed p.outputs first.output.held now.output.held first.output.flushed now.output.flushed) (few : count < most_requests) where
  goes : GoOn p.requests
  goes = record { none_closes = open_all; few = (let c = p.count_is in omega (arith, c)) }

  flushed_by : {passed : List ℕ} (more : List ℕ) → passed ≡ concat p.outputs ++ more → FlushesReplies count p.outputs passed
  flushed_by {passed} more is = flushes_all count first now p p.outputs [] passed more (sym (append-nil p.outputs)) is

  unanswered_at : (ended : SessionEnd) (r : List ℕ) → AreRequests (room_of now.board.conf) bytes p.requests r → EndsOne ended (room_of now.board.conf) r input.left now.output.held output.held → LeavesPart r input.left
      → FaultsAt ended first (moment input output now.board now.steps now.memory_faults)
      → (¬ (ended ≡ end.WriteFault) → FlushesAll now.output.held output.held now.output.flushed output.flushed) → (ended ≡ end.WriteFault → HandsMore now.output.held now.output.flushed output.flushed)
      → ServedAfter count first (moment input output now.board now.steps now.memory_faults) ended bytes
  unanswered_at end.Closed r are ends part faults all more =
      let f = front_part (room_of now.board.conf) bytes p.requests r are input.left part in
      served_by count first now input output p bytes f.gone f.rest f.all_is f.left_is count end.Closed faults (concat p.outputs) (concat p.outputs) (appends_end first.output.held now.output.held output.held (concat p.outputs) written ends.1)
      (hands_all first.output.held output.held first.output.flushed output.flushed (concat p.outputs) (appends_end first.output.held now.output.held output.held (concat p.outputs) written ends.1) (hands_all_on p.outputs first.output.held now.output.held output.held first.output.flushed now.output.flushed output.flushed before (all (λ is. cc)))) tt r
      (whole_input count first now input output p bytes f.gone f.rest f.all_is f.left_is count r are) (goes, ends.0, refl) refl (flushed_by [] (sym (append-nil (concat p.outputs))))
  unanswered_at (end.Refused code) r are ends part faults all more =
      let f = front_part (room_of now.board.conf) bytes p.requests r are input.left part in
      served_by count first now input output p bytes f.gone f.rest f.all_is f.left_is count (end.Refused code) faults (concat p.outputs ++ refusal_bytes code) (concat p.outputs ++ refusal_bytes code)
      (appends_trans first.output.held now.output.held output.held (concat p.outputs) (refusal_bytes code) written ends.1)
      (hands_all first.output.held output.held first.output.flushed output.flushed (concat p.outputs ++ refusal_bytes code) (appends_trans first.output.held now.output.held output.held (concat p.outputs) (refusal_bytes code) written ends.1) (hands_all_on p.outputs first.output.held now.output.held output.held first.output.flushed now.output.flushed output.flushed before (all (λ is. cc)))) tt r
      (whole_input count first now input output p bytes f.gone f.rest f.all_is f.left_is count r are) (goes, ends.0, refl) refl (flushed_by (refusal_bytes code) refl)
  unanswered_at end.Cut r are ends part faults all more =
      let f = front_part (room_of now.board.conf) bytes p.requests r are input.left part in
      served_by count first now input output p bytes f.gone f.rest f.all_is f.left_is count end.Cut faults (concat p.outputs ++ ends.0) (concat p.outputs ++ ends.0)
      (appends_trans first.output.held now.output.held output.held (concat p.outputs) ends.0 written ends.2)
      (hands_all first.output.held output.held first.output.flushed output.flushed (concat p.outputs ++ ends.0) (appends_trans first.output.held now.output.held output.held (concat p.outputs) ends.0 written ends.2) (hands_all_on p.outputs first.output.held now.output.held output.held first.output.flushed now.output.flushed output.flushed before (all (λ is. cc)))) tt r
      (whole_input count first now input output p bytes f.gone f.rest f.all_is f.left_is count r are) (goes, (ends.0, ends.1, refl)) refl (flushed_by ends.0 refl)
  unanswered_at end.ReadFault r are ends part faults all more =
      let t = there_of _ input.left ends in
      let h = t.holds in
      let f = requests_front (room_of now.board.conf) bytes p.requests h.read t.bytes (subst (λ (b : List ℕ). AreRequests (room_of now.board.conf) bytes p.requests b) h.all_is are) in
      served_by count first now input output p bytes f.front t.bytes f.all_is t.is count end.ReadFault faults (concat p.outputs ++ h.extra) (concat p.outputs ++ h.extra)
      (appends_trans first.output.held now.output.held output.held (concat p.outputs) h.extra written h.appended)
      (hands_all first.output.held output.held first.output.flushed output.flushed (concat p.outputs ++ h.extra) (appends_trans first.output.held now.output.held output.held (concat p.outputs) h.extra written h.appended) (hands_all_on p.outputs first.output.held now.output.held output.held first.output.flushed now.output.flushed output.flushed before (all (λ is. cc)))) tt h.read f.holds (goes, (h.extra, h.ends, refl)) refl (flushed_by h.extra refl)
  unanswered_at end.WriteFault r are ends part faults all more =
      let f = front_part (room_of now.board.conf) bytes p.requests r are input.left part in
      let k = ends.2 in
      let out = concat p.outputs ++ k.part in
      let on = hands_before p.outputs first.output.held now.output.held first.output.flushed now.output.flushed output.flushed written before (more refl) in
      let broken : BreaksOff p.outputs ends.0 out on.passed = record { part = k.part; left = k.left; begun_is = k.begun_is; out_is = refl; more = on.more; handed_is = on.passed_is } in
      served_by count first now input output p bytes f.gone f.rest f.all_is f.left_is count end.WriteFault faults out on.passed
      (appends_trans first.output.held now.output.held output.held (concat p.outputs) k.part written k.appended) on.on tt r
      (whole_input count first now input output p bytes f.gone f.rest f.all_is f.left_is count r are)
      (inr (goes, begun_ends (room_of now.board.conf) r p.outputs ends.0 out on.passed ends.1 broken)) tt (flushed_by on.more on.passed_is)
  unanswered_at end.Asked r are ends part faults all more = absurd ends
  unanswered_at end.Spent r are ends part faults all more = absurd ends
  unanswered_at end.OutOfMemory r are ends part faults all more = absurd ends

-- ---- what is true of it always

goes_of : (count : ℕ) (first now : Moment) → count ≤ most_requests → Progress count first now → Goes first.board now.board
goes_of count first now few p = record {
  conf = p.conf;
  opening = p.opening;
  legal = p.legal;
  begins = p.begins;
  seat = p.seat;
  own = p.last.own;
  own_is = p.at.own_is;
  few = (let h = p.few in omega arith);
}

-- how a connection ended
record Ended (count : ℕ) (first last : Moment) (ended : SessionEnd) : Type 0 where
  pub goes : Goes first.board last.board
  pub served : IfSome first.input.left (ServedAfter count first last ended)

module _ (count : ℕ) (first now new : Moment) (few : count < most_requests) (g : Going count first now) where
  -- the first of the bytes that the source had were taken
  front_at : IfSome (unread_of now.input) (λ all. LeavesPart all new.input.left) → (bytes : List ℕ) → first.input.left ≡ Some bytes → LeavesPart bytes new.input.left
  front_at part bytes is =
      let before = taken_at count first now g.progress bytes is in
      front_part (room_of now.board.conf) bytes g.progress.requests before.bytes before.holds new.input.left (told_at (λ all. LeavesPart all new.input.left) (unread_of now.input) before.bytes before.is part)

  -- a last request is one more
  ends_with : (requests : List Asking) (last : Asking) → requests ≡ g.progress.requests ++ last ∷ [] → EndsWith requests last
  ends_with requests last is = record { before = g.progress.requests; is = is; went_on = record { none_closes = g.none_closes; few = (let c = g.progress.count_is in omega (arith, c)) } }

  -- in the reply to a request that was answered
  broken_served : BreaksOne count now new → IfSome (unread_of now.input) (λ all. LeavesPart all new.input.left) → FaultsAt end.WriteFault first new
      → HandsMore now.output.held now.output.flushed new.output.flushed → Ended count first new end.WriteFault
  broken_served s part faults more =
      let p = g.progress in
      let pushed = push count first now new p s.request s.answer s.serving s.memory_faults_is in
      let next = pushed.next in
      record {
        goes = goes_of (count + 1) first new (omega arith) next;
        served = known (ServedAfter count first new end.WriteFault) first.input.left (λ bytes is.
            let after = taken_at (count + 1) first new next bytes is in
            let f = front_at part bytes is in
            let k = s.broken in
            let out = concat p.outputs ++ k.part in
            let on = hands_before p.outputs first.output.held now.output.held first.output.flushed now.output.flushed new.output.flushed g.written_is g.handed_is more in
            served_by (count + 1) first new new.input new.output next bytes f.gone f.rest f.all_is f.left_is count end.WriteFault faults out on.passed
            (appends_trans first.output.held now.output.held new.output.held (concat p.outputs) k.part g.written_is k.appended) on.on tt after.bytes
            (whole_input (count + 1) first new new.input new.output next bytes f.gone f.rest f.all_is f.left_is count after.bytes after.holds)
            (inl (record {
              last = s.request;
              ends = ends_with next.requests s.request pushed.requests_are;
              before = p.outputs;
              begun = output_of (closes count s.request) s.request.asked s.answer;
              outputs_are = pushed.outputs_are;
              broken = record { part = k.part; left = k.left; begun_is = k.begun_is; out_is = refl; more = on.more; handed_is = on.passed_is };
            })) tt (flushes_all count first now p next.outputs (output_of (closes count s.request) s.request.asked s.answer ∷ []) on.passed on.more pushed.outputs_are on.passed_is));
      }

  -- a request that asked to close was answered
  asked_served : IsServedOne count now new true → IfSome (unread_of now.input) (λ all. LeavesPart all new.input.left) → new.output.flushed ≡ new.output.held → FaultsAt end.Asked first new → Ended count first new end.Asked
  asked_served s part on faults =
      let p = g.progress in
      let pushed = push count first now new p s.request s.answer s.serving s.memory_faults_is in
      let next = pushed.next in
      let output = output_of (closes count s.request) s.request.asked s.answer in
      let written : Appends first.output.held new.output.held (concat next.outputs)
      = rw pushed.outputs_are (rw (concat-push p.outputs output) (appends_trans first.output.held now.output.held new.output.held (concat p.outputs) output g.written_is s.sent)) in
      record {
        goes = goes_of (count + 1) first new (omega arith) next;
        served = known (ServedAfter count first new end.Asked) first.input.left (λ bytes is.
            let after = taken_at (count + 1) first new next bytes is in
            let f = front_at part bytes is in
            served_by (count + 1) first new new.input new.output next bytes f.gone f.rest f.all_is f.left_is count end.Asked faults (concat next.outputs) (concat next.outputs) written
            (hands_all first.output.held new.output.held first.output.flushed new.output.flushed (concat next.outputs) written (inl on)) tt after.bytes
            (whole_input (count + 1) first new new.input new.output next bytes f.gone f.rest f.all_is f.left_is count after.bytes after.holds)
            ((s.request, ends_with next.requests s.request pushed.requests_are, sym s.closed_is), refl) refl
            (flushes_all count first now p next.outputs (output ∷ []) (concat next.outputs) output pushed.outputs_are (ap concat pushed.outputs_are ∙ concat-push p.outputs output)));
      }

  -- no request was answered in its place, or its reply wasn't written
  stopped_served : (ended : SessionEnd) → StopsOne count now new ended → IfSome (unread_of now.input) (λ all. LeavesPart all new.input.left)
      → FaultsAt ended first new
      → (¬ (ended ≡ end.WriteFault) → FlushesAll now.output.held new.output.held now.output.flushed new.output.flushed) → (ended ≡ end.WriteFault → HandsMore now.output.held now.output.flushed new.output.flushed)
      → Ended count first new ended
  stopped_served ended s part faults all more = elim s.how [
    | inl broke ↦ subst (λ (e : SessionEnd). Ended count first new e) (sym broke.0) (broken_served broke.1 part (subst (λ (e : SessionEnd). FaultsAt e first new) broke.0 faults) (more broke.0))
    | inr none ↦
        let p = g.progress in
        let told : IfSome first.input.left (ServedAfter count first (moment new.input new.output now.board now.steps now.memory_faults) ended)
        = known (ServedAfter count first (moment new.input new.output now.board now.steps now.memory_faults) ended) first.input.left (λ bytes is.
        let before = taken_at count first now p bytes is in
        unanswered_at count first now new.input new.output p bytes g.none_closes g.written_is g.handed_is few ended before.bytes before.holds
        (told_at (λ unread. EndsOne ended (room_of now.board.conf) unread new.input.left now.output.held new.output.held) (unread_of now.input) before.bytes before.is none.1)
        (told_at (λ unread. LeavesPart unread new.input.left) (unread_of now.input) before.bytes before.is part) faults all more) in
        record {
          goes = subst (λ (board : BoardContent). Goes first.board board) (sym none.0.board) (goes_of count first now (omega arith) p);
          served = subst (λ (board : BoardContent). IfSome first.input.left (ServedAfter count first (moment new.input new.output board new.steps new.memory_faults) ended)) (sym none.0.board)
              (subst (λ (steps : ℕ). IfSome first.input.left (ServedAfter count first (moment new.input new.output now.board steps new.memory_faults) ended)) (sym none.0.steps_are)
              (subst (λ (memory_faults : ℕ). IfSome first.input.left (ServedAfter count first (moment new.input new.output now.board now.steps memory_faults) ended)) (sym none.0.wants_are) told));
        }
  ]

-- as many requests were answered as may be
spent_served : (count : ℕ) (first now : Moment) → count ≡ most_requests → Going count first now → FaultsAt end.Spent first now → Ended count first now end.Spent
spent_served count first now all g faults =
    let p = g.progress in
    record {
      goes = goes_of count first now (omega (arith, all)) p;
      served = known (ServedAfter count first now end.Spent) first.input.left (λ bytes is.
          let before = taken_at count first now p bytes is in
          let s = split_of before.bytes now.input.frame.held now.input.left before.is in
          let f = front_part (room_of now.board.conf) bytes p.requests before.bytes before.holds now.input.left (record { gone = now.input.frame.held; rest = s.rest; left_is = s.left_is; all_is = s.all_is }) in
          served_by count first now now.input now.output p bytes f.gone f.rest f.all_is f.left_is count end.Spent faults (concat p.outputs) (concat p.outputs) g.written_is
          (hands_all first.output.held now.output.held first.output.flushed now.output.flushed (concat p.outputs) g.written_is
          (has_handed_all p.outputs first.output.held now.output.held first.output.flushed now.output.flushed g.handed_is)) tt before.bytes
          (whole_input count first now now.input now.output p bytes f.gone f.rest f.all_is f.left_is count before.bytes before.holds)
          (p.count_is ∙ all, g.none_closes, refl) refl (flushes_all count first now p p.outputs [] (concat p.outputs) [] (sym (append-nil p.outputs)) (sym (append-nil (concat p.outputs)))));
    }

-- ---- the loop over the requests

pub record IsLoop (count top : ℕ) (first now : Moment) : Type 0 where
  pub going : Going count first now
  pub turn : now.input.frame.turn ≡ AtHead
  pub room_is : now.input.frame.room ≡ room_of now.board.conf
  pub same_room : now.input.frame.room ≡ first.input.frame.room
  pub top_is : top ≡ now.board.conf.shape.top
  pub few_wants : now.memory_faults ≤ count
  pub source : now.input.faults ≡ first.input.faults
  pub sink : now.output.faults ≡ first.output.faults
  pub steps_rise : first.steps ≤ now.steps

-- a board that holds nothing
holds_none : (board : BoardContent) → board.held ≡ None → board ≡ holding_none board
holds_none board none = ap (λ (held : Option SurveyState). record board { held = held }) none

pub begins_loop : (top : ℕ) (first : Moment) → first.board.held ≡ None → IsHistory first.board.opening first.board.history → IsOwned first.board → first.memory_faults ≡ 0 → first.input.frame.held ≡ [] → first.input.frame.turn ≡ AtHead
    → first.input.frame.room ≡ room_of first.board.conf → top ≡ first.board.conf.shape.top → IsLoop 0 top first first
begins_loop top first none legal owned none_wanted empty turn room_is top_is = record {
  going = begins_going first (holds_none first.board none) legal owned empty none_wanted;
  turn = turn;
  room_is = room_is;
  same_room = refl;
  top_is = top_is;
  few_wants = omega (arith, none_wanted);
  source = refl;
  sink = refl;
  steps_rise = omega arith;
}

-- what came of all requests, and of the replies to so many
pub record Finishes (count : ℕ) (first last : Moment) (ended : SessionEnd) : Type 0 where
  pub serves : ServesAll first last ended
  pub served : IfSome first.input.left (ServedAfter count first last ended)

module _ (count top : ℕ) (first now new : Moment) (l : IsLoop count top first now) (never_falls : NeverFalls now new) where
  pub loop_goes_on : IsServedOne count now new false → FaultsOne now new (Ok false) → new.output.flushed ≡ new.output.held → new.input.frame.turn ≡ AtHead → IsLoop (count + 1) top first new
  loop_goes_on s faults on turn =
      let conf : new.board.conf ≡ now.board.conf = s.serving.serves.conf in
      record {
        going = goes_on count first now new l.going s on;
        turn = turn;
        room_is = never_falls.room ∙ l.room_is ∙ sym (ap room_of conf);
        same_room = never_falls.room ∙ l.same_room;
        top_is = l.top_is ∙ sym (ap (λ (c : Description). c.shape.top) conf);
        few_wants = omega (arith, l.few_wants, never_falls.memory_faults);
        source = faults.0 ∙ l.source;
        sink = faults.1 ∙ l.sink;
        steps_rise = omega (arith, l.steps_rise, never_falls.steps);
      }

  -- what came of all, where it ended here
  all_of : (ended : SessionEnd) → count < most_requests → (FaultsAt ended first new → Ended count first new ended) → FaultsAt ended now new × (ended ≢ end.OutOfMemory)
      → (¬ (ended ≡ end.WriteFault) → FlushesAll first.output.held new.output.held first.output.flushed new.output.flushed) → Finishes count first new ended
  all_of ended few so faults on =
      let from = faults_from ended _ _ _ _ _ _ l.source l.sink faults.0 in
      let e = so from in record {
        serves = record {
          goes = e.goes;
          memory_faults = omega (arith, few, l.few_wants, never_falls.memory_faults);
          faults = from;
          memory = faults.1;
          flushed = on;
          source_never_falls = omega (arith, l.source, never_falls.source);
          sink_never_falls = omega (arith, l.sink, never_falls.sink);
          steps_never_fall = omega (arith, l.steps_rise, never_falls.steps);
          room = never_falls.room ∙ l.same_room;
        };
        served = e.served;
      }

  -- the request asked to close
  pub asked_all : count < most_requests → ServesOne count now new (Ok true) → Finishes count first new end.Asked
  asked_all few s =
      all_of end.Asked few (asked_served count first now new few l.going s.ok s.left s.hands.flushed)
      (record { read = s.faults.0; write = s.faults.1 }, λ is. cc) (λ _. inl s.hands.flushed)

  -- the connection ended
  pub stopped_all : (ended : SessionEnd) → count < most_requests → ServesOne count now new (Err ended) → Finishes count first new ended
  stopped_all ended few s =
      let more : ended ≡ end.WriteFault → HandsMore now.output.held now.output.flushed new.output.flushed
      = λ is. let m = s.hands.breaks (ap (λ (e : SessionEnd). Err e) is) in record { more = m.0; on = m.1 } in
      all_of ended few
      (λ from. stopped_served count first now new few l.going ended s.stops s.left from s.hands.flushes more) s.faults
      (λ going. hands_all_on l.going.progress.outputs first.output.held now.output.held new.output.held first.output.flushed now.output.flushed new.output.flushed l.going.handed_is (s.hands.flushes going))

-- as many requests were answered as may be
pub spent_all : (count top : ℕ) (first now : Moment) → IsLoop count top first now → count ≡ most_requests → Finishes count first now end.Spent
spent_all count top first now l all =
    let faults : FaultsAt end.Spent first now = record { read = l.source; write = l.sink } in
    let e = spent_served count first now all l.going faults in
    record {
      serves = record {
        goes = e.goes;
        memory_faults = omega (arith, all, l.few_wants);
        faults = faults;
        memory = λ is. cc;
        flushed = λ _. has_handed_all l.going.progress.outputs first.output.held now.output.held first.output.flushed now.output.flushed l.going.handed_is;
        source_never_falls = omega (arith, l.source);
        sink_never_falls = omega (arith, l.sink);
        steps_never_fall = l.steps_rise;
        room = l.same_room;
      };
      served = e.served;
    }
