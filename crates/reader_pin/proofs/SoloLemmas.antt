-- What a `Solo` keeps: the states that its marks stand for stay the same while batches come, and each event adds one.
use Rattle.std.proofs.Common.{◌≡◌, ℕ, zero, suc, ◌+◌, ◌-◌, ◌<◌, ◌≤◌, true, false, nat_le, List, [], ◌∷◌, ◌++◌, length, get_or, Some, refl, sym, ap, ◌∙◌, subst, arith, length-append}
use Rattle.std.specs.Prelude.{All, slice_get, replicate}
use Rattle.shared_history.specs.Histories.{places_from, places_of}
use Rattle.std.specs.List.{range_with_len}
use Rattle.std.proofs.lemmas.Bool.Decides.{nat_tests}
use Rattle.std.proofs.lemmas.List.{map-id, map-append, length-map, get_or-append_right, get_or-replicate, length-replicate, replicate-append-replicate}
use Rattle.std.proofs.lemmas.List.Elements.{All-head, All-tail, All-push}
use Rattle.std.proofs.lemmas.List.FromFn.{map-range_with_len_more}
use Rattle.std.proofs.lemmas.Option.{slice_get-get_or}
use Rattle.edit_journal.specs.Edit.{LeafEdit}
use Rattle.edit_journal.specs.Leaves.{LeafTiles}
use Rattle.edit_journal.specs.Batches.{edits_of}
use Rattle.survey_core.specs.History.{SurveyState, edits_at, opening_state, AppendsBatch, IsStep, IsHistory, Begins}
use Rattle.survey_core.specs.HistoryLaws.{begins_itself, begins_length, step_precedes, history_more, history_some}
use Rattle.survey_core.specs.State.{StateContent, IsState, state_edits, survey_state}
use Rattle.reader_pin.specs.declared.mark.Mark.{Mark}
use Rattle.reader_pin.specs.declared.held.Held.{Held}
use Rattle.reader_pin.specs.declared.held.Held.TheVariants.{Nothing, Last, Earlier}
use Rattle.reader_pin.specs.declared.answer.Accepted.{Accepted}
use Rattle.reader_pin.specs.declared.answer.BoardRefusal.{BoardRefusal}
use Rattle.reader_pin.specs.declared.answer.BoardRefusal.TheVariants.{Fault, OutOfMemory}
use Rattle.reader_pin.specs.declared.answer.BoardBatch.{BoardBatch}
use Rattle.reader_pin.specs.declared.answer.BoardBatch.TheVariants.{Fault as Faulty, OutOfMemory as NoMemory}
use Rattle.reader_pin.specs.Board.{BoardContent, IsOwned, Stays, Happens, InOne, Publishes, state_in, last_of, last_seen, publish_work}
use Rattle.reader_pin.specs.SeatLaws.{keeps_itself, keeps_event}
use Rattle.reader_pin.specs.Build.{build_work}
use Rattle.reader_pin.specs.Answers.{Accepts, AcceptsAll, IsRefused, AreRefused, TellsRefusal, TellsBatchRefusal}
use Rattle.reader_pin.specs.Next.{FollowsEdit, FollowsBatch, TellsRefusedEdit, TellsRefusedBatch}
use Rattle.dirty_plan.specs.Dirty.{work}
use Rattle.generation.specs.Steps.{touched}
use Rattle.reader_pin.specs.Held.{held_behind}
use Rattle.reader_pin.specs.Solo.{opened, after_event, first_batches, mark_of, marked, all_marked, held_of, solo_content, IsOfSurvey, IsSolo, IsAlone}

-- no batch is empty
abbrev AreSome : List (List LeafEdit) → Type 0
AreSome batches = All (λ batch. 0 < length batch) batches

edits_of-cons : (batch : List LeafEdit) (batches : List (List LeafEdit)) → edits_of (batch ∷ batches) ≡ batch ++ edits_of batches
unfolding edits_of
edits_of-cons batch batches = refl

edits_of-nil : edits_of [] ≡ []
unfolding edits_of
edits_of-nil = refl

count-cons : (batch : List LeafEdit) (batches : List (List LeafEdit)) → length (edits_of (batch ∷ batches)) ≡ length batch + length (edits_of batches)
count-cons batch batches = ap length (edits_of-cons batch batches) ∙ length-append batch (edits_of batches)

-- all batches, as many as have all edits
first_batches-all : (batches : List (List LeafEdit)) → first_batches (length (edits_of batches)) batches ≡ batches
unfolding first_batches
first_batches-all [] = refl
first_batches-all (batch ∷ batches) =
    let count : length (edits_of (batch ∷ batches)) ≡ length batch + length (edits_of batches) = count-cons batch batches in
    let fits : nat_le (length batch) (length (edits_of (batch ∷ batches))) ≡ true = grind (arith, nat_tests) in
    let rest : length (edits_of (batch ∷ batches)) - length batch ≡ length (edits_of batches) = omega (arith, count) in
    rw (fits, rest) (ap (λ (bs : List (List LeafEdit)). batch ∷ bs) (first_batches-all batches))

-- none, where there is no edit
first_batches-none : (batches : List (List LeafEdit)) → AreSome batches → first_batches 0 batches ≡ []
unfolding first_batches
first_batches-none [] some = refl
first_batches-none (batch ∷ batches) some =
    let here : 0 < length batch = All-head (λ (b : List LeafEdit). 0 < length b) batch batches some in
    let empty : nat_le (length batch) 0 ≡ false = grind (arith, nat_tests) in
    rw empty refl

-- more batches behind them change nothing
first_batches-more : (edits : ℕ) (batches more : List (List LeafEdit)) → AreSome more → edits ≤ length (edits_of batches) → first_batches edits (batches ++ more) ≡ first_batches edits batches
unfolding first_batches
first_batches-more edits [] more some h =
    let none : edits ≡ 0 = omega (arith, ap length edits_of-nil) in
    rw none (first_batches-none more some)
first_batches-more edits (batch ∷ batches) more some h =
    let within : edits - length batch ≤ length (edits_of batches) = omega (arith, count-cons batch batches) in
    rw (first_batches-more (edits - length batch) batches more some within) refl

-- the marked states
marked-more : (batches more : List (List LeafEdit)) (mark : Mark) → AreSome more → mark.edits ≤ length (edits_of batches) → marked (batches ++ more) mark ≡ marked batches mark
marked-more batches more mark some h = ap (λ (bs : List (List LeafEdit)). let s : SurveyState = record { batches = bs; tip = mark.tip } in s) (first_batches-more mark.edits batches more some h)

all_marked-more : (batches more : List (List LeafEdit)) (marks : List Mark) → AreSome more → All (λ mark. mark.edits ≤ length (edits_of batches)) marks → all_marked (batches ++ more) marks ≡ all_marked batches marks
unfolding all_marked
all_marked-more batches more [] some known = refl
all_marked-more batches more (mark ∷ marks) some known =
    let here : mark.edits ≤ length (edits_of batches) = All-head (λ (m : Mark). m.edits ≤ length (edits_of batches)) mark marks known in
    let rest : all_marked (batches ++ more) marks ≡ all_marked batches marks = all_marked-more batches more marks some (All-tail (λ (m : Mark). m.edits ≤ length (edits_of batches)) mark marks known) in
    ap (λ (s : SurveyState). s ∷ all_marked (batches ++ more) marks) (marked-more batches more mark some here) ∙ ap (λ (ss : List SurveyState). marked batches mark ∷ ss) rest

all_marked-push : (batches : List (List LeafEdit)) (marks : List Mark) (mark : Mark) → all_marked batches (marks ++ mark ∷ []) ≡ all_marked batches marks ++ marked batches mark ∷ []
unfolding all_marked
all_marked-push batches marks mark = map-append (marked batches) marks (mark ∷ [])

pub length-all_marked : (batches : List (List LeafEdit)) (marks : List Mark) → length (all_marked batches marks) ≡ length marks
unfolding all_marked
length-all_marked batches marks = length-map marks (marked batches)

-- a state is what its mark stands for
marked-last : (state : StateContent) → marked state.batches (mark_of state) ≡ survey_state state
marked-last state = ap (λ (bs : List (List LeafEdit)). let s : SurveyState = record { batches = bs; tip = state.tip } in s) (first_batches-all state.batches)

-- ---- the last of some states

pub last_of-push : (states : List SurveyState) (state : SurveyState) → last_of (states ++ state ∷ []) ≡ state
unfolding last_of
last_of-push states state =
    let count : length (states ++ state ∷ []) - 1 ≡ length states = omega (arith, length-append states (state ∷ [])) in
    let none : length states - length states ≡ 0 = omega arith in
    rw count (get_or-append_right states (state ∷ []) (length states) (length states) opening_state refl (omega arith) ∙ ap (λ (i : ℕ). get_or (state ∷ []) i opening_state) none)

pub last_there : (states : List SurveyState) → 0 < length states → slice_get states (length states - 1) ≡ Some (last_of states)
unfolding last_of
last_there states some = slice_get-get_or states (length states - 1) opening_state (omega arith)

-- ---- one event more

-- what holds of each of some holds of each of those behind the first
behind : {X : Type 0} (P : X → Type 0) (xs ys : List X) → All P (xs ++ ys) → All P ys
behind P [] ys all = all
behind P (x ∷ xs) ys all = behind P xs ys (All-tail P x (xs ++ ys) all)

-- the states after it
history-more : (last next : StateContent) (marks : List Mark) (held : Held StateContent) → IsSolo last marks held → IsState next → IsStep last.opening (survey_state last) (survey_state next) →
    all_marked next.batches (marks ++ mark_of next ∷ []) ≡ all_marked last.batches marks ++ survey_state next ∷ []
history-more last next marks held is state step =
    let front : Begins last.batches next.batches = (step_precedes last.opening (survey_state last) (survey_state next) step).batches in
    let some : AreSome front.rest = behind (λ (batch : List LeafEdit). 0 < length batch) last.batches front.rest (subst AreSome front.is state.journal.batches) in
    let same : all_marked next.batches marks ≡ all_marked last.batches marks = ap (λ (bs : List (List LeafEdit)). all_marked bs marks) front.is ∙ all_marked-more last.batches front.rest marks some is.known in
    all_marked-push next.batches marks (mark_of next)
    ∙ (ap (λ (s : SurveyState). all_marked next.batches marks ++ s ∷ []) (marked-last next) ∙ ap (λ (ss : List SurveyState). ss ++ survey_state next ∷ []) same)

-- what is true of what is kept then
pub goes_on : (last next : StateContent) (marks : List Mark) (held after : Held StateContent) → IsSolo last marks held → IsState next → next.opening ≡ last.opening →
    IsStep last.opening (survey_state last) (survey_state next) → IsOfSurvey next after → IsSolo next (marks ++ mark_of next ∷ []) after
goes_on last next marks held after is state opening step survey =
    let states : List SurveyState = all_marked last.batches marks in
    let some : 0 < length states = history_some last.opening states is.legal in
    let there : slice_get states (length states - 1) ≡ Some (survey_state last) = last_there states some ∙ ap Some is.latest in
    let history : all_marked next.batches (marks ++ mark_of next ∷ []) ≡ states ++ survey_state next ∷ [] = history-more last next marks held is state step in
    let legal : IsHistory last.opening (states ++ survey_state next ∷ []) = history_more last.opening states (length states - 1) (survey_state last) (survey_state next) is.legal there (omega arith) step in
    let grown : length (state_edits last) ≤ length (state_edits next) = begins_length (state_edits last) (state_edits next) (step_precedes last.opening (survey_state last) (survey_state next) step).edits in
    record {
      legal = subst (λ (o : LeafTiles). IsHistory o (all_marked next.batches (marks ++ mark_of next ∷ []))) (sym opening) (subst (IsHistory last.opening) (sym history) legal);
      known = All-push (λ (mark : Mark). mark.edits ≤ length (state_edits next)) marks (mark_of next) (λ k d h. let before : (get_or marks k d).edits ≤ length (state_edits last) = is.known k d h in omega (arith, before, grown)) (omega arith);
      latest = ap last_of history ∙ last_of-push states (survey_state next);
      survey = survey;
    }

-- a range with one number more
range-more : (a n : ℕ) → range_with_len a (n + 1) ≡ range_with_len a n ++ (a + n) ∷ []
range-more a n = sym (map-id (range_with_len a (n + 1))) ∙ map-range_with_len_more (λ i. i) a n (a + n) refl ∙ ap (λ (is : List ℕ). is ++ (a + n) ∷ []) (map-id (range_with_len a n))

-- all places but the first, after one state more
places-more : (count : ℕ) → 0 < count → range_with_len 1 (count + 1 - 1) ≡ range_with_len 1 (count - 1) ++ count ∷ []
places-more count some =
    let before : count + 1 - 1 ≡ count - 1 + 1 = omega arith in
    let place : 1 + (count - 1) ≡ count = omega arith in
    ap (range_with_len 1) before ∙ (range-more 1 (count - 1) ∙ ap (λ (p : ℕ). range_with_len 1 (count - 1) ++ p ∷ []) place)

-- what contracts see then
pub content_goes_on : (last next : StateContent) (marks : List Mark) (held after : Held StateContent) → IsSolo last marks held → IsState next → next.conf ≡ last.conf → next.opening ≡ last.opening →
    IsStep last.opening (survey_state last) (survey_state next) → held_of next after ≡ held_of last held →
    solo_content next (marks ++ mark_of next ∷ []) after ≡ after_event (survey_state next) (solo_content last marks held)
content_goes_on last next marks held after is state conf opening step kept =
    let states : List SurveyState = all_marked last.batches marks in
    let some : 0 < length states = history_some last.opening states is.legal in
    let count : length states ≡ length marks = length-all_marked last.batches marks in
    let history : all_marked next.batches (marks ++ mark_of next ∷ []) ≡ states ++ survey_state next ∷ [] = history-more last next marks held is state step in
    let more : length (marks ++ mark_of next ∷ []) ≡ length marks + 1 = length-append marks (mark_of next ∷ []) in
    let own : range_with_len 1 (length (marks ++ mark_of next ∷ []) - 1) ≡ range_with_len 1 (length marks - 1) ++ length states ∷ [] =
    ap (λ (n : ℕ). range_with_len 1 (n - 1)) more ∙ (places-more (length marks) (omega (arith, count)) ∙ ap (λ (p : ℕ). range_with_len 1 (length marks - 1) ++ p ∷ []) (sym count)) in
    let before : length (marks ++ mark_of next ∷ []) - 1 ≡ length marks - 1 + 1 = omega (arith, more, count, some) in
    let owners : replicate {A = ℕ} (length (marks ++ mark_of next ∷ []) - 1) 0 ≡ replicate {A = ℕ} (length marks - 1) 0 ++ 0 ∷ [] =
    ap (λ (n : ℕ). replicate {A = ℕ} n 0) before ∙ sym (replicate-append-replicate {A = ℕ} (length marks - 1) 1 0) in
    rw (history, own, owners, kept, conf, opening) refl

-- what is held stays
held-behind : (last next : StateContent) (held : Held StateContent) → held_of next (held_behind last held) ≡ held_of last held
held-behind last next Nothing = refl
held-behind last next Last = refl
held-behind last next (Earlier state) = refl

survey-behind : (last next : StateContent) (held : Held StateContent) → next.conf ≡ last.conf → next.opening ≡ last.opening → IsOfSurvey last held → IsOfSurvey next (held_behind last held)
survey-behind last next Nothing conf opening survey = tt
survey-behind last next Last conf opening survey = (sym conf, sym opening)
survey-behind last next (Earlier state) conf opening survey = (survey.0 ∙ sym conf, survey.1 ∙ sym opening)

-- an event of a board that is kept so
pub record Went (last next : StateContent) (marks : List Mark) (held : Held StateContent) (board : BoardContent) : Type 0 where
  pub solo : IsSolo next (marks ++ mark_of next ∷ []) (held_behind last held)
  pub content : solo_content next (marks ++ mark_of next ∷ []) (held_behind last held) ≡ after_event (survey_state next) board

pub went : (last next : StateContent) (marks : List Mark) (held : Held StateContent) (board : BoardContent) → solo_content last marks held ≡ board → IsSolo last marks held → IsState next →
    next.conf ≡ board.conf → next.opening ≡ board.opening → IsStep board.opening (last_seen board) (survey_state next) → Went last next marks held board
went last next marks held board is solo state conf opening step =
    let conf' : next.conf ≡ last.conf = conf ∙ sym (ap (λ (b : BoardContent). b.conf) is) in
    let opening' : next.opening ≡ last.opening = opening ∙ sym (ap (λ (b : BoardContent). b.opening) is) in
    let before : last_seen board ≡ survey_state last = ap last_seen (sym is) ∙ solo.latest in
    let step' : IsStep last.opening (survey_state last) (survey_state next) =
    subst (λ (o : LeafTiles). IsStep o (survey_state last) (survey_state next)) (sym (ap (λ (b : BoardContent). b.opening) is)) (subst (λ (s : SurveyState). IsStep board.opening s (survey_state next)) before step) in
    record {
      solo = goes_on last next marks held (held_behind last held) solo state opening' step' (survey-behind last next held conf' opening' solo.survey);
      content = content_goes_on last next marks held (held_behind last held) solo state conf' opening' step' (held-behind last next held) ∙ ap (after_event (survey_state next)) is;
    }

-- ---- a new board

opened-states : (state : StateContent) → survey_state state ≡ opening_state → all_marked state.batches (mark_of state ∷ []) ≡ opening_state ∷ []
unfolding all_marked
opened-states state first = ap (λ (s : SurveyState). s ∷ []) (marked-last state ∙ first)

pub first-state : (state : StateContent) → (length (state_edits state) ≡ 0 → survey_state state ≡ opening_state) → state.batches ≡ [] → survey_state state ≡ opening_state
first-state state first none = first (ap (λ (bs : List (List LeafEdit)). length (edits_of bs)) none ∙ ap length edits_of-nil)

pub opened-solo : (state : StateContent) → survey_state state ≡ opening_state → IsSolo state (mark_of state ∷ []) Nothing
opened-solo state first =
    let states : all_marked state.batches (mark_of state ∷ []) ≡ opening_state ∷ [] = opened-states state first in
    let P : Mark → Type 0 = λ mark. mark.edits ≤ length (state_edits state) in
    record {
      legal = subst (IsHistory state.opening) (sym states) (refl, tt);
      known = All-push P [] (mark_of state) (λ k d h. absurd (omega arith)) (omega arith);
      latest = ap last_of states ∙ (last_of-push [] opening_state ∙ sym first);
      survey = tt;
    }

pub opened-content : (state : StateContent) → survey_state state ≡ opening_state → solo_content state (mark_of state ∷ []) Nothing ≡ opened state
opened-content state first = rw (opened-states state first) refl

-- ---- boards

-- an event of its own
pub happens : (IsEvent : SurveyState → SurveyState → Type 0) (old new : BoardContent) (state : SurveyState) → new ≡ after_event state old → IsHistory new.opening new.history →
    IsOwned new → IsEvent (last_seen old) state → Happens IsEvent old new
happens IsEvent old new state is legal owned event = record {
  conf = ap (λ (b : BoardContent). b.conf) is;
  opening = ap (λ (b : BoardContent). b.opening) is;
  legal = legal;
  before = old.history;
  state = state;
  earlier = begins_itself old.history;
  event = event;
  history = ap (λ (b : BoardContent). b.history) is;
  seat = keeps_event old new state is owned;
  own = ap (λ (b : BoardContent). b.own) is;
  held = ap (λ (b : BoardContent). b.held) is;
}

-- no event
pub stays : (old new : BoardContent) → new ≡ old → IsHistory old.opening old.history → IsOwned old → Stays old new
stays old new is legal owned = subst (λ (b : BoardContent). Stays old b) (sym is) (
    let same : Stays old old = record { conf = refl; opening = refl; legal = legal; earlier = begins_itself old.history; seat = keeps_itself old owned; own = refl; held = refl } in same)

-- every step was its own event
pub alone : (last : StateContent) (marks : List Mark) (held : Held StateContent) (board : BoardContent) → solo_content last marks held ≡ board → IsAlone board
alone last marks held board is =
    subst IsAlone is (ap (λ (n : ℕ). range_with_len 1 (n - 1)) (sym (length-all_marked last.batches marks)))

-- all places are those of the only seat
places-alone : (place n : ℕ) → places_from place 0 (replicate {A = ℕ} n 0) ≡ range_with_len place n
places-alone place zero = refl
places-alone place (suc n) = ap (λ (places : List ℕ). place ∷ places) (places-alone (place + 1) n)

pub owned : (last : StateContent) (marks : List Mark) (held : Held StateContent) (board : BoardContent) → IsSolo last marks held → solo_content last marks held ≡ board → IsOwned board
owned last marks held board solo is =
    let some : 0 < length (all_marked last.batches marks) = history_some last.opening (all_marked last.batches marks) solo.legal in
    let count : length (all_marked last.batches marks) ≡ length marks = length-all_marked last.batches marks in
    let own : IsOwned (solo_content last marks held) = record {
      each = omega (arith, some, count, length-replicate {A = ℕ} (length marks - 1) 0);
      seated = λ k d within. (let zero_there = get_or-replicate {A = ℕ} (length marks - 1) k 0 d (omega (arith, within, length-replicate {A = ℕ} (length marks - 1) 0)) in omega (arith, zero_there));
      own = sym (places-alone 1 (length marks - 1));
    } in
    subst IsOwned is own

-- ---- what it answers

-- what holds of the last state holds of one state
in-last : (board : BoardContent) (P : SurveyState → Type 0) → IsHistory board.opening board.history → P (last_seen board) → InOne board board P
in-last board P legal holds =
    let some : 0 < length board.history = history_some board.opening board.history legal in
    record { place = length board.history - 1; late = omega arith; state = last_seen board; there = last_there board.history some; holds = holds }

pub refused-edit : (edit : LeafEdit) (board : BoardContent) (refusal : BoardRefusal) → IsHistory board.opening board.history → TellsRefusedEdit edit (state_in board (last_seen board)) refusal → TellsRefusal edit board board refusal
refused-edit edit board (Fault fault edits) legal tells = in-last board (IsRefused board.opening edit fault edits) legal tells
refused-edit edit board OutOfMemory legal tells = tt

pub refused-batch : (batch : List LeafEdit) (board : BoardContent) (refusal : BoardBatch) → IsHistory board.opening board.history → TellsRefusedBatch batch (state_in board (last_seen board)) refusal → TellsBatchRefusal batch board board refusal
refused-batch batch board (Faulty at fault edits) legal tells = in-last board (AreRefused board.opening batch (record { at = at; fault = fault }) edits) legal tells
refused-batch batch board NoMemory legal tells = tt

pub accepted-edit : (edit : LeafEdit) (old new : BoardContent) (next : StateContent) (accepted : Accepted) → FollowsEdit edit (state_in old (last_seen old)) next accepted →
    new ≡ after_event (survey_state next) old → IsHistory new.opening new.history → IsOwned new → Accepts edit old new accepted
unfolding happens
accepted-edit edit old new next accepted follows is legal owned = record {
  happens = happens (AppendsBatch old.opening (edit ∷ [])) old new (survey_state next) is legal owned follows.follows.event;
  number = follows.number;
  created = follows.created;
}

pub accepted-batch : (batch : List LeafEdit) (old new : BoardContent) (next : StateContent) (count : ℕ) → FollowsBatch batch (state_in old (last_seen old)) next count →
    new ≡ after_event (survey_state next) old → IsHistory new.opening new.history → IsOwned new → AcceptsAll batch old new count
unfolding happens
accepted-batch batch old new next count follows is legal owned = record {
  happens = happens (AppendsBatch old.opening batch) old new (survey_state next) is legal owned follows.follows.event;
  count = follows.number;
}

-- a publication keeps the edits
pub published-edits : (k : ℕ) (old new : BoardContent) (state : SurveyState) → new ≡ after_event state old → Publishes k (last_seen old) state → edits_at (last_seen new) ≡ edits_at (last_seen old)
published-edits k old new state is event =
    ap (λ (b : BoardContent). edits_at (last_seen b)) is ∙ (ap edits_at (last_of-push old.history state) ∙ ap edits_of event.publication.batches)

pub published-work : (old new : BoardContent) → edits_at (last_seen new) ≡ edits_at (last_seen old) → publish_work old new ≡ build_work (state_in old (last_seen old))
published-work old new same = ap (λ (edits : List LeafEdit). work old.conf.shape.top old.conf.shape.low (touched edits (last_seen old).tip (length edits))) same
