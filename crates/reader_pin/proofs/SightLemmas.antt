-- What a board of a shared survey has seen, and goes on to.
use Rattle.std.proofs.Common.{◌≡◌, ℕ, zero, suc, ◌+◌, ◌-◌, ◌<◌, List, [], ◌∷◌, ◌++◌, length, map, Option, Some, None, refl, sym, ap, ◌∙◌, subst, arith}
use Rattle.std.specs.Prelude.{slice_get, option_map, IfSome}
use Rattle.std.proofs.lemmas.List.{map-append, length-map}
use Rattle.std.proofs.lemmas.Option.{slice_get-map, get_or_from_slice_get, slice_get_within}
use mathlib.Core.List.{IsPrefix}
use Rattle.shared_history.specs.Histories.{SeenHistory, places_of, IsSeenHistory, GoesOn}
use Rattle.survey_conf.specs.Description.{Description}
use Rattle.edit_journal.specs.Leaves.{LeafTiles}
use Rattle.survey_core.specs.History.{SurveyState, opening_state, IsStep, IsHistory, Begins}
use Rattle.survey_core.specs.HistoryLaws.{begins_itself, slice_get-append, history_more}
use Rattle.survey_core.specs.State.{StateContent, survey_state}
use Rattle.reader_pin.specs.Board.{BoardSeat, BoardContent, IsOwned, KeepsSeat, Stays, last_of, last_seen, state_in, holding_last}
use Rattle.reader_pin.specs.SeatLaws.{keeps_itself}
use Rattle.reader_pin.specs.Shared.{IsOneSurvey, IsSight, HasSeen, shared_content}

abbrev Seen : Type 0
Seen = SeenHistory StateContent

abbrev IsSeen : Seen → Type 0
IsSeen seen = IsSeenHistory IsOneSurvey seen

-- the last state is one of the survey
last_same : (seen : Seen) (is : IsSeen seen) → (seen.last.conf ≡ is.legal.conf) × (seen.last.opening ≡ is.legal.opening)
last_same seen is = is.legal.each (length seen.states - 1) seen.last is.last

pub seen_legal : (seen : Seen) → IsSeen seen → IsHistory seen.last.opening (map survey_state seen.states)
seen_legal seen is = subst (λ (o : LeafTiles). IsHistory o (map survey_state seen.states)) (sym (last_same seen is).1) is.legal.legal

last_there : (seen : Seen) → IsSeen seen → slice_get (map survey_state seen.states) (length (map survey_state seen.states) - 1) ≡ Some (survey_state seen.last)
last_there seen is =
    let place : length (map survey_state seen.states) - 1 ≡ length seen.states - 1 = ap (λ (n : ℕ). n - 1) (length-map seen.states survey_state) in
    rw place (slice_get-map survey_state seen.states (length seen.states - 1) ∙ ap (option_map survey_state) is.last)

pub seen_last : (seen : Seen) → IsSeen seen → last_of (map survey_state seen.states) ≡ survey_state seen.last
unfolding last_of
seen_last seen is = get_or_from_slice_get (map survey_state seen.states) (length (map survey_state seen.states) - 1) (survey_state seen.last) opening_state (last_there seen is)

-- the last state as its board tells it
pub state_at : (number : ℕ) (seen : Seen) (own : List ℕ) (held : Option StateContent) → IsSeen seen → state_in (shared_content number seen own held) (last_seen (shared_content number seen own held)) ≡ seen.last
state_at number seen own held is = ap (λ (s : SurveyState). let state : StateContent = record { conf = seen.last.conf; opening = seen.last.opening; batches = s.batches; tip = s.tip } in state) (seen_last seen is)

-- ---- going on

-- a later state is one of the same survey
pub later_same : (p q : Seen) → IsSeen p → IsSeen q → IsPrefix p.states q.states → (p.last.conf ≡ q.last.conf) × (p.last.opening ≡ q.last.opening)
later_same p q is_p is_q prefix =
    let there : slice_get q.states (length p.states - 1) ≡ Some p.last =
    subst (λ (states : List StateContent). slice_get states (length p.states - 1) ≡ Some p.last) prefix.1 (slice_get-append p.states prefix.0 (length p.states - 1) p.last is_p.last) in
    let early = is_q.legal.each (length p.states - 1) p.last there in
    let late = last_same q is_q in
    (early.0 ∙ sym late.0, early.1 ∙ sym late.1)

begins-map : (xs ys : List StateContent) → IsPrefix xs ys → Begins (map survey_state xs) (map survey_state ys)
begins-map xs ys prefix = record { rest = map survey_state prefix.0; is = ap (map survey_state) (sym prefix.1) ∙ map-append survey_state xs prefix.0 }

-- its own events are those of its seat
pub owned_at : (number : ℕ) (seen : Seen) (own : List ℕ) (held : Option StateContent) → IsSeen seen → own ≡ places_of number seen.owners → IsOwned (shared_content number seen own held)
owned_at number seen own held is mine = record { each = length-map seen.states survey_state ∙ is.owned; seated = is.seated; own = mine }

pub moved_stays : (number : ℕ) (p q : Seen) (own : List ℕ) (held held' : Option StateContent) → IsSeen p → IsSeen q → own ≡ places_of number p.owners → GoesOn number p q → held' ≡ held
    → Stays (shared_content number p own held) (shared_content number q own held')
moved_stays number p q own held held' is_p is_q mine goes same = record {
  conf = sym (later_same p q is_p is_q goes.begins).0;
  opening = sym (later_same p q is_p is_q goes.begins).1;
  legal = seen_legal q is_q;
  earlier = begins-map p.states q.states goes.begins;
  seat = record {
    seat = ap (λ (n : ℕ). let seat : BoardSeat = record { number = number; seats = n } in seat) goes.seats;
    owners = (let begins : Begins p.owners q.owners = record { rest = goes.owners.0; is = sym goes.owners.1 } in begins);
    owned = owned_at number q own held' is_q (mine ∙ sym goes.own);
  };
  own = refl;
  held = ap (option_map survey_state) same;
}

pub same_stays : (board : BoardContent) → IsHistory board.opening board.history → IsOwned board → Stays board board
same_stays board legal owned = record { conf = refl; opening = refl; legal = legal; earlier = begins_itself board.history; seat = keeps_itself board owned; own = refl; held = refl }

held_moves : (p q : Seen) (held : Option StateContent) → p.last.conf ≡ q.last.conf → p.last.opening ≡ q.last.opening →
    IfSome held (λ state. (state.conf ≡ p.last.conf) × (state.opening ≡ p.last.opening)) → IfSome held (λ state. (state.conf ≡ q.last.conf) × (state.opening ≡ q.last.opening))
held_moves p q None conf opening is = tt
held_moves p q (Some state) conf opening is = (is.0 ∙ conf, is.1 ∙ opening)

pub moved_sight : (number : ℕ) (p q : Seen) (own : List ℕ) (held held' : Option StateContent) → IsSight number p own held → IsSeen q → GoesOn number p q → held' ≡ held → IsSight number q own held'
moved_sight number p q own held held' is is_q goes same =
    let both = later_same p q is.seen is_q goes.begins in
    subst (IsSight number q own) (sym same) (
    let sight : IsSight number q own held = record {
      seen = is_q;
      seated = subst (λ (n : ℕ). number < n) (sym goes.seats) is.seated;
      own = is.own ∙ sym goes.own;
      held = held_moves p q held both.0 both.1 is.held;
    } in sight)

-- ---- an event

-- the states with the next one behind them are still one survey's
each_more : (states : List StateContent) (next : StateContent) (conf : Description) (opening : LeafTiles)
    → ((i : ℕ) (state : StateContent) → slice_get states i ≡ Some state → (state.conf ≡ conf) × (state.opening ≡ opening)) → next.conf ≡ conf → next.opening ≡ opening
    → (i : ℕ) (state : StateContent) → slice_get (states ++ next ∷ []) i ≡ Some state → (state.conf ≡ conf) × (state.opening ≡ opening)
each_more [] next conf opening each same_conf same_opening zero state e = let is : next ≡ state = cc in (subst (λ (s : StateContent). s.conf ≡ conf) is same_conf, subst (λ (s : StateContent). s.opening ≡ opening) is same_opening)
each_more [] next conf opening each same_conf same_opening (suc i) state e = cc
each_more (s ∷ states) next conf opening each same_conf same_opening zero state e = each 0 state e
each_more (s ∷ states) next conf opening each same_conf same_opening (suc i) state e = each_more states next conf opening (λ j found at. each (suc j) found at) same_conf same_opening i state e

pub survey_more : (seen : Seen) (next : StateContent) → IsSeen seen → next.conf ≡ seen.last.conf → next.opening ≡ seen.last.opening → IsStep seen.last.opening (survey_state seen.last) (survey_state next)
    → IsOneSurvey (seen.states ++ next ∷ [])
survey_more seen next is conf opening step =
    let last = last_same seen is in
    let some : length seen.states - 1 < length seen.states = slice_get_within seen.states (length seen.states - 1) seen.last is.last in
    let place : length (map survey_state seen.states) - 1 + 1 ≡ length (map survey_state seen.states) = omega (arith, length-map seen.states survey_state) in
    let history : IsHistory is.legal.opening (map survey_state seen.states ++ survey_state next ∷ []) =
    history_more is.legal.opening (map survey_state seen.states) (length (map survey_state seen.states) - 1) (survey_state seen.last) (survey_state next) is.legal.legal (last_there seen is) place
    (subst (λ (o : LeafTiles). IsStep o (survey_state seen.last) (survey_state next)) last.1 step) in
    record {
      conf = is.legal.conf;
      opening = is.legal.opening;
      each = each_more seen.states next is.legal.conf is.legal.opening is.legal.each (conf ∙ last.0) (opening ∙ last.1);
      legal = subst (IsHistory is.legal.opening) (sym (map-append survey_state seen.states (next ∷ []))) history;
    }

-- ---- what is held

pub holding : (number : ℕ) (seen : Seen) (own : List ℕ) (held : Option StateContent) → IsSeen seen → shared_content number seen own (Some seen.last) ≡ holding_last (shared_content number seen own held)
holding number seen own held is =
    ap (λ (s : SurveyState).
    let board : BoardContent = record {
      conf = seen.last.conf;
      opening = seen.last.opening;
      history = map survey_state seen.states;
      owners = seen.owners;
      seat = record { number = number; seats = seen.seats };
      own = own;
      held = Some s;
    } in board)
    (sym (seen_last seen is))

-- ---- the first state

pub first_survey : (state : StateContent) → survey_state state ≡ opening_state → IsOneSurvey (state ∷ [])
first_survey state first = record {
  conf = state.conf;
  opening = state.opening;
  each = λ i found at. first_each state i found at;
  legal = (first, tt);
}
  where
    first_each : (state : StateContent) (i : ℕ) (found : StateContent) → slice_get (state ∷ []) i ≡ Some found → (found.conf ≡ state.conf) × (found.opening ≡ state.opening)
    first_each state zero found at = let is : state ≡ found = cc in (ap (λ (s : StateContent). s.conf) (sym is), ap (λ (s : StateContent). s.opening) (sym is))
    first_each state (suc i) found at = cc

-- the step from the last state that a board has seen is one from the last state of what it has seen
pub step_at : (seen : Seen) (board : BoardContent) (next : StateContent) → HasSeen seen board → IsSeen seen → IsStep board.opening (last_seen board) (survey_state next)
    → IsStep seen.last.opening (survey_state seen.last) (survey_state next)
step_at seen board next has is step =
    let last : last_seen board ≡ survey_state seen.last = ap last_of has.history ∙ seen_last seen is in
    subst (λ (o : LeafTiles). IsStep o (survey_state seen.last) (survey_state next)) has.opening (subst (λ (s : SurveyState). IsStep board.opening s (survey_state next)) last step)
