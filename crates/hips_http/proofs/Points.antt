-- Where a board is after a call.
use Rattle.std.proofs.Common.{◌≡◌, ℕ, ◌+◌, ◌-◌, ◌<◌, ◌≤◌, ◌==◌, false, List, [], ◌∷◌, ◌++◌, length, Option, Some, None, refl, sym, ap, ◌∙◌, arith, append_assoc, length-append}
use Rattle.std.specs.Prelude.{slice_get, All}
use Rattle.std.proofs.lemmas.List.{get_or-append_right}
use Rattle.std.proofs.lemmas.List.Elements.{All-push, All-weaker}
use Rattle.std.proofs.lemmas.Option.{slice_get-get_or}
use Rattle.survey_core.specs.History.{SurveyState, opening_state, Begins}
use Rattle.survey_core.specs.HistoryLaws.{begins_length, begins_trans, begins_more, slice_get-append}
use Rattle.reader_pin.specs.Board.{BoardContent, Stays, Happens, last_of}
use Rattle.hips_http.specs.Replies.{Answer}
use Rattle.hips_http.specs.Answers.{Point, Keeps, Steps}
use Rattle.hips_http.specs.Progress.{IsHeld, IsAt, memory_faults_after}

-- ---- states

pub stays_there : (states more : List SurveyState) (place : ℕ) (state : SurveyState) → Begins states more → slice_get states place ≡ Some state → slice_get more place ≡ Some state
stays_there states more place state begins there = rw begins.is (slice_get-append states begins.rest place state there)

pub last_there : (states : List SurveyState) → 0 < length states → slice_get states (length states - 1) ≡ Some (last_of states)
unfolding last_of
last_there states some = slice_get-get_or states (length states - 1) opening_state (omega arith)

-- one state behind the others
module _ (states : List SurveyState) (state : SurveyState) where
  pub length-push : length (states ++ state ∷ []) ≡ length states + 1
  length-push = length-append states (state ∷ [])

  pub pushed_there : slice_get (states ++ state ∷ []) (length states) ≡ Some state
  pushed_there =
      let none : length states - length states ≡ 0 = omega arith in
      slice_get-get_or (states ++ state ∷ []) (length states) state (omega (arith, length-push))
      ∙ ap (λ (x : SurveyState). Some x) (get_or-append_right states (state ∷ []) (length states) (length states) state refl (omega arith) ∙ rw none refl)

-- the state before the last one
pub before_there : (states : List SurveyState) (state : SurveyState) → 0 < length states → slice_get (states ++ state ∷ []) (length states - 1) ≡ Some (last_of states)
before_there states state some = slice_get-append states (state ∷ []) (length states - 1) (last_of states) (last_there states some)

pub held_stays : (states more : List SurveyState) (place : Option ℕ) (held : Option SurveyState) → Begins states more → IsHeld states place held → IsHeld more place held
held_stays states more None held begins is = is
held_stays states more (Some place) held begins is = (is.0, stays_there states more place is.0 begins is.1, is.2)

-- ---- points

abbrev pub kept_point : ℕ → ℕ → Point → Point
kept_point place cost before = record { place = place; held = before.held; own = before.own; memory_faults = before.memory_faults; cost = before.cost + cost }

abbrev pub holding_point : ℕ → ℕ → Point → Point
holding_point place cost before = record { place = place; held = Some place; own = before.own; memory_faults = before.memory_faults; cost = before.cost + cost }

abbrev pub released_point : ℕ → ℕ → Point → Point
released_point place cost before = record { place = place; held = None; own = before.own; memory_faults = before.memory_faults; cost = before.cost + cost }

abbrev pub event_point : ℕ → ℕ → Point → Point
event_point place cost before = record { place = place; held = before.held; own = before.own ++ place ∷ []; memory_faults = before.memory_faults; cost = before.cost + cost }

abbrev pub wanting_point : ℕ → ℕ → Point → Point
wanting_point place cost before = record { place = place; held = before.held; own = before.own; memory_faults = before.memory_faults + 1; cost = before.cost + cost }

pub kept_keeps : (place cost : ℕ) (before : Point) → Keeps before (kept_point place cost before)
kept_keeps place cost before = record { held = refl; own = refl; memory_faults = refl }

-- an answer that doesn't tell want of memory
abbrev pub IsFound : Answer → Type 0
IsFound answer = (answer.code == 503) ≡ false

pub wants_found : (memory_faults : ℕ) (answer : Answer) → IsFound answer → memory_faults_after memory_faults answer ≡ memory_faults
wants_found memory_faults answer found = rw found (omega arith)

pub later_own : (own : List ℕ) (place place' : ℕ) → place ≤ place' → All (λ p. p ≤ place) own → All (λ p. p ≤ place') own
later_own own place place' later all = All-weaker (λ p. p ≤ place) (λ p. p ≤ place') (λ p h. omega (arith, h, later)) own all

-- the steps that a point allows
more_steps : (first steps steps' cost more : ℕ) → steps ≤ first + cost → steps' ≤ steps + more → steps' ≤ first + (cost + more)
more_steps first steps steps' cost more h k = omega arith

module _ (first_own : List ℕ) (first_steps : ℕ) (old new : BoardContent) (steps steps' memory_faults cost place : ℕ) (before : Point)
    (at : IsAt first_own first_steps old steps memory_faults before)
    (late : length old.history ≤ place + 1) (within : place < length new.history) (bound : steps' ≤ steps + cost) where
  pub place_rises : before.place ≤ place
  place_rises = let h = at.within in omega arith

  steps_then : (memory_faults' : ℕ) → memory_faults' ≡ memory_faults → memory_faults' ≡ 0 → steps' ≤ first_steps + (before.cost + cost)
  steps_then memory_faults' same none =
      more_steps first_steps steps steps' before.cost cost (at.steps_are (sym same ∙ none)) bound

  pub kept_at : Stays old new → (answer : Answer) → IsFound answer → IsAt first_own first_steps new steps' (memory_faults_after memory_faults answer) (kept_point place cost before)
  kept_at stays answer found = record {
    within = within;
    held = rw stays.held (held_stays old.history new.history before.held old.held stays.earlier at.held);
    own_is = stays.own ∙ at.own_is;
    own_seen = later_own before.own before.place place place_rises at.own_seen;
    memory_faults_is = wants_found memory_faults answer found ∙ at.memory_faults_is;
    steps_are = steps_then (memory_faults_after memory_faults answer) (wants_found memory_faults answer found);
  }

module _ (first_own : List ℕ) (first_steps : ℕ) (old new : BoardContent) (steps steps' memory_faults cost place : ℕ) (before : Point)
    (at : IsAt first_own first_steps old steps memory_faults before) (late : length old.history ≤ place + 1) (within : place < length new.history) where
  pub wanting_at : Stays old new → (answer : Answer) → answer.code ≡ 503 → IsAt first_own first_steps new steps' (memory_faults_after memory_faults answer) (wanting_point place cost before)
  wanting_at stays answer code =
      let more : memory_faults_after memory_faults answer ≡ memory_faults + 1 = rw code refl in
      record {
        within = within;
        held = rw stays.held (held_stays old.history new.history before.held old.held stays.earlier at.held);
        own_is = stays.own ∙ at.own_is;
        own_seen = later_own before.own before.place place (let h = at.within in omega arith) at.own_seen;
        memory_faults_is = more ∙ ap (λ n. n + 1) at.memory_faults_is;
        steps_are = λ none. absurd (omega (arith, more, none));
      }

-- an event: the last of the states is the one that it made
module _ (old new : BoardContent) (E : SurveyState → SurveyState → Type 0) (h : Happens E old new) where
  pub event_within : length h.before < length new.history
  event_within = rw h.history (omega (arith, length-push h.before h.state))

  pub event_begins : Begins old.history new.history
  event_begins = rw h.history (begins_trans old.history h.before (h.before ++ h.state ∷ []) h.earlier (begins_more h.before (h.state ∷ [])))

  pub event_new : slice_get new.history (length h.before) ≡ Some h.state
  event_new = rw h.history (pushed_there h.before h.state)

  module _ (first_own : List ℕ) (first_steps steps memory_faults : ℕ) (before : Point) (at : IsAt first_own first_steps old steps memory_faults before) where
    pub event_later : before.place < length h.before
    event_later = let w = at.within in omega (arith, begins_length old.history h.before h.earlier)

    pub event_old : slice_get new.history (length h.before - 1) ≡ Some (last_of h.before)
    event_old = rw h.history (before_there h.before h.state (omega (arith, event_later)))

    pub event_at : (steps' cost : ℕ) → steps' ≤ steps + cost → (answer : Answer) → IsFound answer
        → IsAt first_own first_steps new steps' (memory_faults_after memory_faults answer) (event_point (length h.before) cost before)
    event_at steps' cost bound answer found = record {
      within = event_within;
      held = rw h.held (held_stays old.history new.history before.held old.held event_begins at.held);
      own_is = h.own ∙ ap (λ (own : List ℕ). own ++ length h.before ∷ []) at.own_is ∙ append_assoc first_own before.own (length h.before ∷ []);
      own_seen = All-push (λ p. p ≤ length h.before) before.own (length h.before) (later_own before.own before.place (length h.before) (omega (arith, event_later)) at.own_seen) (omega arith);
      memory_faults_is = wants_found memory_faults answer found ∙ at.memory_faults_is;
      steps_are = λ none. more_steps first_steps steps steps' before.cost cost (at.steps_are (sym (wants_found memory_faults answer found) ∙ none)) bound;
    }

    -- what an event did beside its answer
    pub event_steps : (cost : ℕ) → Steps before (event_point (length h.before) cost before)
    event_steps cost = record { later = event_later; held = refl; own = refl; memory_faults = refl }
