-- Laws of histories, each the whole contract of a function of `laws`.
use Rattle.std.specs.Prelude.{◌≡◌, ℕ, ◌+◌, ◌<◌, ◌≤◌, List, [], ◌∷◌, ◌++◌, length, take, slice_get, Some}
use Rattle.edit_journal.specs.Leaves.{LeafTiles, leaves_of}
use Rattle.survey_core.specs.History.{SurveyState, edits_at, IsStep, IsHistory, Begins, Precedes, IsSound}

-- the law of histories: of one history, and of two of which one is a prefix of the other
pub record StatesStay : Type 0 where
  pub in_one : (opening : LeafTiles) (states : List SurveyState) (i j : ℕ) (earlier later : SurveyState) → IsHistory opening states → i ≤ j →
      slice_get states i ≡ Some earlier → slice_get states j ≡ Some later → Precedes earlier later
  pub in_two : (opening : LeafTiles) (before after : List SurveyState) (i j : ℕ) (earlier later : SurveyState) → IsHistory opening after → Begins before after → i ≤ j →
      slice_get before i ≡ Some earlier → slice_get after j ≡ Some later → Precedes earlier later

-- the leaves after the first k edits of an earlier state are those after the first k edits of a later one
abbrev pub PrefixesStay : Type 0
PrefixesStay = (opening : LeafTiles) (earlier later : SurveyState) (k : ℕ) → Precedes earlier later → k ≤ length (edits_at earlier) →
    leaves_of opening (take k (edits_at earlier)) ≡ leaves_of opening (take k (edits_at later))

-- a history with one step more is one, and so is a prefix that isn't empty
pub record HistoriesGoOn : Type 0 where
  pub step : (opening : LeafTiles) (states : List SurveyState) (place : ℕ) (last next : SurveyState) → IsHistory opening states →
      slice_get states place ≡ Some last → place + 1 ≡ length states → IsStep opening last next → IsHistory opening (states ++ next ∷ [])
  pub prefix : (opening : LeafTiles) (before after : List SurveyState) → IsHistory opening after → Begins before after → 0 < length before → IsHistory opening before

-- in each state of a history no batch is empty and the tip is an end
abbrev pub StatesAreSound : Type 0
StatesAreSound = (opening : LeafTiles) (states : List SurveyState) (i : ℕ) (state : SurveyState) → IsHistory opening states → slice_get states i ≡ Some state → IsSound state
