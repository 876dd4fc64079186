-- The board of a survey that nobody else changes, and how it keeps what it has seen: the last state, and of each state the
-- number of its edits and its tip.
use Rattle.std.specs.Prelude.{◌≡◌, ℕ, ◌-◌, ◌≤◌, nat_le, if◌then◌else◌, List, [], ◌∷◌, ◌++◌, map, length, replicate, All, Option, Some, None}
use Rattle.std.specs.List.{range_with_len}
use Rattle.edit_journal.specs.Edit.{LeafEdit}
use Rattle.survey_core.specs.History.{SurveyState, opening_state, IsHistory}
use Rattle.survey_core.specs.State.{StateContent, state_edits, survey_state}
use Rattle.reader_pin.specs.declared.mark.Mark.{Mark}
use Rattle.reader_pin.specs.declared.held.Held.{Held}
use Rattle.reader_pin.specs.declared.held.Held.TheVariants.{Nothing, Last, Earlier}
use Rattle.reader_pin.specs.Board.{BoardSeat, BoardContent, last_of}

-- the only seat of a survey
abbrev pub only_seat : BoardSeat
only_seat = record { number = 0; seats = 1 }

-- a board that has seen the first state of a survey
abbrev pub opened : StateContent → BoardContent
opened state = record { conf = state.conf; opening = state.opening; history = opening_state ∷ []; owners = []; seat = only_seat; own = []; held = None }

-- every step was its own event
abbrev pub IsAlone : BoardContent → Type 0
IsAlone board = board.own ≡ range_with_len 1 (length board.history - 1)

-- one event more of its own
abbrev pub after_event : SurveyState → BoardContent → BoardContent
after_event state board = record board {
  history = board.history ++ state ∷ [];
  owners = board.owners ++ board.seat.number ∷ [];
  own = board.own ++ length board.history ∷ [];
}

-- ---- how it is kept

-- the first batches, as many as have that many edits
unfoldable pub first_batches : ℕ → List (List LeafEdit) → List (List LeafEdit)
first_batches edits [] = []
first_batches edits (batch ∷ batches) =
    if nat_le (length batch) edits then batch ∷ first_batches (edits - length batch) batches else []

-- what is kept of a state
abbrev pub mark_of : StateContent → Mark
mark_of state = record { edits = length (state_edits state); tip = state.tip }

-- the state that is kept so, where these are all batches since
abbrev pub marked : List (List LeafEdit) → Mark → SurveyState
marked batches mark = record { batches = first_batches mark.edits batches; tip = mark.tip }

unfoldable pub all_marked : List (List LeafEdit) → List Mark → List SurveyState
all_marked batches marks = map (marked batches) marks

-- the state that is held
abbrev pub held_of : StateContent → Held StateContent → Option SurveyState
held_of last Nothing = None
held_of last Last = Some (survey_state last)
held_of last (Earlier state) = Some (survey_state state)

abbrev pub solo_content : StateContent → List Mark → Held StateContent → BoardContent
solo_content last marks held = record {
  conf = last.conf;
  opening = last.opening;
  history = all_marked last.batches marks;
  owners = replicate (length marks - 1) 0;
  seat = only_seat;
  own = range_with_len 1 (length marks - 1);
  held = held_of last held;
}

-- the state that is held is one of the same survey
abbrev pub IsOfSurvey : StateContent → Held StateContent → Type 0
IsOfSurvey last Nothing = Unit {0}
IsOfSurvey last Last = Unit {0}
IsOfSurvey last (Earlier state) = (state.conf ≡ last.conf) × (state.opening ≡ last.opening)

-- what is true of what it keeps
pub record IsSolo (last : StateContent) (marks : List Mark) (held : Held StateContent) : Type 0 where
  pub legal : IsHistory last.opening (all_marked last.batches marks)
  pub known : All (λ mark. mark.edits ≤ length (state_edits last)) marks
  pub latest : last_of (all_marked last.batches marks) ≡ survey_state last
  pub survey : IsOfSurvey last held
