-- How one connection sees a survey that others may change too: a history of states, in which some steps are its own events.
-- This project's profile.
use Rattle.std.specs.Prelude.{◌≡◌, ℕ, ◌+◌, ◌-◌, ◌<◌, ◌≤◌, List, [], ◌∷◌, ◌++◌, length, All, slice_get, slice_index_or, Option, Some, None}
use Rattle.shared_history.specs.Histories.{places_of}
use Rattle.survey_conf.specs.Description.{Description}
use Rattle.edit_journal.specs.Leaves.{LeafTiles}
use Rattle.dirty_plan.specs.Dirty.{work}
use Rattle.generation.specs.Steps.{touched}
use Rattle.survey_core.specs.History.{SurveyState, edits_at, opening_state, IsPublication, IsHistory, Begins}
use Rattle.survey_core.specs.State.{StateContent}

-- the number of a board's seat, and how many seats its survey has: their numbers are those below
pub record BoardSeat : Type 0 where
  pub number : ℕ
  pub seats : ℕ

-- the survey's description and opening leaves, the states that the board has seen, of each state after the first the number
-- of the seat whose event made it, the board's own seat, the places of its own events, and the state that it holds
pub record BoardContent : Type 0 where
  pub conf : Description
  pub opening : LeafTiles
  pub history : List SurveyState
  pub owners : List ℕ
  pub seat : BoardSeat
  pub own : List ℕ
  pub held : Option SurveyState

-- the last of some states
unfoldable pub last_of : List SurveyState → SurveyState
last_of states = slice_index_or states (length states - 1) opening_state

-- the last state that the board has seen
abbrev pub last_seen : BoardContent → SurveyState
last_seen board = last_of board.history

-- a state of its survey
abbrev pub state_in : BoardContent → SurveyState → StateContent
state_in board state = record { conf = board.conf; opening = board.opening; batches = state.batches; tip = state.tip }

-- how many edits a state has
abbrev pub edit_count : SurveyState → ℕ
edit_count state = length (edits_at state)

-- each state after the first has an owner, which is one of the survey's seats; its own events are those whose owner is its seat
pub record IsOwned (board : BoardContent) : Type 0 where
  pub each : length board.history ≡ length board.owners + 1
  pub seated : All (λ owner. owner < board.seat.seats) board.owners
  pub own : board.own ≡ places_of board.seat.number board.owners

-- ---- what a call does to a board

-- it keeps its seat, and each state that it has seen keeps its owner
pub record KeepsSeat (old new : BoardContent) : Type 0 where
  pub seat : new.seat ≡ old.seat
  pub owners : Begins old.owners new.owners
  pub owned : IsOwned new

-- no event of its own: what it has seen is at the front of what it has seen then
pub record Stays (old new : BoardContent) : Type 0 where
  pub conf : new.conf ≡ old.conf
  pub opening : new.opening ≡ old.opening
  pub legal : IsHistory new.opening new.history
  pub earlier : Begins old.history new.history
  pub seat : KeepsSeat old new
  pub own : new.own ≡ old.own
  pub held : new.held ≡ old.held

-- one event of its own, a step from the last of the states before it, which begin with what the board had seen; the state
-- after it is the last seen then
pub record Happens (IsEvent : SurveyState → SurveyState → Type 0) (old new : BoardContent) : Type 0 where
  pub conf : new.conf ≡ old.conf
  pub opening : new.opening ≡ old.opening
  pub legal : IsHistory new.opening new.history
  pub before : List SurveyState
  pub state : SurveyState
  pub earlier : Begins old.history before
  pub event : IsEvent (last_of before) state
  pub history : new.history ≡ before ++ state ∷ []
  pub seat : KeepsSeat old new
  pub own : new.own ≡ old.own ++ length before ∷ []
  pub held : new.held ≡ old.held

-- something holds of one state seen then that isn't before the last state seen before the call
pub record InOne (old new : BoardContent) (P : SurveyState → Type 0) : Type 0 where
  pub place : ℕ
  pub late : length old.history ≤ place + 1
  pub state : SurveyState
  pub there : slice_get new.history place ≡ Some state
  pub holds : P state

-- the last state seen is held, or none is
abbrev pub holding_last : BoardContent → BoardContent
holding_last board = record board { held = Some (last_seen board) }

abbrev pub holding_none : BoardContent → BoardContent
holding_none board = record board { held = None }

-- the first k edits are published
pub record Publishes (k : ℕ) (old new : SurveyState) : Type 0 where
  pub publication : IsPublication old new
  pub tip : new.tip ≡ k

-- all of the state's edits are published, and these are k
pub record IsPublished (k : ℕ) (state : SurveyState) : Type 0 where
  pub tip : state.tip ≡ k
  pub edits : edit_count state ≡ k

-- how many cells lie over the leaves of the edits from the tip of the last state seen before a call to the last edit seen then
abbrev pub publish_work : BoardContent → BoardContent → ℕ
publish_work old new =
    work old.conf.shape.top old.conf.shape.low (touched (edits_at (last_seen new)) (last_seen old).tip (edit_count (last_seen new)))
