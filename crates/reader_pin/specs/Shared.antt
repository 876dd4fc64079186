-- The board of a survey that other boards share, and how it keeps what it has seen.
use Rattle.std.specs.Prelude.{◌≡◌, ℕ, ◌<◌, List, [], map, slice_get, option_map, Option, Some, None, IfSome}
use Rattle.shared_history.specs.Histories.{SeenHistory, SeatContent, places_of, IsSeenHistory}
use Rattle.survey_conf.specs.Description.{Description}
use Rattle.edit_journal.specs.Leaves.{LeafTiles}
use Rattle.survey_core.specs.History.{IsHistory}
use Rattle.survey_core.specs.State.{StateContent, survey_state}
use Rattle.reader_pin.specs.declared.held.Held.{Held}
use Rattle.reader_pin.specs.declared.held.Held.TheVariants.{Nothing, Last, Earlier}
use Rattle.reader_pin.specs.Board.{BoardContent}

-- states of one survey that are a history
pub record IsOneSurvey (states : List StateContent) : Type 0 where
  pub conf : Description
  pub opening : LeafTiles
  pub each : (i : ℕ) (state : StateContent) → slice_get states i ≡ Some state → (state.conf ≡ conf) × (state.opening ≡ opening)
  pub legal : IsHistory opening (map survey_state states)

-- the state that is held, where the last one is that, and this is how an earlier one is kept
abbrev pub held_at : {A : Type 0} → (A → StateContent) → StateContent → Held A → Option StateContent
held_at value last Nothing = None
held_at value last Last = Some last
held_at value last (Earlier state) = Some (value state)

-- a board at the seat with that number, which has seen that, with its own events and the state that it holds
abbrev pub shared_content : ℕ → SeenHistory StateContent → List ℕ → Option StateContent → BoardContent
shared_content number seen own held = record {
  conf = seen.last.conf;
  opening = seen.last.opening;
  history = map survey_state seen.states;
  owners = seen.owners;
  seat = record { number = number; seats = seen.seats };
  own = own;
  held = option_map survey_state held;
}

-- a board at a seat, which has seen no more than that
abbrev pub seated : SeatContent StateContent → BoardContent
seated seat = shared_content seat.number seat.seen [] None

-- the board has seen just that
pub record HasSeen (seen : SeenHistory StateContent) (board : BoardContent) : Type 0 where
  pub conf : board.conf ≡ seen.last.conf
  pub opening : board.opening ≡ seen.last.opening
  pub history : board.history ≡ map survey_state seen.states
  pub owners : board.owners ≡ seen.owners
  pub seats : board.seat.seats ≡ seen.seats

-- both have seen the same
pub record HaveMet (one other : BoardContent) : Type 0 where
  pub conf : one.conf ≡ other.conf
  pub opening : one.opening ≡ other.opening
  pub history : one.history ≡ other.history
  pub owners : one.owners ≡ other.owners
  pub seats : one.seat.seats ≡ other.seat.seats

-- what is true of what it keeps: its own events are those of its seat, and the state that is held is one of the same survey
pub record IsSight (number : ℕ) (history : SeenHistory StateContent) (events : List ℕ) (state : Option StateContent) : Type 0 where
  pub seen : IsSeenHistory IsOneSurvey history
  pub seated : number < history.seats
  pub own : events ≡ places_of number history.owners
  pub held : IfSome state (λ held. (held.conf ≡ history.last.conf) × (held.opening ≡ history.last.opening))
