-- What is seen of a history that only grows, and whose each of its states is.
use Rattle.std.specs.Prelude.{◌≡◌, ℕ, ◌+◌, ◌-◌, ◌<◌, ◌==◌, if◌then◌else◌, List, [], ◌∷◌, ◌++◌, length, All, slice_get, Option, Some, None}
use mathlib.Core.List.{IsPrefix}

-- the states that were seen, from the first one on, and the last of them; and of each state after the first its owner, the
-- number of the seat that appended it. The history has so many seats, whose numbers are those below
pub record SeenHistory (S : Type 0) : Type 0 where
  pub states : List S
  pub owners : List ℕ
  pub seats : ℕ
  pub last : S

-- the places of a seat's own states, where these are the owners from a place on
abbrev pub places_from : ℕ → ℕ → List ℕ → List ℕ
places_from place seat [] = []
places_from place seat (owner ∷ owners) =
    if owner == seat then place ∷ places_from (place + 1) seat owners else places_from (place + 1) seat owners

-- the places of a seat's own states in a history: the first owner is that of the state at place 1
abbrev pub places_of : ℕ → List ℕ → List ℕ
places_of seat owners = places_from 1 seat owners

-- what is true of each that was seen: its states are a history, its last state is the last of them, and each state but the
-- first has an owner, which is one of its seats
pub record IsSeenHistory {S : Type 0} (Legal : List S → Type 0) (seen : SeenHistory S) : Type 0 where
  pub legal : Legal seen.states
  pub last : slice_get seen.states (length seen.states - 1) ≡ Some seen.last
  pub owned : length seen.states ≡ length seen.owners + 1
  pub seated : All (λ owner. owner < seen.seats) seen.owners

-- one state, of a history with so many seats
abbrev pub one_state : {S : Type 0} → ℕ → S → SeenHistory S
one_state seats state = record { states = state ∷ []; owners = []; seats = seats; last = state }

-- a state more, which is that seat's
abbrev pub and_then : {S : Type 0} → SeenHistory S → ℕ → S → SeenHistory S
and_then seen seat next = record { states = seen.states ++ next ∷ []; owners = seen.owners ++ seat ∷ []; seats = seen.seats; last = next }

-- another has seen more: its states begin with these, with the same owners, and go on; what it has seen more isn't that seat's
pub record GoesOn {S : Type 0} (seat : ℕ) (mine other : SeenHistory S) : Type 0 where
  pub begins : IsPrefix mine.states other.states
  pub more : length mine.states < length other.states
  pub owners : IsPrefix mine.owners other.owners
  pub own : places_of seat other.owners ≡ places_of seat mine.owners
  pub seats : other.seats ≡ mine.seats

-- what another has seen more: its history, which goes on from this one with none of that seat's; or nothing, if and only if both
-- have seen the same
abbrev pub TellsMore : {S : Type 0} → ℕ → SeenHistory S → SeenHistory S → Option (SeenHistory S) → Type 0
TellsMore seat mine other (Some more) = (more ≡ other) × GoesOn seat mine other
TellsMore seat mine other None = other ≡ mine

-- a seat's number, and what was seen from there
pub record SeatContent (S : Type 0) : Type 0 where
  pub number : ℕ
  pub seen : SeenHistory S

-- all that was appended to a history, and what readers are shown of it
pub record DeskContent (S : Type 0) : Type 0 where
  pub newest : SeenHistory S
  pub shown : SeenHistory S
