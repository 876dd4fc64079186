-- Laws of owners, each the whole contract of a function of `laws`.
use Rattle.std.specs.Prelude.{◌≡◌, ℕ, ◌+◌, ◌-◌, ◌<◌, ◌≤◌, List, [], ◌∷◌, ◌++◌, length, All, Contains, slice_get, Some}
use Rattle.std.specs.List.Sorted.{IsStrictlyIncreasing}
use Rattle.shared_history.specs.Histories.{places_of}

-- a place is one of a seat's own if and only if its owner is that seat, and is listed once; a state that the seat appends is
-- its own too
pub record PlacesAreOwn : Type 0 where
  pub owned : (seat place : ℕ) (owners : List ℕ) → Contains (places_of seat owners) place → (0 < place) × (slice_get owners (place - 1) ≡ Some seat)
  pub told : (seat place : ℕ) (owners : List ℕ) → slice_get owners place ≡ Some seat → Contains (places_of seat owners) (place + 1)
  pub once : (seat : ℕ) (owners : List ℕ) → IsStrictlyIncreasing (places_of seat owners)
  pub more : (seat : ℕ) (owners : List ℕ) → places_of seat (owners ++ seat ∷ []) ≡ places_of seat owners ++ (length owners + 1) ∷ []

-- a place is some seat's own, and no other's
pub record IsOneSeats (seats : ℕ) (owners : List ℕ) (place : ℕ) : Type 0 where
  pub seat : ℕ
  pub seated : seat < seats
  pub own : Contains (places_of seat owners) place
  pub alone : (other : ℕ) → Contains (places_of other owners) place → other ≡ seat

-- each place of a history but the first is one seat's
abbrev pub EachIsOneSeats : Type 0
EachIsOneSeats = (seats : ℕ) (owners : List ℕ) → All (λ owner. owner < seats) owners → (place : ℕ) → 0 < place → place ≤ length owners → IsOneSeats seats owners place
