-- The connections that come through a door.
use Rattle.std.specs.Prelude.{◌≡◌, ℕ, ◌+◌, List, [], ◌∷◌, ◌++◌, length, Option, Some, None, ⊤, if◌then◌else◌, nat_lt}

-- a connection: the bytes left in its source, those held by its sink and those of them that were flushed, where the proof
-- can see them, and the counts of faults of both
pub record Connection : Type 0 where
  pub unread : Option (List ℕ)
  pub written : Option (List ℕ)
  pub flushed : Option (List ℕ)
  pub source_faults : ℕ
  pub sink_faults : ℕ

-- a connection of a door: the numbers that its source and its sink have there, and what it is
pub record Numbered : Type 0 where
  pub source : Option ℕ
  pub sink : Option ℕ
  pub told : Connection

-- both its ends have this number
abbrev pub HasNumber : ℕ → Numbered → Type 0
HasNumber number connection = (connection.source ≡ Some number) × (connection.sink ≡ Some number)

-- they have the numbers from this one on, in order
abbrev pub AreNumbered : ℕ → List Numbered → Type 0
AreNumbered number [] = ⊤
AreNumbered number (first ∷ rest) = HasNumber number first × AreNumbered (number + 1) rest

-- the connections that are still to come, those that were taken and those that were given back, each in order
pub record Connections : Type 0 where
  pub waiting : List Numbered
  pub taken : List Numbered
  pub returned : List Numbered

-- the first of those to come was taken, and is this one; the others stay. Both its ends have the number of those taken before it
abbrev pub Takes : Option Connections → Option Connections → Numbered → Type 0
Takes None new connection = ⊤
Takes (Some old) None connection = ⊥
Takes (Some old) (Some new) connection =
    (old.waiting ≡ connection ∷ new.waiting) × (new.taken ≡ old.taken ++ connection ∷ []) × (new.returned ≡ old.returned) × HasNumber (length old.taken) connection

-- no connection is still to come
abbrev pub NoneWaits : Option Connections → Type 0
NoneWaits None = ⊤
NoneWaits (Some told) = told.waiting ≡ []

-- the connection is the last of those given back, if fewer were given back than taken; all else stays
abbrev pub given_back : Numbered → Connections → Connections
given_back connection old = if nat_lt (length old.returned) (length old.taken)
    then record old { returned = old.returned ++ connection ∷ [] } else old
