-- What calls do to the counts of faults and of readings, and to the bytes that a sink holds.
use Rattle.std.specs.Prelude.{◌≡◌, ℕ, ◌+◌, ◌-◌, ◌^◌, ◌≤◌, min, List, ◌++◌, take, length, flat_map, Option, Some, None, Bool, true, false, ⊤, if◌then◌else◌, nat_lt}
use Rattle.std.specs.Borrow.{Bor}

-- a count after one more: it stays at a u64's maximum
abbrev pub next_count : ℕ → ℕ
next_count n = min (n + 1) (2 ^ 64 - 1)

-- the count of faults rose: by one or more, or to its type's maximum, where it stays; it never falls
abbrev pub Rises : ℕ → ℕ → Type 0
Rises old new = (next_count old ≤ new) × (old ≤ new)

-- what a call does to a count of faults: it rises where the call failed, and else it stays
abbrev pub CountsFault : Bool → ℕ → ℕ → Type 0
CountsFault true old new = Rises old new
CountsFault false old new = new ≡ old

-- what a count that stays at a u64's maximum shows: the number, and nothing at the maximum
abbrev pub visible_count : ℕ → Option ℕ
visible_count n = if nat_lt n (2 ^ 64 - 1) then Some n else None

-- the number of readings after so many more, where the proof can see it: more by one for each
abbrev pub readings_after : ℕ → Option ℕ → Option ℕ
readings_after more None = None
readings_after more (Some n) = visible_count (n + more)

-- known bytes stay at the front, and grow by a prefix of these
abbrev pub AppendsPrefix : Option (List ℕ) → Option (List ℕ) → List ℕ → Type 0
AppendsPrefix None new bytes = ⊤
AppendsPrefix (Some xs) None bytes = ⊥
AppendsPrefix (Some xs) (Some ys) bytes = (length xs ≤ length ys) × (ys ≡ take (length ys) (xs ++ bytes))

-- the bytes of the parts, one after another
abbrev pub parts_bytes : List (Bor (List ℕ)) → List ℕ
parts_bytes parts = flat_map (λ part. part.now) parts
