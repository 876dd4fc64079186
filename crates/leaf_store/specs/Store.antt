-- What a store holds: a finite map from keys to values, as its pairs by ascending key.
use Rattle.std.specs.Prelude.{ℕ, ◌&&◌, nat_le, nat_lt, Bool, List, Option}
use Rattle.std.specs.List.{list_any}
use Rattle.std.specs.List.Sorted.{IsStrictlySortedBy}
use Rattle.std.specs.Ordering.{nat_cmp}
use Rattle.std.specs.Map.{lookup, keys_of, remove_entry}
use Rattle.std.specs.BTreeMap.{is_at, insert_entry}

module _ {T : Type 0} where
  -- each key is below the next, so it stands once
  abbrev pub IsAscending : List (ℕ × T) → Type 0
  IsAscending pairs = IsStrictlySortedBy nat_cmp (keys_of pairs)

  -- the value of a key, where the pairs have it
  abbrev pub value_at : ℕ → List (ℕ × T) → Option T
  value_at key pairs = lookup (is_at (nat_cmp key)) pairs

  -- whether a key from low to below high is there
  abbrev pub any_key_in : ℕ → ℕ → List (ℕ × T) → Bool
  any_key_in low high pairs = list_any (λ pair. nat_le low pair.0 && nat_lt pair.0 high) pairs

  -- the pairs with this value at the key: in the old value's place, or a new pair in its place by key
  abbrev pub with_value : ℕ → T → List (ℕ × T) → List (ℕ × T)
  with_value key value pairs = insert_entry nat_cmp pairs key value

  -- the pairs without the key's
  abbrev pub without_key : ℕ → List (ℕ × T) → List (ℕ × T)
  without_key key pairs = remove_entry (is_at (nat_cmp key)) pairs
