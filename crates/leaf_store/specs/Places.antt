-- Where a key is among ascending pairs, or would be.
use Rattle.std.specs.Prelude.{◌≡◌, ℕ, ◌+◌, ◌<◌, ◌≤◌, List, Some, length, take, drop}
use Rattle.leaf_store.specs.Chunks.{first_key, AllBelow, AllAbove}

-- the pair at this place has the key
pub record IsFound {T : Type 0} (key : ℕ) (pairs : List (ℕ × T)) (i : ℕ) : Type 0 where
  pub bound : i < length pairs
  pub below : AllBelow key (take i pairs)
  pub here : first_key (drop i pairs) ≡ Some key
  pub above : AllAbove key (drop (i + 1) pairs)

-- no pair has the key, and it belongs at this place
pub record IsGap {T : Type 0} (key : ℕ) (pairs : List (ℕ × T)) (i : ℕ) : Type 0 where
  pub bound : i ≤ length pairs
  pub below : AllBelow key (take i pairs)
  pub above : AllAbove key (drop i pairs)
