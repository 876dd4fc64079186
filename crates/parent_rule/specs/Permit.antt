-- One merge of tiles, which a permit stands for and a counter counts.
use Rattle.std.specs.Prelude.{ℕ, ◌+◌, ◌-◌, ◌^◌, min}

-- the cell that a permit is made out for
pub record PermittedCell : Type 0 where
  pub order : ℕ
  pub npix : ℕ

-- one step more; the counter stands still at its type's end
abbrev pub one_more : ℕ → ℕ
one_more count = min (count + 1) (2 ^ 64 - 1)
