-- The ends of a list of sources.
use Rattle.std.specs.Prelude.{◌≡◌, ℕ, ◌-◌, Bool, false, List, [], ◌∷◌, length, slice_get, IfSome}
use Rattle.std.specs.Arc.{arc_value}
use Rattle.std.specs.declared.sync.Arc.{Arc}
use Rattle.std.specs.declared.alloc.Global.{Global}
use Rattle.hips_catalog.specs.Rows.{Source, is_better}

-- the source at this place, if there is one, has this rank
abbrev pub HasRank : List (Arc Source Global) → ℕ → ℕ → Type 0
HasRank rows at rank = IfSome (slice_get rows at) (λ row. (arc_value row).rank ≡ rank)

-- the first and the last source, if there are any, have these ranks
pub record HasEnds (rows : List (Arc Source Global)) (first last : ℕ) : Type 0 where
  pub first_is : HasRank rows 0 first
  pub last_is : HasRank rows (length rows - 1) last

-- whether there is a first source, and it is better than the other
abbrev pub begins_better : List Source → Source → Bool
begins_better [] other = false
begins_better (s ∷ ss) other = is_better s other
