-- Laws of the dirty cells, each the whole contract of a function of `laws`.
use Rattle.std.specs.Prelude.{◌≡◌, ℕ, ◌-◌, ◌/◌, ◌^◌, ◌<◌, ◌≤◌, ◌↔◌, List, All, Any, Contains}
use Rattle.std.specs.List.Sorted.{IsStrictlyIncreasing}
use Rattle.healpix_nested.specs.Cells.{cell_count}
use Rattle.dirty_plan.specs.Dirty.{dirty_cells, work}

-- the dirty cells of an order ascend, each stands once, and they are exactly the numbers m / 4^(top - order), m touched
pub record DirtyCellsAreAncestors : Type 0 where
  pub ascending : (top order : ℕ) (touched : List ℕ) → IsStrictlyIncreasing (dirty_cells top touched order)
  pub exactly : (top order cell : ℕ) (touched : List ℕ) → order ≤ top → All (λ leaf. leaf < cell_count top) touched →
      Contains (dirty_cells top touched order) cell ↔ Any (λ leaf. leaf / 4 ^ (top - order) ≡ cell) touched

-- where each leaf touched is touched otherwise too, there is at least as much work
abbrev pub MoreTouchedIsMoreWork : Type 0
MoreTouchedIsMoreWork = (top low : ℕ) (few many : List ℕ) → All (Contains many) few → work top low few ≤ work top low many
