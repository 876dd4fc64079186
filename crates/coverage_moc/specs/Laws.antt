-- Laws of the definitions, each the whole contract of a function of `laws`.
use Rattle.std.specs.Prelude.{◌≡◌, ℕ, ◌<◌, List, All}
use Rattle.healpix_nested.specs.Cells.{cell_count}
use Rattle.coverage_moc.specs.Cover.{has, IsAscending, cover, leaves_under}

-- a cover says which leaves there are: those under its rows
abbrev pub LeavesComeBack : Type 0
LeavesComeBack = (top : ℕ) (leaves : List ℕ) → IsAscending leaves → All (λ leaf. leaf < cell_count top) leaves → leaves_under top (cover top leaves) ≡ leaves

-- nothing but which leaves are there decides the cover
abbrev pub LeavesDecide : Type 0
LeavesDecide = (top : ℕ) (leaves other : List ℕ) → ((leaf : ℕ) → leaf < cell_count top → has leaves leaf ≡ has other leaf) → cover top leaves ≡ cover top other
