-- The tiles of sources, and what a source more or less makes of them.
use Rattle.std.specs.Prelude.{◌≡◌, ℕ, ◌<◌, ◌^◌, List, length}
use Rattle.std.specs.List.{AllByRecursion}
use Rattle.healpix_nested.specs.Cells.{IsCell}
use Rattle.hips_catalog.specs.Rows.{Source}
use Rattle.hips_catalog.specs.Held.{held}
use Rattle.hips_catalog.specs.More.{OneMore, IsInOrder}
use Rattle.hips_catalog.specs.Tiles.{rows_at}
use Rattle.hips_catalog.specs.declared.tile.Tile.{Tile}

-- the tiles are those of these sources in order
abbrev pub AreTilesOf : ℕ → ℕ → List Source → List Tile → Type 0
AreTilesOf top n ss tiles = (k p : ℕ) → rows_at tiles k p ≡ held top n ss k p

-- x is what the one list in order has more than the other
pub record Differ (top : ℕ) (x : Source) (few many : List Source) : Type 0 where
  pub more : OneMore x few many
  pub ordered : IsInOrder many
  pub of_cells : AllByRecursion (λ s. IsCell top s.npix) many
  pub short : length many < 2 ^ 63
