-- One order of a pyramid after the tiles of some of its cells were made anew.
use Rattle.std.specs.Prelude.{◌≡◌, ℕ, ◌+◌, ◌<◌, ◌≤◌, ◌==◌, if◌then◌else◌, List, [], fold, All, Option, Some, None}
use Rattle.std.specs.Borrow.{Bor}
use Rattle.std.specs.Map.{keys_of}
use Rattle.healpix_nested.specs.Cells.{cell_count}
use Rattle.parent_rule.specs.Permit.{PermittedCell}
use Rattle.pyramid_model.specs.Shape.{PyramidShape, LeafMap}
use Rattle.tile_pixels.specs.Tile.{PixelTile}
use Rattle.dirty_plan.specs.Dirty.{dirty_cells, permits_of}
use Rattle.rebuild_worker.specs.Level.{NamedTile}
use Rattle.generation.specs.Kept.{tiles_of, AreKept}

-- the tile of a cell after that of one cell was made
abbrev pub tile_at : NamedTile → ℕ → Option PixelTile → Option PixelTile
tile_at named cell old = if named.npix == cell then named.tile else old

-- and after those of several
abbrev pub tile_after : List NamedTile → ℕ → Option PixelTile → Option PixelTile
tile_after merged cell old = fold (λ found named. tile_at named cell found) old merged

-- the tiles of a store; none where there is no store
abbrev pub tiles_in : Option (Bor (List (ℕ × PixelTile))) → List (ℕ × PixelTile)
tiles_in None = []
tiles_in (Some store) = store.now

-- an order is made of the order below it: each cell under which a touched leaf lies anew, and all others stay
pub record IsStep (shape : PyramidShape) (leaves : LeafMap) (order : ℕ) (touched : List ℕ) (children old : List (ℕ × PixelTile)) (todo : List PermittedCell) : Type 0 where
  pub above : order < shape.top
  pub known : shape.top ≤ 20
  pub leaves_in : All (λ leaf. leaf < cell_count shape.top) (keys_of leaves)
  pub touched_in : All (λ leaf. leaf < cell_count shape.top) touched
  pub children_are : children ≡ tiles_of shape leaves (order + 1)
  pub todo_is : todo ≡ permits_of order (dirty_cells shape.top touched order)
  pub kept : AreKept shape leaves touched order old
