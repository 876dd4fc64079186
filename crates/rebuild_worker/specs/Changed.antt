-- One order of a pyramid that stood before, and the tiles of the next order, of which some have changed since.
use Rattle.std.specs.Prelude.{◌≡◌, ℕ, ◌/◌, ◌^◌, ◌≤◌, ◌==◌, Bool, false, List, Some, IfSome}
use Rattle.std.specs.List.{list_any}
use Rattle.std.specs.List.Sorted.{IsStrictlyIncreasing}
use Rattle.leaf_store.specs.Store.{value_at}
use Rattle.pyramid_model.specs.Shape.{PyramidShape}
use Rattle.tile_pixels.specs.Tile.{PixelTile}
use Rattle.rebuild_worker.specs.declared.sources.Sources.{Sources}
use Rattle.rebuild_worker.specs.Level.{children_of, tile_above, HaveShape}

-- whether a touched leaf lies under a cell so many orders above the leaves
abbrev pub is_touched : List ℕ → ℕ → ℕ → Bool
is_touched touched height cell = list_any (λ leaf. leaf / 4 ^ height == cell) touched

-- tiles were merged of their children as they were, and a child under which no touched leaf lies is as it was
pub record StoodOver (shape : PyramidShape) (children : List (ℕ × PixelTile)) (touched : List ℕ) (height : ℕ) (before : List (ℕ × PixelTile)) : Type 0 where
  pub was : List (ℕ × PixelTile)
  pub merged_of : (cell : ℕ) → IfSome (value_at cell before) (λ tile. Some tile ≡ tile_above shape (children_of was cell))
  pub same : (child : ℕ) → is_touched touched height child ≡ false → value_at child was ≡ value_at child children

-- the sources of an order's tiles
pub record AreSources (shape : PyramidShape) (sources : Sources) : Type 0 where
  pub children : HaveShape shape sources.children.now
  pub ascending : IsStrictlyIncreasing sources.touched.now
  pub height : sources.height ≤ 11
  pub stood : StoodOver shape sources.children.now sources.touched.now sources.height sources.before.now
