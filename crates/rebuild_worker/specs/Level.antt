-- One order of a pyramid made from the order below it: a tile is merged from its four children (HiPS 1.0, section 4.2).
use Rattle.std.specs.Prelude.{ℕ, ◌+◌, ◌*◌, ◌<◌, ◌||◌, List, map, ℤ, All, Option, Some, None, option_map, is_some, Bool, if◌then◌else◌}
use Rattle.std.specs.Map.{values_of}
use Rattle.healpix_nested.specs.Cells.{cell_count}
use Rattle.parent_rule.specs.Permit.{PermittedCell}
use Rattle.leaf_store.specs.Store.{value_at}
use Rattle.pyramid_model.specs.Shape.{PyramidShape, LeafMap}
use Rattle.tile_pixels.specs.Tile.{PixelTile, HasShape}
use Rattle.tile_pixels.specs.Merge.{FourTiles, merged, Shows, ShowsChildren}

-- a cell, and its tile if there is one
pub record NamedTile : Type 0 where
  pub order : ℕ
  pub npix : ℕ
  pub tile : Option PixelTile

-- the stored numbers of a tile that exists
abbrev pub numbers_of : Option PixelTile → Option (List ℤ)
numbers_of tile = option_map (λ t. t.numbers) tile

-- the four children of cell npix, as a store of the next order has them
abbrev pub children_of : List (ℕ × PixelTile) → ℕ → FourTiles
children_of tiles npix = record {
  first = numbers_of (value_at (4 * npix) tiles);
  second = numbers_of (value_at (4 * npix + 1) tiles);
  third = numbers_of (value_at (4 * npix + 2) tiles);
  fourth = numbers_of (value_at (4 * npix + 3) tiles);
}

-- whether one of the four exists
abbrev pub any_of : FourTiles → Bool
any_of four = is_some four.first || is_some four.second || is_some four.third || is_some four.fourth

-- the tile above four tiles, and none if none of the four exists
abbrev pub tile_above : PyramidShape → FourTiles → Option PixelTile
tile_above shape four = if any_of four then Some (record { depth = shape.depth; n = shape.n; numbers = merged shape.depth shape.n four }) else None

-- the merge that a permit allows, over the tiles of the next order
abbrev pub merge_of : PyramidShape → List (ℕ × PixelTile) → PermittedCell → NamedTile
merge_of shape tiles cell = record { order = cell.order; npix = cell.npix; tile = tile_above shape (children_of tiles cell.npix) }

-- the merges that the permits allow, one for each, in their order
abbrev pub merges_of : PyramidShape → List (ℕ × PixelTile) → List PermittedCell → List NamedTile
merges_of shape tiles todo = map (merge_of shape tiles) todo

-- ---- what the permits and the tiles are

-- the cell lies above the leaves
pub record IsAboveLeaves (shape : PyramidShape) (cell : PermittedCell) : Type 0 where
  pub order : cell.order < shape.top
  pub npix : cell.npix < cell_count cell.order

-- each tile has the depth and n of the shape
abbrev pub HaveShape : PyramidShape → List (ℕ × PixelTile) → Type 0
HaveShape shape tiles = All (λ tile. HasShape tile shape.depth shape.n) (values_of tiles)

-- where the children are those of the cell in the pyramid of a leaf map, the tile is the cell's in that pyramid: it is
-- there if and only if the cell's tile exists, and has its pixels
abbrev pub ShowsItsCell : PyramidShape → List (ℕ × PixelTile) → NamedTile → Type 0
ShowsItsCell shape tiles named = (leaves : LeafMap) → ShowsChildren shape leaves named.order named.npix (children_of tiles named.npix)
    → Shows shape leaves named.order named.npix (numbers_of named.tile)
