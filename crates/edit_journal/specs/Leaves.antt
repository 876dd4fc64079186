-- The leaf tiles after edits, and what is charged for them.
use Rattle.std.specs.Prelude.{ℕ, ◌+◌, ◌*◌, ◌/◌, ◌^◌, ◌<◌, max, List, fold, sum_by, All}
use Rattle.std.specs.Map.{keys_of, values_of}
use Rattle.healpix_nested.specs.Cells.{cell_count}
use Rattle.pyramid_model.specs.Shape.{PyramidShape}
use Rattle.tile_pixels.specs.Tile.{PixelTile, HasShape}
use Rattle.leaf_store.specs.Store.{IsAscending, with_value, without_key}
use Rattle.edit_journal.specs.Edit.{LeafEdit, put, add, replace, remove}

-- a finite map from leaf numbers to tiles: its pairs by ascending number
abbrev pub LeafTiles : Type 0
LeafTiles = List (ℕ × PixelTile)

-- the leaves after an edit: Put, Add and Replace set the leaf's tile, Remove takes the leaf away
abbrev pub leaves_after : LeafTiles → LeafEdit → LeafTiles
leaves_after leaves (put leaf tile) = with_value leaf tile leaves
leaves_after leaves (add leaf tile) = with_value leaf tile leaves
leaves_after leaves (replace leaf tile) = with_value leaf tile leaves
leaves_after leaves (remove leaf) = without_key leaf leaves

-- the leaves after edits, from the first to the last
unfoldable pub leaves_of : LeafTiles → List LeafEdit → LeafTiles
leaves_of opening edits = fold leaves_after opening edits

-- a tile is charged with its stored bytes, and with 1,024 at least
abbrev pub tile_charge : PixelTile → ℕ
tile_charge tile = max 1024 (4 ^ tile.n * (tile.depth.bitpix / 8))

-- so each tile of a shape with as much
abbrev pub leaf_charge : PyramidShape → ℕ
leaf_charge shape = max 1024 (4 ^ shape.n * (shape.depth.bitpix / 8))

-- an edit with its tile; a Remove has none
abbrev pub edit_charge : LeafEdit → ℕ
edit_charge (put leaf tile) = tile_charge tile
edit_charge (add leaf tile) = tile_charge tile
edit_charge (replace leaf tile) = tile_charge tile
edit_charge (remove leaf) = 0

-- all opening leaves and all edits
unfoldable pub charge_of : LeafTiles → List LeafEdit → ℕ
charge_of opening edits = sum_by (λ leaf. tile_charge leaf.1) opening + sum_by edit_charge edits

-- a tile of the shape's depth and width
abbrev pub FitsTile : PyramidShape → PixelTile → Type 0
FitsTile shape tile = HasShape tile shape.depth shape.n

-- leaves of the shape's order, each with such a tile
pub record FitsLeaves (shape : PyramidShape) (leaves : LeafTiles) : Type 0 where
  pub ascending : IsAscending leaves
  pub cells : All (λ leaf. leaf < cell_count shape.top) (keys_of leaves)
  pub tiles : All (FitsTile shape) (values_of leaves)

-- an edit of such a leaf, with such a tile where it has one
abbrev pub FitsEdit : PyramidShape → LeafEdit → Type 0
FitsEdit shape (put leaf tile) = (leaf < cell_count shape.top) × FitsTile shape tile
FitsEdit shape (add leaf tile) = (leaf < cell_count shape.top) × FitsTile shape tile
FitsEdit shape (replace leaf tile) = (leaf < cell_count shape.top) × FitsTile shape tile
FitsEdit shape (remove leaf) = leaf < cell_count shape.top
