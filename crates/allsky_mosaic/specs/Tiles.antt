-- The tiles of order 3 that a mosaic is made of.
use Rattle.std.specs.Prelude.{◌≡◌, ℕ, ◌≤◌, ◌<◌, ◌/◌, ◌*◌, List, map, All, option_map, length, IsTrue}
use Rattle.std.specs.Map.{keys_of, values_of}
use Rattle.healpix_nested.specs.Cells.{cell_count}
use Rattle.parent_rule.specs.Depth.{PixelDepth, is_bitpix}
use Rattle.leaf_store.specs.Store.{value_at}
use Rattle.pyramid_model.specs.Shape.{PyramidShape, LeafMap}
use Rattle.tile_pixels.specs.declared.form.TileForm.{TileForm}
use Rattle.tile_pixels.specs.Stored.{numbers_from}
use Rattle.tile_pixels.specs.Tile.{PixelTile, HasShape}
use Rattle.tile_pixels.specs.Merge.{Shows}
use Rattle.allsky_mosaic.specs.Mosaic.{mosaic, mosaic_count}

-- each is of a cell of order 3, and of that depth and size
pub record AreOfOrder3 (depth : PixelDepth) (n : ℕ) (tiles : List (ℕ × PixelTile)) : Type 0 where
  pub cells : All (λ cell. cell < cell_count 3) (keys_of tiles)
  pub shapes : All (λ tile. HasShape tile depth n) (values_of tiles)

-- of this form, which has 2 to 512 columns
pub record AreOfForm (form : TileForm) (tiles : List (ℕ × PixelTile)) : Type 0 where
  pub least_n : 1 ≤ form.n
  pub greatest_n : form.n ≤ 9
  pub known : IsTrue (is_bitpix form.depth.bitpix)
  pub are : AreOfOrder3 form.depth form.n tiles

-- a pyramid of which they are the leaves
abbrev pub order_3 : PixelDepth → ℕ → PyramidShape
order_3 depth n = record { top = 3; low = 3; n = n; depth = depth }

abbrev pub leaf_map : List (ℕ × PixelTile) → LeafMap
leaf_map tiles = map (λ tile. (tile.0, tile.1.numbers)) tiles

-- a survey whose tiles have that depth and size
pub record IsSurvey (depth : PixelDepth) (n : ℕ) (shape : PyramidShape) : Type 0 where
  pub depth_is : shape.depth ≡ depth
  pub n_is : shape.n ≡ n
  pub top : 3 ≤ shape.top

-- tile of a cell of order 3: that of the survey's leaf map, there if and only if it exists
abbrev pub ShowsCell : PyramidShape → LeafMap → List (ℕ × PixelTile) → ℕ → Type 0
ShowsCell shape leaves tiles cell = Shows shape leaves 3 cell (option_map (λ tile. tile.numbers) (value_at cell tiles))

-- bytes that are the mosaic of a survey
pub record IsMosaic (depth : PixelDepth) (n : ℕ) (shape : PyramidShape) (leaves : LeafMap) (bytes : List ℕ) : Type 0 where
  pub long : length bytes ≡ mosaic_count n * (depth.bitpix / 8)
  pub numbers : numbers_from depth.bitpix (mosaic_count n) bytes ≡ mosaic shape leaves
