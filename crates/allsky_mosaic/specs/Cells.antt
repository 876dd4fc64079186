-- The cells of a mosaic, as its code makes them: squares of stored numbers, and bands of 27 squares side by side.
use Rattle.std.specs.Prelude.{◌≡◌, ℕ, ◌+◌, ◌-◌, ◌*◌, ◌/◌, ◌%◌, ◌^◌, ◌<◌, List, [], ◌∷◌, length, ℤ, Option, Some, None}
use Rattle.healpix_nested.specs.Cells.{cell_count}
use Rattle.healpix_nested.specs.Place.{z_order}
use Rattle.parent_rule.specs.Depth.{PixelDepth}
use Rattle.parent_rule.specs.Combined.{combined}
use Rattle.leaf_store.specs.Store.{value_at}
use Rattle.pyramid_model.specs.Shape.{PyramidShape, LeafMap}
use Rattle.pyramid_model.specs.Value.{value}
use Rattle.tile_pixels.specs.declared.form.TileForm.{TileForm}
use Rattle.tile_pixels.specs.Stored.{stored_at}
use Rattle.tile_pixels.specs.Tile.{PixelTile, pixel_in}
use Rattle.allsky_mosaic.specs.Mosaic.{place_pixel, side_of}
use Rattle.allsky_mosaic.specs.Tiles.{IsSurvey}

-- a square of 2^levels columns and lines shows a cell of order 3: each number is the value of the cell within it
abbrev pub ShowsSquare : PyramidShape → LeafMap → ℕ → ℕ → (ℕ → ℕ → ℤ) → Type 0
ShowsSquare shape leaves cell levels number = (column line : ℕ) → column < 2 ^ levels → line < 2 ^ levels
    → number column line ≡ value shape leaves (3 + levels) (cell * 4 ^ levels + z_order column line)

-- a square of blank numbers
pub record IsBlank (form : TileForm) (bytes : List ℕ) : Type 0 where
  pub long : length bytes ≡ side_of form.n * side_of form.n * (form.depth.bitpix / 8)
  pub blank : (place : ℕ) → place < side_of form.n * side_of form.n → stored_at form.depth.bitpix bytes place ≡ form.depth.blank

-- the number in a column and a line of a square that is stored bottom line first
abbrev pub square_number : ℕ → ℕ → List ℕ → ℕ → ℕ → ℤ
square_number bits side bytes column line = stored_at bits bytes ((side - 1 - line) * side + column)

-- the number above the four in columns 2c and 2c + 1 of lines 2l and 2l + 1, in the order of the four children
abbrev pub number_over : PixelDepth → ℕ → List ℕ → ℕ → ℕ → ℤ
number_over depth side bytes column line = combined depth.combine depth.blank
    (number (2 * column) (2 * line) ∷ number (2 * column) (2 * line + 1) ∷ number (2 * column + 1) (2 * line) ∷ number (2 * column + 1) (2 * line + 1) ∷ [])
  where
    number : ℕ → ℕ → ℤ
    number = square_number depth.bitpix (2 * side) bytes

-- the pixel of a tile that may be there
abbrev pub pixel_or_blank : ℤ → Option PixelTile → ℕ → ℕ → ℤ
pixel_or_blank blank None column line = blank
pixel_or_blank blank (Some tile) column line = pixel_in tile column line

-- the tiles that there are show the cells of order 3
abbrev pub ShowCells : PyramidShape → LeafMap → List (ℕ × PixelTile) → Type 0
ShowCells shape leaves tiles = (cell : ℕ) → cell < cell_count 3
    → ShowsSquare shape leaves cell shape.n (pixel_or_blank shape.depth.blank (value_at cell tiles))

-- the number in a column of cell col of a band, in its line t from the bottom
abbrev pub band_number : ℕ → ℕ → List ℕ → ℕ → ℕ → ℕ → ℤ
band_number bits side band col t column = stored_at bits band ((t * 27 + col) * side + column)

-- bands from the bottom one, band 0 being that of the row of places with this number, show the mosaic
abbrev pub ShowBands : PyramidShape → LeafMap → ℕ → ℕ → List ℕ → Type 0
ShowBands shape leaves row bands bytes = (b t col column : ℕ) → b < bands → t < side → col < 27 → column < side
    → stored_at shape.depth.bitpix bytes (b * (27 * side * side) + ((t * 27 + col) * side + column)) ≡ place_pixel shape leaves ((row - b) * 27 + col) column (side - 1 - t)
  where
    side : ℕ
    side = side_of shape.n

-- the number of a mosaic in the square of a place, in a column of the square and its line t from the bottom
abbrev pub number_in_place : ℕ → ℕ → List ℕ → ℕ → ℕ → ℕ → ℤ
number_in_place bits side bytes place t column = stored_at bits bytes ((28 - place / 27) * (27 * side * side) + ((t * 27 + place % 27) * side + column))

-- the square of a place shows what the mosaic of a survey has there
abbrev pub ShowsPlace : PixelDepth → ℕ → PyramidShape → LeafMap → ℕ → List ℕ → Type 0
ShowsPlace depth n shape leaves place bytes = (t column : ℕ) → t < side_of n → column < side_of n
    → number_in_place depth.bitpix (side_of n) bytes place t column ≡ place_pixel shape leaves place column (side_of n - 1 - t)

-- bytes that are so many bands, whichever survey's cells the tiles show
pub record AreBands (depth : PixelDepth) (n : ℕ) (tiles : List (ℕ × PixelTile)) (row count : ℕ) (bytes : List ℕ) : Type 0 where
  pub long : length bytes ≡ count * (27 * side_of n * side_of n) * (depth.bitpix / 8)
  pub shown : (shape : PyramidShape) (leaves : LeafMap) → IsSurvey depth n shape → ShowCells shape leaves tiles → ShowBands shape leaves row count bytes
