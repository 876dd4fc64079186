-- A tile as contracts see it.
use Rattle.std.specs.Prelude.{◌≡◌, ℕ, ◌+◌, ◌-◌, ◌*◌, ◌^◌, ◌≤◌, List, ℤ, length, slice_index_or, All}
use Rattle.parent_rule.specs.Depth.{PixelDepth, IsNumber}
use Rattle.pyramid_model.specs.Shape.{PyramidShape, LeafMap}
use Rattle.pyramid_model.specs.Tile.{pixels}

-- what its numbers are, n of its 2^n columns and lines, and its 4^n stored numbers, bottom line first
pub record PixelTile : Type 0 where
  pub depth : PixelDepth
  pub n : ℕ
  pub numbers : List ℤ

-- the tiles that there are: of 2 to 512 columns
pub record IsTile (depth : PixelDepth) (n : ℕ) (numbers : List ℤ) : Type 0 where
  pub least_n : 1 ≤ n
  pub greatest_n : n ≤ 9
  pub count : length numbers ≡ 4 ^ n
  pub range : All (IsNumber depth.bitpix) numbers

-- the tile is of that depth, and has 2^n columns and lines
abbrev pub HasShape : PixelTile → PixelDepth → ℕ → Type 0
HasShape tile depth n = (tile.depth ≡ depth) × (tile.n ≡ n)

-- the number of the pixel in a column and a line, counted from 0 at the top left
abbrev pub pixel_in : PixelTile → ℕ → ℕ → ℤ
pixel_in tile column line = slice_index_or tile.numbers ((2 ^ tile.n - 1 - line) * 2 ^ tile.n + column) tile.depth.blank

-- the tile of cell npix of an order, in the pyramid over these leaves
abbrev pub tile_of : PyramidShape → LeafMap → ℕ → ℕ → PixelTile
tile_of shape leaves order npix = record { depth = shape.depth; n = shape.n; numbers = pixels shape leaves order npix }
