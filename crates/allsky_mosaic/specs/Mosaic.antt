-- The all-sky mosaic of a survey: one image of the tiles of order 3 (HiPS 1.0, section 4.3.2: Allsky). That its cells have
-- at most 64 columns and lines, and that it is stored as an image of its own, is the project's profile of it.
use Rattle.std.specs.Prelude.{ℕ, ◌+◌, ◌-◌, ◌*◌, ◌/◌, ◌%◌, ◌^◌, List, map, ℤ, min, nat_lt, if◌then◌else◌}
use Rattle.std.specs.List.{range_with_len}
use Rattle.healpix_nested.specs.Cells.{cell_count}
use Rattle.healpix_nested.specs.Place.{z_order}
use Rattle.pyramid_model.specs.Shape.{PyramidShape, LeafMap}
use Rattle.pyramid_model.specs.Value.{value}

-- a cell of it has 2^levels columns and lines: those of a tile of 2^n, and at most 64
abbrev pub cell_levels : ℕ → ℕ
cell_levels n = min n 6

abbrev pub side_of : ℕ → ℕ
side_of n = 2 ^ cell_levels n

-- 27 cells stand side by side, in 29 rows
abbrev pub width_of : ℕ → ℕ
width_of n = 27 * side_of n

abbrev pub height_of : ℕ → ℕ
height_of n = 29 * side_of n

-- the pixel in a column and a line of the place of that number: the value of its cell within the cell of order 3 that has
-- the number, and blank in a place past the cells of order 3
abbrev pub place_pixel : PyramidShape → LeafMap → ℕ → ℕ → ℕ → ℤ
place_pixel shape leaves place column line =
    if nat_lt place (cell_count 3) then value shape leaves (3 + cell_levels shape.n) (place * 4 ^ cell_levels shape.n + z_order column line)
    else shape.depth.blank

-- the pixel in a column and a line of the mosaic, both counted from 0 at the top left
abbrev pub mosaic_pixel : PyramidShape → LeafMap → ℕ → ℕ → ℤ
mosaic_pixel shape leaves column line = place_pixel shape leaves (line / side * 27 + column / side) (column % side) (line % side)
  where
    side : ℕ
    side = side_of shape.n

-- its stored number s: the bottom line stands first (FITS 4.0)
abbrev pub mosaic_number : PyramidShape → LeafMap → ℕ → ℤ
mosaic_number shape leaves s = mosaic_pixel shape leaves (s % width_of shape.n) (height_of shape.n - 1 - s / width_of shape.n)

-- how many numbers it has, and all of them
abbrev pub mosaic_count : ℕ → ℕ
mosaic_count n = width_of n * height_of n

unfoldable pub mosaic : PyramidShape → LeafMap → List ℤ
mosaic shape leaves = map (mosaic_number shape leaves) (range_with_len 0 (mosaic_count shape.n))
