-- The law of the definitions: a tile file that is written is read again.
use Rattle.std.specs.Prelude.{◌≡◌, ℕ, ◌^◌, ◌≤◌, List, length, All, ℤ, Ok}
use Rattle.healpix_nested.specs.Cells.{IsCell}
use Rattle.parent_rule.specs.Depth.{IsNumber}
use Rattle.survey_conf.specs.Description.{Description, IsDescription}
use Rattle.fits_tile.specs.TileFile.{tile_file}
use Rattle.fits_tile.specs.Reading.{reads}

-- of each survey, each cell of its orders, and each list of stored numbers that a tile has
abbrev pub TilesAreReadAgain : Type 0
TilesAreReadAgain = (d : Description) (k p : ℕ) (numbers : List ℤ) → IsDescription d → k ≤ 11 → IsCell k p
    → length numbers ≡ 4 ^ d.shape.n → All (IsNumber d.shape.depth.bitpix) numbers
    → reads d (tile_file d k p numbers) ≡ Ok numbers
