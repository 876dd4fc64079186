-- What `probe` answers.
use Rattle.std.specs.Prelude.{ℕ, ◌+◌, ◌/◌, ◌^◌, ◌<◌, ◌≤◌, List, [], length, count_by, negsuc, nat_le, ◌==◌, if◌then◌else◌}
use Rattle.std.specs.List.{range_with_len}
use Rattle.healpix_nested.specs.Cells.{cell_count, lies_under}
use Rattle.parent_rule.specs.declared.combine.Combine.TheVariants.{Mean}
use Rattle.parent_rule.specs.Depth.{PixelDepth}
use Rattle.pyramid_model.specs.Shape.{PyramidShape, LeafMap}
use Rattle.pyramid_model.specs.Tile.{exists, pixels}
use Rattle.tile_pixels.specs.Stored.{stored_bytes}
use Rattle.leaf_probe.specs.declared.asked.Probe.{Probe}
use Rattle.leaf_probe.specs.Records.{leaf_number, recorded_leaves, reading_status, record_length}
use Rattle.leaf_probe.specs.Merging.{tiles_made}

-- the tile of a probe: leaves of order 3 to 11, tiles of 2 to 512 columns, an order up to that of the leaves, any number
pub record IsProbe (asked : Probe) : Type 0 where
  pub least_top : 3 ≤ asked.top
  pub greatest_top : asked.top ≤ 11
  pub least_n : 1 ≤ asked.n
  pub greatest_n : asked.n ≤ 9
  pub order : asked.order ≤ asked.top
  pub npix : asked.npix < 2 ^ 64

-- the numbers of a probe: 16 bits, the blank number -32768, combined by the mean
abbrev pub probe_depth : PixelDepth
probe_depth = record { bitpix = 16; blank = negsuc 32767; combine = Mean }

-- the asked tile is of a pyramid of these numbers
abbrev pub shape_of : Probe → PyramidShape
shape_of asked = record { top = asked.top; low = 0; n = asked.n; depth = probe_depth }

-- a status, and what is written
pub record Answer : Type 0 where
  pub status : ℕ
  pub output : List ℕ

-- nothing is written
abbrev pub only_status : ℕ → Answer
only_status status = record { status = status; output = [] }

-- the leaves of an input of whole records
abbrev pub leaves_read : Probe → List ℕ → LeafMap
leaves_read asked input = recorded_leaves asked.n input (length input / record_length asked.n)

-- the tile of these leaves, or status 10 if no leaf lies at or under it
abbrev pub tile_answer : Probe → LeafMap → Answer
tile_answer asked leaves = if exists (shape_of asked) leaves asked.order asked.npix
    then record { status = 0; output = stored_bytes 16 (pixels (shape_of asked) leaves asked.order asked.npix) }
    else only_status 10

-- what is answered of an input: 13 for a tile that is no cell of its order, before the input is looked at; else as reading
-- the records ends, and the tile where it ends by 0
abbrev pub probe_answer : Probe → List ℕ → Answer
probe_answer asked input =
    if nat_le (cell_count asked.order) asked.npix then only_status 13
    else (if reading_status asked.top asked.n input == 0 then tile_answer asked (leaves_read asked input)
    else only_status (reading_status asked.top asked.n input))

-- how many of the first records are of leaves at or under the asked tile
abbrev pub records_under : Probe → List ℕ → ℕ → ℕ
records_under asked input count =
    count_by (λ i. lies_under asked.top (leaf_number asked.n input i) asked.order asked.npix) (range_with_len 0 count)

-- the steps of a probe that is answered: one for each of these tiles, which are read, and one for each tile that is made
abbrev pub probe_steps : Probe → List ℕ → ℕ
probe_steps asked input = records_under asked input (length input / record_length asked.n)
    + tiles_made (shape_of asked) (leaves_read asked input) asked.order asked.npix
