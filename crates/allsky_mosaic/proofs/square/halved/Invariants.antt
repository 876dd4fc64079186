use Rattle.std.proofs.Common.{◌≡◌, ℕ, ◌*◌, ◌/◌, ◌^◌, ◌≤◌, length}
use Rattle.pyramid_model.specs.Shape.{PyramidShape, LeafMap}
use Rattle.tile_pixels.specs.Tile.{pixel_in}
use Rattle.allsky_mosaic.specs.Tiles.{IsSurvey}
use Rattle.allsky_mosaic.specs.Cells.{ShowsSquare, square_number}
use Rattle.allsky_mosaic.proofs.square.halved.Given as goal

abbrev pub invariant-loop-levels : goal.invariant-loop-levels
invariant-loop-levels l = (6 ≤ l.levels) × (length l.square.items ≡ 2 ^ l.levels * 2 ^ l.levels * (l.fn.depth.bitpix / 8))
    × ((shape : PyramidShape) (leaves : LeafMap) (cell : ℕ) → IsSurvey l.fn.depth l.fn.n shape → ShowsSquare shape leaves cell l.fn.n (pixel_in l.fn.tile)
    → ShowsSquare shape leaves cell l.levels (square_number l.fn.depth.bitpix (2 ^ l.levels) l.square.items))
