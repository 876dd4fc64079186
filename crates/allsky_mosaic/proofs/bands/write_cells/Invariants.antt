use Rattle.std.proofs.Common.{◌≡◌, ℕ, ◌+◌, ◌-◌, ◌*◌, ◌<◌, ◌≤◌}
use Rattle.pyramid_model.specs.Shape.{PyramidShape, LeafMap}
use Rattle.allsky_mosaic.specs.Mosaic.{side_of, place_pixel}
use Rattle.allsky_mosaic.specs.Tiles.{IsSurvey}
use Rattle.allsky_mosaic.specs.Cells.{ShowCells, band_number}
use Rattle.allsky_mosaic.proofs.bands.write_cells.Given as goal

abbrev pub invariant-loop-col : goal.invariant-loop-col
invariant-loop-col l =
    ((other t column : ℕ) → l.col ≤ other → other < 27 → t < side_of l.form.n → column < side_of l.form.n → band_number l.form.depth.bitpix (side_of l.form.n) l.band other t column ≡ l.form.depth.blank)
    × ((shape : PyramidShape) (leaves : LeafMap) → IsSurvey l.form.depth l.form.n shape → ShowCells shape leaves l.tiles → (other t column : ℕ) → other < l.col → t < side_of l.form.n → column < side_of l.form.n
    → band_number l.form.depth.bitpix (side_of l.form.n) l.band other t column ≡ place_pixel shape leaves (l.row * 27 + other) column (side_of l.form.n - 1 - t))
