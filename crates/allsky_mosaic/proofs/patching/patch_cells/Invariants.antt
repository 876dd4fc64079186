use Rattle.std.proofs.Common.{◌≢◌, ℕ, ◌<◌, ◌≤◌, length, get_or}
use Rattle.std.specs.Prelude.{Contains}
use Rattle.pyramid_model.specs.Shape.{PyramidShape, LeafMap}
use Rattle.allsky_mosaic.specs.Tiles.{IsSurvey}
use Rattle.allsky_mosaic.specs.Cells.{ShowCells, ShowsPlace}
use Rattle.allsky_mosaic.proofs.patching.patch_cells.Given as goal

-- each square that is still to be made is that of a touched cell
abbrev pub invariant-loop-cell : goal.invariant-loop-cell
invariant-loop-cell l = (shape : PyramidShape) (leaves : LeafMap) → IsSurvey l.fn.form.depth l.form.n shape → ShowCells shape leaves l.tiles
    → ((place : ℕ) → place < 783 → (Contains l.touched place → ⊥) → ShowsPlace l.fn.form.depth l.form.n shape leaves place l.initial.raw)
    → (place : ℕ) → place < 783 → ((k : ℕ) → l.cell-index ≤ k → k < length l.touched → get_or l.touched k 0 ≢ place) → ShowsPlace l.fn.form.depth l.form.n shape leaves place l.raw
