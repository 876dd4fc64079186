-- The tile above the children of a cell is the cell's.
use Rattle.std.specs.Prelude.{◌≡◌, ℕ, ◌+◌, ◌*◌, ◌<◌, ◌≤◌, List, ℤ, Option, Some, None, is_some, true, false}
use Rattle.std.proofs.Common.{refl, cond, ◌∙◌}
use Rattle.pyramid_model.specs.Shape.{PyramidShape, LeafMap}
use Rattle.pyramid_model.specs.Tile.{exists}
use Rattle.pyramid_model.specs.TileLaws.{exists_step}
use Rattle.tile_pixels.specs.Merge.{FourTiles, merged, Shows, ShowsChildren}
use Rattle.tile_pixels.specs.MergeLaws.{merged-pixels}
use Rattle.rebuild_worker.specs.Level.{numbers_of, any_of, tile_above}

-- what shows a cell is there exactly where the cell's tile exists
shown_exists : (shape : PyramidShape) (leaves : LeafMap) (k p : ℕ) (t : Option (List ℤ)) → Shows shape leaves k p t → exists shape leaves k p ≡ is_some t
shown_exists shape leaves k p None h = h
shown_exists shape leaves k p (Some numbers) h = h.0

-- so where four show the children of a cell, its tile exists exactly where one of them is there
exists_above : (shape : PyramidShape) (leaves : LeafMap) (k p : ℕ) (four : FourTiles) → k < shape.top → ShowsChildren shape leaves k p four → exists shape leaves k p ≡ any_of four
exists_above shape leaves k p four h shows =
    let e0 = shown_exists shape leaves (k + 1) (4 * p) four.first shows.first in
    let e1 = shown_exists shape leaves (k + 1) (4 * p + 1) four.second shows.second in
    let e2 = shown_exists shape leaves (k + 1) (4 * p + 2) four.third shows.third in
    let e3 = shown_exists shape leaves (k + 1) (4 * p + 3) four.fourth shows.fourth in
    exists_step shape leaves k p h ∙ rw (e0, e1, e2, e3) refl

-- and the tile above the four shows the cell
pub shows_above : (shape : PyramidShape) (leaves : LeafMap) (k p : ℕ) (four : FourTiles) → shape.n ≤ 9 → k < shape.top → ShowsChildren shape leaves k p four → Shows shape leaves k p (numbers_of (tile_above shape four))
shows_above shape leaves k p four small h shows =
    let there : exists shape leaves k p ≡ any_of four = exists_above shape leaves k p four h shows in
    elim (any_of four) as (λ b. exists shape leaves k p ≡ b → Shows shape leaves k p (numbers_of (cond b (Some (record { depth = shape.depth; n = shape.n; numbers = merged shape.depth shape.n four })) None))) [
      | true ↦ λ e. (e, merged-pixels shape leaves k p four shape.depth shape.n small refl refl h shows)
      | false ↦ λ e. e
    ] there
