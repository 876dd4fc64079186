-- The levels of a pyramid stand over one another, and still do where the leaves have changed since.
use Rattle.std.proofs.Common.{◌≡◌, ℕ, ◌+◌, ◌-◌, ◌*◌, ◌/◌, ◌^◌, ◌<◌, ◌≤◌, ◌||◌, true, List, [], ◌∷◌, Option, Some, None, refl, sym, ap, ap₂, ◌∙◌, subst, arith, length, leb, get_or}
use Rattle.std.specs.Prelude.{IfSome, ◌==◌, ◌&&◌}
use Rattle.std.proofs.lemmas.Bool.Decides.{nat_tests}
use Rattle.healpix_nested.specs.Cells.{cell_count}
use Rattle.parent_rule.specs.Permit.{PermittedCell}
use Rattle.pyramid_model.specs.Shape.{PyramidShape, LeafMap, IsShape, FitsShape}
use Rattle.pyramid_model.specs.Tile.{exists}
use Rattle.tile_pixels.specs.Tile.{PixelTile}
use Rattle.tile_pixels.specs.Merge.{Shows}
use Rattle.leaf_store.specs.Store.{value_at}
use Rattle.rebuild_worker.specs.Level.{numbers_of, children_of, tile_above}
use Rattle.rebuild_worker.specs.LevelLaws.{shows_above}
use Rattle.rebuild_worker.specs.Changed.{is_touched, StoodOver}
use Rattle.dirty_plan.specs.Dirty.{is_dirty}
use Rattle.edit_journal.specs.Leaves.{LeafTiles}
use Rattle.generation.specs.Files.{leaf_map}
use Rattle.generation.specs.Kept.{tiles_of, levels_of, AllStood, SameBut}
use Rattle.generation.proofs.Chain.{Partly, next_of}
use Rattle.generation.proofs.Orders.{InOrder, exists_in_order, shown_is, tile_shows}
use Rattle.generation.proofs.Placing.{merged_shape}
use Rattle.generation.proofs.Pyramids.{clean_value, level_of}

-- a cell over a touched leaf is dirty
pub dirty_is : (top i cell : ℕ) (touched : List ℕ) → i ≤ top → is_dirty top touched (top - i) cell ≡ is_touched touched i cell
dirty_is top i cell [] h = refl
dirty_is top i cell (leaf ∷ touched) h =
    let above : leb (top - i) top ≡ true = grind (arith, nat_tests) in
    let height : top - (top - i) ≡ i = omega arith in
    ap₂ (λ a b. a || b) (ap₂ (λ a k. a && (leaf / 4 ^ k == cell)) above height) (dirty_is top i cell touched h)

some_is : (v w : Option PixelTile) → w ≡ v → IfSome v (λ tile. Some tile ≡ w)
some_is None w is = tt
some_is (Some tile) w is = sym is

-- the tiles of an order are those above the tiles of the next
pub stands : (shape : PyramidShape) (leaves : LeafMap) (k cell : ℕ) → shape.top ≤ 20 → shape.n ≤ 9 → InOrder shape leaves → k < shape.top
    → IfSome (value_at cell (tiles_of shape leaves k)) (λ tile. Some tile ≡ tile_above shape (children_of (tiles_of shape leaves (k + 1)) cell))
stands shape leaves k cell known small cells h =
    let below : (j p : ℕ) → exists shape leaves j p ≡ true → p < cell_count j = λ j p e. exists_in_order shape leaves j p known cells e in
    let shows : (p : ℕ) → Shows shape leaves (k + 1) p (numbers_of (value_at p (tiles_of shape leaves (k + 1)))) = λ p. tile_shows shape leaves (k + 1) p (below (k + 1) p) in
    let children : List (ℕ × PixelTile) = tiles_of shape leaves (k + 1) in
    some_is (value_at cell (tiles_of shape leaves k)) (tile_above shape (children_of children cell))
    (shown_is shape leaves k cell (tile_above shape (children_of children cell)) (below k cell) (merged_shape shape children k (children_of children cell))
    (shows_above shape leaves k cell (children_of children cell) small h (record {
      first = shows (4 * cell);
      second = shows (4 * cell + 1);
      third = shows (4 * cell + 2);
      fourth = shows (4 * cell + 3);
    })))

-- where there were no levels
pub none_stood : (shape : PyramidShape) (leaves : LeafMap) (touched : List ℕ) → AllStood shape leaves touched []
none_stood shape leaves touched i h = record { was = tiles_of shape leaves (shape.top - i); merged_of = λ cell. tt; same = λ child clean. refl }

-- the levels of the pyramid before
pub stood_after : (shape : PyramidShape) (old new : LeafTiles) (touched : List ℕ) (levels : List (List (ℕ × PixelTile))) → IsShape shape.top shape.low shape.n → FitsShape shape (leaf_map old) → FitsShape shape (leaf_map new)
    → SameBut touched old new → levels ≡ levels_of shape (leaf_map old) → AllStood shape (leaf_map new) touched levels
stood_after shape old new touched levels known fitted fits same is i h =
    let top : shape.top ≤ 11 = known.greatest_top in
    let up : shape.top - 1 - i + 1 ≡ shape.top - i = omega arith in
    let level : get_or levels i [] ≡ tiles_of shape (leaf_map old) (shape.top - 1 - i) = level_of shape (leaf_map old) levels i [] is h in
    let P : ℕ → List (ℕ × PixelTile) → ℕ → Type 0 = λ k tiles cell. IfSome (value_at cell tiles) (λ tile. Some tile ≡ tile_above shape (children_of (tiles_of shape (leaf_map old) k) cell)) in
    record {
      was = tiles_of shape (leaf_map old) (shape.top - i);
      merged_of = λ cell.
          subst (λ k. P k (get_or levels i []) cell) up
          (subst (λ tiles. P (shape.top - 1 - i + 1) tiles cell) (sym level) (stands shape (leaf_map old) (shape.top - 1 - i) cell (omega arith) known.greatest_n fitted.cells (omega arith)));
      same = λ child clean. clean_value shape old new touched known fits same (shape.top - i) child (omega arith) (dirty_is shape.top i child touched (omega arith) ∙ clean);
    }

-- what stood at the next level to be made
pub next_stood : (shape : PyramidShape) (leaves : LeafMap) (touched : List ℕ) (levels before : List (List (ℕ × PixelTile))) (order height : ℕ) (todo : List PermittedCell) (rest : List (ℕ × List PermittedCell))
    (children old : List (ℕ × PixelTile)) → AllStood shape leaves touched before → Partly shape leaves touched levels ((order, todo) ∷ rest) → children ≡ tiles_of shape leaves (order + 1) → old ≡ get_or before (length levels) []
    → height ≡ shape.top - 1 - order → StoodOver shape children touched height old
next_stood shape leaves touched levels before order height todo rest children old stood partly children_are old_is height_is =
    let next = next_of shape leaves touched levels order todo rest partly in
    let order_is : order ≡ shape.top - 1 - length levels = next.order_is in
    let more : length levels < shape.top - shape.low = next.more in
    let up : shape.top - length levels ≡ order + 1 = omega arith in
    let down : length levels ≡ height = omega arith in
    let P : List (ℕ × PixelTile) → ℕ → List (ℕ × PixelTile) → Type 0 = λ tiles h found. StoodOver shape tiles touched h found in
    let here : P (tiles_of shape leaves (shape.top - length levels)) (length levels) (get_or before (length levels) []) = stood (length levels) more in
    subst (λ tiles. P tiles height old) (ap (tiles_of shape leaves) up ∙ sym children_are)
    (subst (λ h. P (tiles_of shape leaves (shape.top - length levels)) h old) down
    (subst (λ found. P (tiles_of shape leaves (shape.top - length levels)) (length levels) found) (sym old_is) here))
