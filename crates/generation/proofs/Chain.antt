-- Levels from the deepest on: those that are made, and the permits of those that are left.
use Rattle.std.proofs.Common.{◌≡◌, ℕ, ◌+◌, ◌-◌, ◌<◌, ◌≤◌, map, take, drop, List, [], ◌∷◌, ◌++◌, length, get_or, refl, sym, ap, ◌∙◌, subst, arith, inl, inr, Option, Some, None, Bor, slice_get, unwrap_or, option_map}
use Rattle.std.specs.Prelude.{All}
use Rattle.std.specs.Option.{option_copied}
use Rattle.std.proofs.lemmas.Option.{slice_get-get_or}
use Rattle.std.specs.List.{range_with_len}
use Rattle.std.proofs.lemmas.Bool.{cases_lt}
use Rattle.std.proofs.lemmas.List.{take_more, drop_more, drop_all, length-append, nil_from_length}
use Rattle.std.proofs.lemmas.List.Elements.{All-nil, All-cons, All-head, All-tail, All-filter}
use Rattle.std.proofs.lemmas.List.FromFn.{length-range_with_len, get_or-range_with_len, length-map-range_with_len, get_or-map-range_with_len, take-map-range_with_len}
use Rattle.std.proofs.lemmas.Simd.{map-map}
use Rattle.parent_rule.specs.Permit.{PermittedCell}
use Rattle.healpix_nested.specs.Cells.{cell_count}
use Rattle.pyramid_model.specs.Shape.{PyramidShape, LeafMap, IsShape, FitsShape}
use Rattle.tile_pixels.specs.Tile.{PixelTile}
use Rattle.dirty_plan.specs.Dirty.{is_dirty, dirty, dirty_cells, permits_of}
use Rattle.rebuild_worker.specs.Level.{IsAboveLeaves, HaveShape}
use Rattle.edit_journal.specs.Leaves.{LeafTiles, FitsLeaves}
use Rattle.generation.specs.Files.{leaf_map}
use Rattle.generation.specs.Kept.{tiles_of, levels_of, AllKept, AreKept}
use Rattle.generation.specs.Placed.{IsStep, tiles_in}
use Rattle.generation.proofs.Orders.{tiles_have_shape, leaves_are}

-- the permits of the order i steps above that above the leaves, and its tiles
abbrev pub owed : ℕ → List ℕ → ℕ → ℕ × List PermittedCell
owed top touched i = (top - 1 - i, permits_of (top - 1 - i) (dirty_cells top touched (top - 1 - i)))

abbrev pub level : PyramidShape → LeafMap → ℕ → List (ℕ × PixelTile)
level shape leaves i = tiles_of shape leaves (shape.top - 1 - i)

-- so many levels are made, and the permits of the others are left
pub record Partly (shape : PyramidShape) (leaves : LeafMap) (touched : List ℕ) (levels : List (List (ℕ × PixelTile))) (left : List (ℕ × List PermittedCell)) : Type 0 where
  pub few : length levels ≤ shape.top - shape.low
  pub made : levels ≡ map (level shape leaves) (range_with_len 0 (length levels))
  pub left_is : left ≡ drop (length levels) (map (owed shape.top touched) (range_with_len 0 (shape.top - shape.low)))

pub partly_none : (shape : PyramidShape) (leaves : LeafMap) (touched : List ℕ) (left : List (ℕ × List PermittedCell)) → left ≡ dirty shape.top shape.low touched → Partly shape leaves touched [] left
unfolding dirty
partly_none shape leaves touched left is = record {
  few = omega arith;
  made = refl;
  left_is = is ∙ map-map (λ order. (order, permits_of order (dirty_cells shape.top touched order))) (λ i. shape.top - 1 - i) (range_with_len 0 (shape.top - shape.low));
}

module _ (shape : PyramidShape) (leaves : LeafMap) (touched : List ℕ) (levels : List (List (ℕ × PixelTile))) where
  all_owed : List (ℕ × List PermittedCell)
  all_owed = map (owed shape.top touched) (range_with_len 0 (shape.top - shape.low))

  owed_count : length all_owed ≡ shape.top - shape.low
  unfolding all_owed
  owed_count = length-map-range_with_len (owed shape.top touched) 0 (shape.top - shape.low)

  -- the next permits
  pub record Next (order : ℕ) (todo : List PermittedCell) (rest : List (ℕ × List PermittedCell)) : Type 0 where
    pub more : length levels < shape.top - shape.low
    pub order_is : order ≡ shape.top - 1 - length levels
    pub todo_is : todo ≡ permits_of order (dirty_cells shape.top touched order)
    pub rest_is : rest ≡ drop (length levels + 1) (map (owed shape.top touched) (range_with_len 0 (shape.top - shape.low)))

  pub next_of : (order : ℕ) (todo : List PermittedCell) (rest : List (ℕ × List PermittedCell)) → Partly shape leaves touched levels ((order, todo) ∷ rest) → Next order todo rest
  unfolding all_owed
  next_of order todo rest partly = elim (cases_lt (length levels) (shape.top - shape.low)) [
    | inl more ↦
        let within : length levels < length all_owed = omega (arith, owed_count) in
        let split : (order, todo) ∷ rest ≡ get_or all_owed (length levels) (0, []) ∷ drop (length levels + 1) all_owed = partly.left_is ∙ drop_more all_owed (length levels) (0, []) within in
        let first : get_or all_owed (length levels) (0, []) ≡ owed shape.top touched (length levels) =
        get_or-map-range_with_len (owed shape.top touched) 0 (shape.top - shape.low) (length levels) (length levels) (0, []) more (omega arith) in
        let here : (order, todo) ≡ owed shape.top touched (length levels) = (let e : (order, todo) ≡ get_or all_owed (length levels) (0, []) = cc in e ∙ first) in
        let is : order ≡ shape.top - 1 - length levels = ap (λ p. p.0) here in
        record {
          more = more;
          order_is = is;
          todo_is = ap (λ p. p.1) here ∙ ap (λ k. permits_of k (dirty_cells shape.top touched k)) (sym is);
          rest_is = cc;
        }
    | inr none ↦
        let gone : (order, todo) ∷ rest ≡ [] = partly.left_is ∙ drop_all (length levels) all_owed (omega (arith, owed_count)) in
        cc
  ]

  pub partly_more : (order : ℕ) (todo : List PermittedCell) (rest : List (ℕ × List PermittedCell)) (tiles : List (ℕ × PixelTile)) (more : List (List (ℕ × PixelTile)))
      → Partly shape leaves touched levels ((order, todo) ∷ rest) → tiles ≡ tiles_of shape leaves order → more ≡ levels ++ tiles ∷ [] → Partly shape leaves touched more rest
  partly_more order todo rest tiles more partly is pushed =
      let next : Next order todo rest = next_of order todo rest partly in
      let n : ℕ = length levels in
      let long : length more ≡ n + 1 = ap length pushed ∙ length-append levels (tiles ∷ []) ∙ omega arith in
      let whole : List (List (ℕ × PixelTile)) = map (level shape leaves) (range_with_len 0 (n + 1)) in
      let count : length whole ≡ n + 1 = length-map-range_with_len (level shape leaves) 0 (n + 1) in
      let grown : take (n + 1) whole ≡ take n whole ++ get_or whole n [] ∷ [] = take_more whole n [] (omega arith) in
      let front : take n whole ≡ map (level shape leaves) (range_with_len 0 n) = take-map-range_with_len (level shape leaves) 0 (n + 1) n (omega arith) in
      let all : take (n + 1) whole ≡ whole = take-map-range_with_len (level shape leaves) 0 (n + 1) (n + 1) (omega arith) in
      let last : get_or whole n [] ≡ level shape leaves n = get_or-map-range_with_len (level shape leaves) 0 (n + 1) n n [] (omega arith) (omega arith) in
      let made : more ≡ whole =
      pushed ∙ ap (λ l. l ++ tiles ∷ []) (partly.made ∙ sym front)
      ∙ ap (λ t. take n whole ++ t ∷ []) (is ∙ ap (tiles_of shape leaves) next.order_is ∙ sym last)
      ∙ sym grown ∙ all in
      record {
        few = let below : n < shape.top - shape.low = next.more in omega arith;
        made = made ∙ ap (λ k. map (level shape leaves) (range_with_len 0 k)) (sym long);
        left_is = next.rest_is ∙ ap (λ k. drop k (map (owed shape.top touched) (range_with_len 0 (shape.top - shape.low)))) (sym long);
      }

  -- where nothing is left, all levels are made
  pub all_made : Partly shape leaves touched levels [] → levels ≡ levels_of shape leaves
  unfolding all_owed
  all_made partly = elim (cases_lt (length levels) (shape.top - shape.low)) [
    | inl more ↦
        let within : length levels < length all_owed = omega (arith, owed_count) in
        let split : [] ≡ get_or all_owed (length levels) (0, []) ∷ drop (length levels + 1) all_owed = partly.left_is ∙ drop_more all_owed (length levels) (0, []) within in
        cc
    | inr none ↦
        let few : length levels ≤ shape.top - shape.low = partly.few in
        let n : length levels ≡ shape.top - shape.low = omega arith in
        partly.made ∙ ap (λ k. map (level shape leaves) (range_with_len 0 k)) n
        ∙ sym (map-map (tiles_of shape leaves) (λ i. shape.top - 1 - i) (range_with_len 0 (shape.top - shape.low)))
  ]

  -- level i of those that are made
  pub level_at : (left : List (ℕ × List PermittedCell)) (i : ℕ) (d : List (ℕ × PixelTile)) → Partly shape leaves touched levels left → i < length levels → get_or levels i d ≡ level shape leaves i
  level_at left i d partly h =
      ap (λ l. get_or l i d) partly.made ∙ get_or-map-range_with_len (level shape leaves) 0 (length levels) i i d h (omega arith)

-- the permits of an order above the leaves
pub permits_above : (shape : PyramidShape) (order : ℕ) (touched : List ℕ) (todo : List PermittedCell) → shape.top ≤ 20 → order < shape.top → All (λ leaf. leaf < cell_count shape.top) touched
    → todo ≡ permits_of order (dirty_cells shape.top touched order) → All (IsAboveLeaves shape) todo
unfolding dirty_cells
permits_above shape order touched todo small above all is =
    let P : List PermittedCell → Type 0 = λ cells. All (IsAboveLeaves shape) cells in
    subst P (sym is) (permits (dirty_cells shape.top touched order) (All-filter (is_dirty shape.top touched order) (λ c. c < cell_count order) (range_with_len 0 (cell_count order)) in_order))
  where
    permits : (cells : List ℕ) → All (λ c. c < cell_count order) cells → All (IsAboveLeaves shape) (permits_of order cells)
    permits [] h = All-nil (IsAboveLeaves shape)
    permits (c ∷ cells) h =
        All-cons (IsAboveLeaves shape) (record { order = order; npix = c }) (permits_of order cells)
        (record { order = above; npix = All-head (λ c. c < cell_count order) c cells h }) (permits cells (All-tail (λ c. c < cell_count order) c cells h))

    in_order : All (λ c. c < cell_count order) (range_with_len 0 (cell_count order))
    in_order k d h =
        let long : length (range_with_len 0 (cell_count order)) ≡ cell_count order = length-range_with_len 0 (cell_count order) in
        let here : get_or (range_with_len 0 (cell_count order)) k d ≡ 0 + k = get_or-range_with_len 0 (cell_count order) k d (omega arith) in
        omega arith

-- ---- what a level is made of

-- the last of some levels, or the leaves where there is none
last_or : (levels : List (List (ℕ × PixelTile))) (r : Option (Bor (List (ℕ × PixelTile)))) (leaves : Bor (List (ℕ × PixelTile))) → option_copied r ≡ slice_get levels (length levels - 1)
    → (levels ≡ [] → (unwrap_or r leaves).now ≡ leaves.now) × (0 < length levels → (unwrap_or r leaves).now ≡ get_or levels (length levels - 1) [])
last_or [] None leaves e = (λ _. refl, λ h. absurd (omega arith))
last_or [] (Some store) leaves e = cc
last_or (x ∷ xs) r leaves e =
    let within : length (x ∷ xs) - 1 < length (x ∷ xs) = omega arith in
    let there : option_copied r ≡ Some (get_or (x ∷ xs) (length (x ∷ xs) - 1) []) = e ∙ slice_get-get_or (x ∷ xs) (length (x ∷ xs) - 1) [] within in
    (λ none. cc, λ h. found r there)
  where
    found : (r : Option (Bor (List (ℕ × PixelTile)))) → option_copied r ≡ Some (get_or (x ∷ xs) (length (x ∷ xs) - 1) []) → (unwrap_or r leaves).now ≡ get_or (x ∷ xs) (length (x ∷ xs) - 1) []
    found None there = cc
    found (Some store) there = cc

module _ (shape : PyramidShape) (leaves : LeafTiles) (touched : List ℕ) (known : IsShape shape.top shape.low shape.n) (fits : FitsLeaves shape leaves) (numbers : FitsShape shape (leaf_map leaves)) where
  pub children_are : (levels : List (List (ℕ × PixelTile))) (order : ℕ) (todo : List PermittedCell) (rest : List (ℕ × List PermittedCell)) (r : Option (Bor (List (ℕ × PixelTile)))) (here : Bor (List (ℕ × PixelTile)))
      → Partly shape (leaf_map leaves) touched levels ((order, todo) ∷ rest) → here.now ≡ leaves → option_copied r ≡ slice_get levels (length levels - 1)
      → (unwrap_or r here).now ≡ tiles_of shape (leaf_map leaves) (order + 1)
  children_are levels order todo rest r here partly is e =
      let next = next_of shape (leaf_map leaves) touched levels order todo rest partly in
      let order_is : order ≡ shape.top - 1 - length levels = next.order_is in
      let more : length levels < shape.top - shape.low = next.more in
      let cases = last_or levels r here e in
      elim (cases_lt 0 (length levels)) [
        | inl some ↦
            let up : shape.top - 1 - (length levels - 1) ≡ order + 1 = omega arith in
            cases.1 some ∙ level_at shape (leaf_map leaves) touched levels ((order, todo) ∷ rest) (length levels - 1) [] partly (omega arith) ∙ ap (tiles_of shape (leaf_map leaves)) up
        | inr none ↦
            let empty : levels ≡ [] = nil_from_length levels (omega arith) in
            let long : length levels ≡ 0 = omega arith in
            let up : shape.top ≡ order + 1 = omega arith in
            cases.0 empty ∙ is ∙ leaves_are shape leaves known fits numbers ∙ ap (tiles_of shape (leaf_map leaves)) up
      ]

  pub children_shape : (children : List (ℕ × PixelTile)) (order : ℕ) → children ≡ tiles_of shape (leaf_map leaves) (order + 1) → HaveShape shape children
  children_shape children order is = let P : List (ℕ × PixelTile) → Type 0 = HaveShape shape in subst P (sym is) (tiles_have_shape shape (leaf_map leaves) (order + 1))

  -- the step to the next level
  pub step_is : (levels before : List (List (ℕ × PixelTile))) (order : ℕ) (todo : List PermittedCell) (rest : List (ℕ × List PermittedCell)) (children old : List (ℕ × PixelTile))
      → All (λ leaf. leaf < cell_count shape.top) touched → AllKept shape (leaf_map leaves) touched before → Partly shape (leaf_map leaves) touched levels ((order, todo) ∷ rest)
      → children ≡ tiles_of shape (leaf_map leaves) (order + 1) → old ≡ get_or before (length levels) [] → IsStep shape (leaf_map leaves) order touched children old todo
  step_is levels before order todo rest children old cells kept partly is old_is =
      let next = next_of shape (leaf_map leaves) touched levels order todo rest partly in
      let order_is : order ≡ shape.top - 1 - length levels = next.order_is in
      let more : length levels < shape.top - shape.low = next.more in
      let top : shape.top ≤ 11 = known.greatest_top in
      let P : ℕ → List (ℕ × PixelTile) → Type 0 = λ k tiles. AreKept shape (leaf_map leaves) touched k tiles in
      let here : P (shape.top - 1 - length levels) (get_or before (length levels) []) = kept (length levels) more in
      record {
        above = omega arith;
        known = omega arith;
        leaves_in = numbers.cells;
        touched_in = cells;
        children_are = is;
        todo_is = next.todo_is;
        kept = subst (λ k. P k old) (sym order_is) (subst (λ tiles. P (shape.top - 1 - length levels) tiles) (sym old_is) here);
      }

-- what was found at a place, or no tile
pub found_in : (found : List (ℕ × PixelTile)) (r : Option (Bor (List (ℕ × PixelTile)))) → unwrap_or (option_map (λ store. store.now) r) [] ≡ found → tiles_in r ≡ found
found_in found None e = e
found_in found (Some store) e = e
