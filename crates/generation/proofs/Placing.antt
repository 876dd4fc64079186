-- An order after the tiles of its dirty cells were merged anew.
use Rattle.std.proofs.Common.{◌≡◌, inl, inr, ℕ, zero, suc, ◌+◌, ◌-◌, ◌*◌, ◌/◌, ◌^◌, ◌<◌, ◌≤◌, ◌||◌, Bool, true, false, cond, filter, List, [], ◌∷◌, Option, Some, None, refl, sym, ap, ◌∙◌, subst, arith, eqb, leb, eqb-true, leb-true}
use Rattle.std.specs.Prelude.{All, IfSome, ◌==◌}
use Rattle.std.specs.List.{list_any, range_with_len}
use Rattle.std.proofs.lemmas.Bool.{and_parts, cases_eq, eq-eqb}
use Rattle.std.proofs.lemmas.Bool.Decides.{nat_tests}
use Rattle.std.proofs.lemmas.List.Elements.{All-head, All-tail}
use Rattle.healpix_nested.specs.Cells.{cell_count, lies_under, IsCell}
use Rattle.healpix_nested.specs.CellLaws.{ancestor_is_cell}
use Rattle.parent_rule.specs.Permit.{PermittedCell}
use Rattle.pyramid_model.specs.Shape.{PyramidShape, LeafMap}
use Rattle.pyramid_model.specs.Tile.{exists}
use Rattle.tile_pixels.specs.Tile.{PixelTile, HasShape}
use Rattle.tile_pixels.specs.Merge.{Shows, ShowsChildren, FourTiles, merged}
use Rattle.leaf_store.specs.Store.{IsAscending, value_at}
use Rattle.dirty_plan.specs.Dirty.{is_dirty, dirty_cells, permits_of}
use Rattle.rebuild_worker.specs.Level.{numbers_of, children_of, any_of, tile_above, merge_of, merges_of, ShowsItsCell, NamedTile}
use Rattle.generation.specs.Kept.{tiles_of}
use Rattle.generation.specs.Placed.{tile_at, tile_after, IsStep}
use Rattle.generation.proofs.Lists.{same_pairs}
use Rattle.generation.proofs.Orders.{exists_in_order, tiles_ascend, shown_is, tile_shows}

-- ---- which cells are dirty

abbrev pub has : List ℕ → ℕ → Bool
has cells p = list_any (λ c. c == p) cells

pub selection_has : (t : ℕ → Bool) (a n p : ℕ) → t p ≡ true → a ≤ p → p < a + n → has (filter t (range_with_len a n)) p ≡ true
selection_has t a zero p is low high = absurd (omega arith)
selection_has t a (suc n) p is low high = elim (cases_eq p a) [
  | inl e ↦
      let here : t a ≡ true = sym (ap t e) ∙ is in
      let same : (a == p) ≡ true = eq-eqb a p (sym e) in
      rw here (rw same refl)
  | inr apart ↦
      let rest : has (filter t (range_with_len (a + 1) n)) p ≡ true = selection_has t (a + 1) n p is (omega arith) (omega arith) in
      let other : (a == p) ≡ false = grind (arith, nat_tests) in
      elim (t a) as (λ b. has (cond b (a ∷ filter t (range_with_len (a + 1) n)) (filter t (range_with_len (a + 1) n))) p ≡ true) [
        | true ↦ rw other rest
        | false ↦ rest
      ]
]

pub selection_lacks : (t : ℕ → Bool) (a n p : ℕ) → t p ≡ false → has (filter t (range_with_len a n)) p ≡ false
selection_lacks t a zero p is = refl
selection_lacks t a (suc n) p is =
    let rest : has (filter t (range_with_len (a + 1) n)) p ≡ false = selection_lacks t (a + 1) n p is in
    elim (t a) as (λ b. t a ≡ b → has (cond b (a ∷ filter t (range_with_len (a + 1) n)) (filter t (range_with_len (a + 1) n))) p ≡ false) [
      | true ↦ λ here.
          let apart : a ≡ p → ⊥ = λ e. let k : t a ≡ t p = ap t e in cc in
          let other : (a == p) ≡ false = grind (arith, nat_tests) in
          rw other rest
      | false ↦ λ here. rest
    ] refl

-- the cell over a leaf is one of its order
pub over_in_order : (top leaf k p : ℕ) → top ≤ 20 → leaf < cell_count top → lies_under top leaf k p ≡ true → p < cell_count k
over_in_order top leaf k p small below under =
    let parts : (leb k top ≡ true) × (eqb (leaf / 4 ^ (top - k)) p ≡ true) = and_parts (leb k top) (eqb (leaf / 4 ^ (top - k)) p) under in
    let above : k ≤ top = leb-true k top parts.0 in
    let cell : leaf / 4 ^ (top - k) ≡ p = eqb-true (leaf / 4 ^ (top - k)) p parts.1 in
    let here : IsCell k (leaf / 4 ^ (top - k)) = ancestor_is_cell top leaf k (record { known_order = small; in_order = below }) above in
    subst (λ x. x < cell_count k) cell here.in_order

pub dirty_in_order : (top k p : ℕ) (touched : List ℕ) → top ≤ 20 → All (λ leaf. leaf < cell_count top) touched → is_dirty top touched k p ≡ true → p < cell_count k
dirty_in_order top k p [] small all e = cc
dirty_in_order top k p (leaf ∷ touched) small all e =
    elim (lies_under top leaf k p) as (λ b. lies_under top leaf k p ≡ b → (b || is_dirty top touched k p) ≡ true → p < cell_count k) [
      | true ↦ λ under there. over_in_order top leaf k p small (All-head (λ x. x < cell_count top) leaf touched all) under
      | false ↦ λ under there. dirty_in_order top k p touched small (All-tail (λ x. x < cell_count top) leaf touched all) there
    ] refl e

pub dirty_has : (top k p : ℕ) (touched : List ℕ) → top ≤ 20 → All (λ leaf. leaf < cell_count top) touched → is_dirty top touched k p ≡ true → has (dirty_cells top touched k) p ≡ true
unfolding dirty_cells
dirty_has top k p touched small all e =
    let low : p < cell_count k = dirty_in_order top k p touched small all e in
    selection_has (is_dirty top touched k) 0 (cell_count k) p e (omega arith) (omega arith)

pub dirty_lacks : (top k p : ℕ) (touched : List ℕ) → is_dirty top touched k p ≡ false → has (dirty_cells top touched k) p ≡ false
unfolding dirty_cells
dirty_lacks top k p touched e = selection_lacks (is_dirty top touched k) 0 (cell_count k) p e

-- ---- the tiles that were merged, in their places

module _ (shape : PyramidShape) (children : List (ℕ × PixelTile)) (order : ℕ) where
  merged_at : ℕ → Option PixelTile
  merged_at p = tile_above shape (children_of children p)

  chosen : (c p : ℕ) (b : Bool) (found : Option PixelTile) → cond b (merged_at p) (cond (c == p) (merged_at c) found) ≡ cond ((c == p) || b) (merged_at p) found
  chosen c p true found = elim (c == p) as (λ t. merged_at p ≡ cond (t || true) (merged_at p) found) [ true ↦ refl | false ↦ refl ]
  chosen c p false found = elim (c == p) as (λ t. (c == p) ≡ t → cond t (merged_at c) found ≡ cond (t || false) (merged_at p) found) [
    | true ↦ λ e. ap merged_at (eqb-true c p e)
    | false ↦ λ e. refl
  ] refl

  placed : (cells : List ℕ) (p : ℕ) (found : Option PixelTile) → tile_after (merges_of shape children (permits_of order cells)) p found ≡ cond (has cells p) (merged_at p) found
  unfolding merged_at
  placed [] p found = refl
  placed (c ∷ cells) p found = placed cells p (tile_at (merge_of shape children (record { order = order; npix = c })) p found) ∙ chosen c p (has cells p) found

  -- what holds of each merge holds of the merge of one of the cells
  one_of : (P : NamedTile → Type 0) (cells : List ℕ) (p : ℕ) → All P (merges_of shape children (permits_of order cells)) → has cells p ≡ true → P (merge_of shape children (record { order = order; npix = p }))
  one_of P [] p all there = cc
  one_of P (c ∷ cells) p all there =
      elim (c == p) as (λ b. (c == p) ≡ b → (b || has cells p) ≡ true → P (merge_of shape children (record { order = order; npix = p }))) [
        | true ↦ λ e k. subst (λ q. P (merge_of shape children (record { order = order; npix = q }))) (eqb-true c p e) (All-head P (merge_of shape children (record { order = order; npix = c })) (merges_of shape children (permits_of order cells)) all)
        | false ↦ λ e k. one_of P cells p (All-tail P (merge_of shape children (record { order = order; npix = c })) (merges_of shape children (permits_of order cells)) all) k
      ] refl there

  pub merged_shape : (four : FourTiles) → IfSome (tile_above shape four) (λ t. HasShape t shape.depth shape.n)
  merged_shape four = elim (any_of four) as (λ b. IfSome (cond b (Some (record { depth = shape.depth; n = shape.n; numbers = merged shape.depth shape.n four })) None) (λ t. HasShape t shape.depth shape.n)) [
    | true ↦ (refl, refl)
    | false ↦ tt
  ]

-- ---- the order

module _ (shape : PyramidShape) (leaves : LeafMap) (order : ℕ) (touched : List ℕ) (children old : List (ℕ × PixelTile)) (todo : List PermittedCell) (step : IsStep shape leaves order touched children old todo) where
  below : (k p : ℕ) → exists shape leaves k p ≡ true → p < cell_count k
  below k p e = exists_in_order shape leaves k p step.known step.leaves_in e

  child_shows : (p : ℕ) → Shows shape leaves (order + 1) p (numbers_of (value_at p children))
  child_shows p =
      subst (λ tiles. Shows shape leaves (order + 1) p (numbers_of (value_at p tiles))) (sym step.children_are) (tile_shows shape leaves (order + 1) p (below (order + 1) p))

  children_show : (p : ℕ) → ShowsChildren shape leaves order p (children_of children p)
  children_show p = record {
    first = child_shows (4 * p);
    second = child_shows (4 * p + 1);
    third = child_shows (4 * p + 2);
    fourth = child_shows (4 * p + 3);
  }

  made : (tiles : List (ℕ × PixelTile)) (p : ℕ) → value_at p tiles ≡ cond (has (dirty_cells shape.top touched order) p) (merged_at shape children order p) (value_at p old) → is_dirty shape.top touched order p ≡ true
      → has (dirty_cells shape.top touched order) p ≡ true → All (ShowsItsCell shape children) (merges_of shape children todo) → value_at p tiles ≡ value_at p (tiles_of shape leaves order)
  unfolding merged_at
  made tiles p here dirty there shows =
      let all : All (ShowsItsCell shape children) (merges_of shape children (permits_of order (dirty_cells shape.top touched order))) =
      subst (λ t. All (ShowsItsCell shape children) (merges_of shape children t)) step.todo_is shows in
      let one : ShowsItsCell shape children (merge_of shape children (record { order = order; npix = p })) =
      one_of shape children order (ShowsItsCell shape children) (dirty_cells shape.top touched order) p all there in
      here ∙ ap (λ b. cond b (tile_above shape (children_of children p)) (value_at p old)) there
      ∙ shown_is shape leaves order p (tile_above shape (children_of children p)) (below order p) (merged_shape shape children order (children_of children p)) (one leaves (children_show p))

  pub level_is : (tiles : List (ℕ × PixelTile)) → IsAscending tiles → ((cell : ℕ) → value_at cell tiles ≡ tile_after (merges_of shape children todo) cell (value_at cell old))
      → All (ShowsItsCell shape children) (merges_of shape children todo) → tiles ≡ tiles_of shape leaves order
  level_is tiles up placed_in shows = same_pairs tiles (tiles_of shape leaves order) up (tiles_ascend shape leaves order) (λ p.
      let cells : List ℕ = dirty_cells shape.top touched order in
      let here : value_at p tiles ≡ cond (has cells p) (merged_at shape children order p) (value_at p old) =
      placed_in p ∙ ap (λ t. tile_after (merges_of shape children t) p (value_at p old)) step.todo_is ∙ placed shape children order cells p (value_at p old) in
      elim (is_dirty shape.top touched order p) as (λ b. is_dirty shape.top touched order p ≡ b → value_at p tiles ≡ value_at p (tiles_of shape leaves order)) [
        | true ↦ λ e. made tiles p here e (dirty_has shape.top order p touched step.known step.touched_in e) shows
        | false ↦ λ e. here ∙ ap (λ b. cond b (merged_at shape children order p) (value_at p old)) (dirty_lacks shape.top order p touched e) ∙ step.kept p e
      ] refl)
