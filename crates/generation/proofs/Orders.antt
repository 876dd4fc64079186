-- The tiles of an order, as a map from cells.
use Rattle.std.proofs.Common.{◌≡◌, ℕ, ◌-◌, ◌/◌, ◌^◌, ◌<◌, ◌≤◌, ◌||◌, true, false, map, List, [], ◌∷◌, Option, Some, None, option_map, refl, sym, ap, ◌∙◌, subst, arith, length, eqb, leb, eqb-true, leb-true}
use Rattle.std.specs.Prelude.{All, IfSome, MatchOption, is_some}
use Rattle.std.specs.Map.{keys_of, values_of}
use Rattle.std.specs.BTreeMap.{is_at}
use Rattle.std.specs.Ordering.{nat_cmp}
use Rattle.std.proofs.lemmas.Bool.{and_parts, true≢false}
use Rattle.std.proofs.lemmas.List.Elements.{All-head, All-tail, All-nil, All-cons}
use Rattle.std.proofs.lemmas.Map.Made.{lookup-map_values}
use Rattle.std.proofs.lemmas.Map.Views.{IfSome-lookup_from_All}
use Rattle.healpix_nested.specs.Cells.{cell_count, lies_under, IsCell}
use Rattle.healpix_nested.specs.CellLaws.{ancestor_is_cell}
use Rattle.pyramid_model.specs.Shape.{PyramidShape, LeafMap, FitsShape, IsShape, leaf_numbers}
use Rattle.pyramid_model.specs.Tile.{exists}
use Rattle.pyramid_model.specs.TileLaws.{exists_leaf, pixels_leaf}
use Rattle.tile_pixels.specs.Tile.{tile_of, PixelTile, HasShape}
use Rattle.tile_pixels.specs.Merge.{Shows}
use Rattle.leaf_store.specs.Store.{IsAscending, value_at}
use Rattle.rebuild_worker.specs.Level.{HaveShape, numbers_of}
use Rattle.edit_journal.specs.Leaves.{LeafTiles, FitsLeaves}
use Rattle.generation.specs.Files.{leaf_map, existing}
use Rattle.generation.specs.Kept.{tiles_of, HasTile}
use Rattle.generation.proofs.Lists.{same_pairs, selected_some, selected_none, selected_ascends, keys_of-selected}

-- the leaves are cells of their order
abbrev pub InOrder : PyramidShape → LeafMap → Type 0
InOrder shape leaves = All (λ leaf. leaf < cell_count shape.top) (keys_of leaves)

-- a cell that has a tile is a cell of its order
pub exists_in_order : (shape : PyramidShape) (leaves : LeafMap) (k p : ℕ) → shape.top ≤ 20 → InOrder shape leaves → exists shape leaves k p ≡ true → p < cell_count k
exists_in_order shape [] k p small cells e = cc
exists_in_order shape (leaf ∷ leaves) k p small cells e =
    elim (lies_under shape.top leaf.0 k p) as (λ b. lies_under shape.top leaf.0 k p ≡ b → (b || exists shape leaves k p) ≡ true → p < cell_count k) [
      | true ↦ λ under there.
          let parts : (leb k shape.top ≡ true) × (eqb (leaf.0 / 4 ^ (shape.top - k)) p ≡ true) = and_parts (leb k shape.top) (eqb (leaf.0 / 4 ^ (shape.top - k)) p) under in
          let above : k ≤ shape.top = leb-true k shape.top parts.0 in
          let cell : leaf.0 / 4 ^ (shape.top - k) ≡ p = eqb-true (leaf.0 / 4 ^ (shape.top - k)) p parts.1 in
          let whole : IsCell shape.top leaf.0 = record { known_order = small; in_order = All-head (λ x. x < cell_count shape.top) leaf.0 (keys_of leaves) cells } in
          let here : IsCell k (leaf.0 / 4 ^ (shape.top - k)) = ancestor_is_cell shape.top leaf.0 k whole above in
          subst (λ x. x < cell_count k) cell here.in_order
      | false ↦ λ under there. exists_in_order shape leaves k p small (All-tail (λ x. x < cell_count shape.top) leaf.0 (keys_of leaves) cells) there
    ] refl e

module _ (shape : PyramidShape) (leaves : LeafMap) (k : ℕ) where
  pub value_there : (p : ℕ) → exists shape leaves k p ≡ true → p < cell_count k → value_at p (tiles_of shape leaves k) ≡ Some (tile_of shape leaves k p)
  unfolding tiles_of
  value_there p e below = selected_some (tile_of shape leaves k) (exists shape leaves k) 0 (cell_count k) p e (omega arith) (omega arith)

  pub value_absent : (p : ℕ) → exists shape leaves k p ≡ false → value_at p (tiles_of shape leaves k) ≡ None
  unfolding tiles_of
  value_absent p e = selected_none (tile_of shape leaves k) (exists shape leaves k) 0 (cell_count k) p e

  pub tiles_ascend : IsAscending (tiles_of shape leaves k)
  unfolding tiles_of
  tiles_ascend = selected_ascends (tile_of shape leaves k) (exists shape leaves k) 0 (cell_count k)

  pub keys_of-tiles : keys_of (tiles_of shape leaves k) ≡ existing shape leaves k
  unfolding tiles_of
  keys_of-tiles = keys_of-selected (tile_of shape leaves k) (existing shape leaves k)

  have_shape : (xs : List ℕ) → All (λ tile. HasShape tile shape.depth shape.n) (values_of (map (λ npix. (npix, tile_of shape leaves k npix)) xs))
  have_shape [] = All-nil (λ tile. HasShape tile shape.depth shape.n)
  have_shape (x ∷ xs) = All-cons (λ tile. HasShape tile shape.depth shape.n) (tile_of shape leaves k x) _ (refl, refl) (have_shape xs)

  pub tiles_have_shape : HaveShape shape (tiles_of shape leaves k)
  unfolding tiles_of
  tiles_have_shape = have_shape (existing shape leaves k)

  -- a tile of the shape that shows a cell is the cell's
  pub shown_is : (p : ℕ) (v : Option PixelTile) → (exists shape leaves k p ≡ true → p < cell_count k) → IfSome v (λ t. HasShape t shape.depth shape.n)
      → Shows shape leaves k p (numbers_of v) → v ≡ value_at p (tiles_of shape leaves k)
  shown_is p None below has shows = sym (value_absent p shows)
  shown_is p (Some t) below has shows =
      (λ i. Some (record { depth = has.0 i; n = has.1 i; numbers = shows.1 i })) ∙ sym (value_there p shows.0 (below shows.0))

  -- and the cell's tile shows the cell
  pub tile_shows : (p : ℕ) → (exists shape leaves k p ≡ true → p < cell_count k) → Shows shape leaves k p (numbers_of (value_at p (tiles_of shape leaves k)))
  tile_shows p below = elim (exists shape leaves k p) as (λ b. exists shape leaves k p ≡ b → Shows shape leaves k p (numbers_of (value_at p (tiles_of shape leaves k)))) [
    | true ↦ λ e. rw (value_there p e (below e)) (e, refl)
    | false ↦ λ e. rw (value_absent p e) e
  ] refl

-- what a look-up in an order finds is the tile of the cell
pub found_tile : {A : Type 0} (view : A → PixelTile) (shape : PyramidShape) (leaves : LeafMap) (k p : ℕ) (r : Option A) → (exists shape leaves k p ≡ true → p < cell_count k) → shape.low ≤ k → k ≤ shape.top
    → option_map view r ≡ value_at p (tiles_of shape leaves k) → MatchOption r (HasTile shape leaves k p → ⊥) (λ x. HasTile shape leaves k p × (view x ≡ tile_of shape leaves k p))
found_tile {A} view shape leaves k p r below low high is = elim (exists shape leaves k p) as (λ b. exists shape leaves k p ≡ b → MatchOption r (HasTile shape leaves k p → ⊥) (λ x. HasTile shape leaves k p × (view x ≡ tile_of shape leaves k p))) [
  | true ↦ λ e. there r e (is ∙ value_there shape leaves k p e (below e))
  | false ↦ λ e. absent r e (is ∙ value_absent shape leaves k p e)
] refl
  where
    there : (r : Option A) → exists shape leaves k p ≡ true → option_map view r ≡ Some (tile_of shape leaves k p) → MatchOption r (HasTile shape leaves k p → ⊥) (λ x. HasTile shape leaves k p × (view x ≡ tile_of shape leaves k p))
    there None e found = cc
    there (Some x) e found = ((low, high, e), (let same : view x ≡ tile_of shape leaves k p = cc in same))

    absent : (r : Option A) → exists shape leaves k p ≡ false → option_map view r ≡ None → MatchOption r (HasTile shape leaves k p → ⊥) (λ x. HasTile shape leaves k p × (view x ≡ tile_of shape leaves k p))
    absent None e found = λ has. true≢false (sym has.2 ∙ e)
    absent (Some x) e found = cc

-- ---- the leaves

pub leaf_numbers-leaf_map : (p : ℕ) (leaves : LeafTiles) → leaf_numbers (leaf_map leaves) p ≡ numbers_of (value_at p leaves)
leaf_numbers-leaf_map p leaves = lookup-map_values (λ tile. tile.numbers) (is_at (nat_cmp p)) leaves

leaf_shows : (shape : PyramidShape) (leaves : LeafTiles) (p : ℕ) (v : Option PixelTile) → shape.n ≤ 9 → IfSome v (λ t. length t.numbers ≡ 4 ^ shape.n)
    → value_at p leaves ≡ v → Shows shape (leaf_map leaves) shape.top p (numbers_of v)
leaf_shows shape leaves p None small count is = exists_leaf shape (leaf_map leaves) p ∙ ap is_some (leaf_numbers-leaf_map p leaves ∙ ap numbers_of is)
leaf_shows shape leaves p (Some t) small count is =
    let found : leaf_numbers (leaf_map leaves) p ≡ Some t.numbers = leaf_numbers-leaf_map p leaves ∙ ap numbers_of is in
    (exists_leaf shape (leaf_map leaves) p ∙ ap is_some found, sym (pixels_leaf shape (leaf_map leaves) p t.numbers small found count))

pub leaves_are : (shape : PyramidShape) (leaves : LeafTiles) → IsShape shape.top shape.low shape.n → FitsLeaves shape leaves → FitsShape shape (leaf_map leaves) → leaves ≡ tiles_of shape (leaf_map leaves) shape.top
leaves_are shape leaves known fits numbers = same_pairs leaves (tiles_of shape (leaf_map leaves) shape.top) fits.ascending (tiles_ascend shape (leaf_map leaves) shape.top) (λ p.
    let small : shape.top ≤ 11 = known.greatest_top in
    shown_is shape (leaf_map leaves) shape.top p (value_at p leaves)
    (exists_in_order shape (leaf_map leaves) shape.top p (omega arith) numbers.cells)
    (IfSome-lookup_from_All (λ t. HasShape t shape.depth shape.n) (is_at (nat_cmp p)) leaves fits.tiles)
    (leaf_shows shape leaves p (value_at p leaves) known.greatest_n (IfSome-lookup_from_All (λ t. length t.numbers ≡ 4 ^ shape.n) (is_at (nat_cmp p)) leaves (lengths leaves numbers.lengths)) refl))
  where
    lengths : (leaves : LeafTiles) → All (λ ns. length ns ≡ 4 ^ shape.n) (values_of (leaf_map leaves)) → All (λ t. length t.numbers ≡ 4 ^ shape.n) (values_of leaves)
    lengths [] all = All-nil (λ (t : PixelTile). length t.numbers ≡ 4 ^ shape.n)
    lengths (e ∷ es) all = All-cons (λ (t : PixelTile). length t.numbers ≡ 4 ^ shape.n) e.1 (values_of es)
        (All-head (λ ns. length ns ≡ 4 ^ shape.n) e.1.numbers (values_of (leaf_map es)) all) (lengths es (All-tail (λ ns. length ns ≡ 4 ^ shape.n) e.1.numbers (values_of (leaf_map es)) all))
