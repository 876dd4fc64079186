-- A pyramid of leaves, and the one after some of them changed.
use Rattle.std.proofs.Common.{◌≡◌, ℕ, ◌-◌, ◌/◌, ◌^◌, ◌<◌, ◌≤◌, ◌||◌, Bool, true, false, filter, List, [], ◌∷◌, Option, Some, None, refl, sym, ap, ◌∙◌, subst, arith, length, get_or, eqb, leb, eqb-true, Bor, ◌⊎◌}
use Rattle.std.specs.Prelude.{All, Contains, IfSome, IsSome, MatchOption, sum_by}
use Rattle.std.specs.List.{range_with_len}
use Rattle.std.specs.List.Sorted.{IsStrictlySortedBy}
use Rattle.std.specs.Ordering.{nat_cmp}
use Rattle.std.specs.Map.{keys_of, values_of}
use Rattle.std.proofs.lemmas.Bool.{true≢false, and_parts}
use Rattle.std.proofs.lemmas.List.Folds.{list_any_at}
use Rattle.std.proofs.lemmas.List.Sums.{sum_by-cons}
use Rattle.std.proofs.lemmas.Bool.Decides.{nat_tests}
use Rattle.std.proofs.lemmas.List.Elements.{All-head, All-tail, All-nil, All-cons}
use Rattle.std.proofs.lemmas.List.FromFn.{length-map-range_with_len, get_or-map-range_with_len}
use Rattle.std.proofs.lemmas.Map.Made.{keys_of-map_values}
use Rattle.std.proofs.lemmas.Simd.{map-map}
use Rattle.healpix_nested.specs.Cells.{cell_count, lies_under}
use Rattle.parent_rule.specs.Depth.{IsNumber}
use Rattle.pyramid_model.specs.Shape.{PyramidShape, LeafMap, FitsShape, IsShape}
use Rattle.pyramid_model.specs.Tile.{exists}
use Rattle.tile_pixels.specs.Tile.{PixelTile, IsTile, HasShape}
use Rattle.leaf_store.specs.Store.{value_at}
use Rattle.rebuild_worker.specs.Level.{numbers_of}
use Rattle.dirty_plan.specs.Dirty.{is_dirty, dirty_cells, work, orders_down}
use Rattle.edit_journal.specs.Leaves.{LeafTiles, FitsLeaves}
use Rattle.generation.specs.Changes.{AreTiles}
use Rattle.generation.specs.Files.{leaf_map, existing}
use Rattle.generation.specs.Kept.{tiles_of, levels_of, AllKept, SameBut, SameOrder3}
use Rattle.generation.specs.Steps.{tiles_above}
use Rattle.generation.proofs.Locality.{SameTile, same_tile}
use Rattle.generation.proofs.Orders.{exists_in_order, value_there, value_absent, leaf_numbers-leaf_map}

-- ---- leaves that are tiles fit the shape, and so do their numbers

pub fits_shape : (shape : PyramidShape) (leaves : LeafTiles) → FitsLeaves shape leaves → AreTiles leaves → FitsShape shape (leaf_map leaves)
fits_shape shape leaves fits tiles = record {
  ordered = let P : List ℕ → Type 0 = λ ks. IsStrictlySortedBy nat_cmp ks in subst P (sym (keys_of-map_values (λ (t : PixelTile). t.numbers) leaves)) fits.ascending;
  cells = subst (λ ks. All (λ leaf. leaf < cell_count shape.top) ks) (sym (keys_of-map_values (λ (t : PixelTile). t.numbers) leaves)) fits.cells;
  lengths = lengths leaves fits.tiles tiles;
  numbers = numbers leaves fits.tiles tiles;
}
  where
    count : (t : PixelTile) → HasShape t shape.depth shape.n → IsTile t.depth t.n t.numbers → length t.numbers ≡ 4 ^ shape.n
    count t has is = is.count ∙ ap (λ n. 4 ^ n) has.1

    range : (t : PixelTile) → HasShape t shape.depth shape.n → IsTile t.depth t.n t.numbers → All (IsNumber shape.depth.bitpix) t.numbers
    range t has is = subst (λ d. All (IsNumber d.bitpix) t.numbers) has.0 is.range

    lengths : (es : LeafTiles) → All (λ t. HasShape t shape.depth shape.n) (values_of es) → AreTiles es → All (λ ns. length ns ≡ 4 ^ shape.n) (values_of (leaf_map es))
    lengths [] has all = All-nil (λ ns. length ns ≡ 4 ^ shape.n)
    lengths (e ∷ es) has all = All-cons (λ ns. length ns ≡ 4 ^ shape.n) e.1.numbers (values_of (leaf_map es))
        (count e.1 (All-head (λ t. HasShape t shape.depth shape.n) e.1 (values_of es) has) (All-head (λ (t : PixelTile). IsTile t.depth t.n t.numbers) e.1 (values_of es) all))
        (lengths es (All-tail (λ t. HasShape t shape.depth shape.n) e.1 (values_of es) has) (All-tail (λ (t : PixelTile). IsTile t.depth t.n t.numbers) e.1 (values_of es) all))

    numbers : (es : LeafTiles) → All (λ t. HasShape t shape.depth shape.n) (values_of es) → AreTiles es → All (All (IsNumber shape.depth.bitpix)) (values_of (leaf_map es))
    numbers [] has all = All-nil (All (IsNumber shape.depth.bitpix))
    numbers (e ∷ es) has all = All-cons (All (IsNumber shape.depth.bitpix)) e.1.numbers (values_of (leaf_map es))
        (range e.1 (All-head (λ t. HasShape t shape.depth shape.n) e.1 (values_of es) has) (All-head (λ (t : PixelTile). IsTile t.depth t.n t.numbers) e.1 (values_of es) all))
        (numbers es (All-tail (λ t. HasShape t shape.depth shape.n) e.1 (values_of es) has) (All-tail (λ (t : PixelTile). IsTile t.depth t.n t.numbers) e.1 (values_of es) all))

-- ---- where all leaves are touched, the dirty cells are those that have tiles

pub dirty_exists : (shape : PyramidShape) (leaves : LeafTiles) (k p : ℕ) → is_dirty shape.top (keys_of leaves) k p ≡ exists shape (leaf_map leaves) k p
dirty_exists shape [] k p = refl
dirty_exists shape (e ∷ es) k p = ap (λ b. lies_under shape.top e.0 k p || b) (dirty_exists shape es k p)

pub kept_none : (shape : PyramidShape) (leaves : LeafTiles) (touched : List ℕ) → touched ≡ keys_of leaves → AllKept shape (leaf_map leaves) touched []
kept_none shape leaves touched is i h cell clean =
    let none : exists shape (leaf_map leaves) (shape.top - 1 - i) cell ≡ false =
    sym (dirty_exists shape leaves (shape.top - 1 - i) cell) ∙ ap (λ ks. is_dirty shape.top ks (shape.top - 1 - i) cell) (sym is) ∙ clean in
    sym (value_absent shape (leaf_map leaves) (shape.top - 1 - i) cell none)

same_filter : (p q : ℕ → Bool) → ((x : ℕ) → p x ≡ q x) → (xs : List ℕ) → filter p xs ≡ filter q xs
same_filter p q same [] = refl
same_filter p q same (x ∷ xs) = rw (same x, same_filter p q same xs) refl

same_sum : (f g : ℕ → ℕ) → ((x : ℕ) → f x ≡ g x) → (xs : List ℕ) → sum_by f xs ≡ sum_by g xs
same_sum f g same [] = refl
same_sum f g same (x ∷ xs) = let here : f x ≡ g x = same x in let rest : sum_by f xs ≡ sum_by g xs = same_sum f g same xs in omega (arith, sum_by-cons f x xs, sum_by-cons g x xs)

pub work_of_all : (shape : PyramidShape) (leaves : LeafTiles) (touched : List ℕ) → touched ≡ keys_of leaves → work shape.top shape.low touched ≡ tiles_above shape (leaf_map leaves)
unfolding work tiles_above dirty_cells
work_of_all shape leaves touched is =
    ap (work shape.top shape.low) is
    ∙ same_sum (λ order. length (dirty_cells shape.top (keys_of leaves) order)) (λ order. length (existing shape (leaf_map leaves) order))
    (λ order. ap length (same_filter (is_dirty shape.top (keys_of leaves) order) (exists shape (leaf_map leaves) order) (λ p. dirty_exists shape leaves order p) (range_with_len 0 (cell_count order))))
    (orders_down shape.top shape.low)

-- ---- the levels there were before

clean_leaf : (top k cell leaf : ℕ) (touched : List ℕ) → k ≤ top → is_dirty top touched k cell ≡ false → leaf / 4 ^ (top - k) ≡ cell → Contains touched leaf → ⊥
clean_leaf top k cell leaf touched h clean under (i, lt, at) =
    let lies : lies_under top leaf k cell ≡ true = grind (arith, nat_tests) in
    let here : lies_under top (get_or touched i leaf) k cell ≡ true = ap (λ l. lies_under top l k cell) at ∙ lies in
    let dirty : is_dirty top touched k cell ≡ true = list_any_at (λ l. lies_under top l k cell) touched i leaf lt here in
    true≢false (sym dirty ∙ clean)

pub level_of : (shape : PyramidShape) (leaves : LeafMap) (levels : List (List (ℕ × PixelTile))) (i : ℕ) (d : List (ℕ × PixelTile)) → levels ≡ levels_of shape leaves → i < shape.top - shape.low
    → get_or levels i d ≡ tiles_of shape leaves (shape.top - 1 - i)
level_of shape leaves levels i d is h =
    ap (λ l. get_or l i d) (is ∙ map-map (tiles_of shape leaves) (λ j. shape.top - 1 - j) (range_with_len 0 (shape.top - shape.low)))
    ∙ get_or-map-range_with_len (λ j. tiles_of shape leaves (shape.top - 1 - j)) 0 (shape.top - shape.low) i i d h (omega arith)

pub levels_count : (shape : PyramidShape) (leaves : LeafMap) (levels : List (List (ℕ × PixelTile))) → levels ≡ levels_of shape leaves → length levels ≡ shape.top - shape.low
levels_count shape leaves levels is =
    ap length (is ∙ map-map (tiles_of shape leaves) (λ j. shape.top - 1 - j) (range_with_len 0 (shape.top - shape.low)))
    ∙ length-map-range_with_len (λ j. tiles_of shape leaves (shape.top - 1 - j)) 0 (shape.top - shape.low)

-- the tile of a cell is the same where its leaves are
pub same_value : (shape : PyramidShape) (a b : LeafMap) (k p : ℕ) → (exists shape b k p ≡ true → p < cell_count k) → SameTile shape a b k p → value_at p (tiles_of shape a k) ≡ value_at p (tiles_of shape b k)
same_value shape a b k p below same = elim (exists shape b k p) as (λ e. exists shape b k p ≡ e → value_at p (tiles_of shape a k) ≡ value_at p (tiles_of shape b k)) [
  | true ↦ λ e.
      value_there shape a k p (same.exists_is ∙ e) (below e)
      ∙ ap (λ ns. Some (record { depth = shape.depth; n = shape.n; numbers = ns })) same.pixels_are
      ∙ sym (value_there shape b k p e (below e))
  | false ↦ λ e. value_absent shape a k p (same.exists_is ∙ e) ∙ sym (value_absent shape b k p e)
] refl

module _ (shape : PyramidShape) (old new : LeafTiles) (touched : List ℕ) (known : IsShape shape.top shape.low shape.n) (numbers : FitsShape shape (leaf_map new)) (same : SameBut touched old new) where
  pub clean_value : (k cell : ℕ) → k ≤ shape.top → is_dirty shape.top touched k cell ≡ false → value_at cell (tiles_of shape (leaf_map old) k) ≡ value_at cell (tiles_of shape (leaf_map new) k)
  clean_value k cell h clean =
      let top : shape.top ≤ 11 = known.greatest_top in
      same_value shape (leaf_map old) (leaf_map new) k cell (exists_in_order shape (leaf_map new) k cell (omega arith) numbers.cells)
      (same_tile shape (leaf_map old) (leaf_map new) k cell h (λ leaf under.
      leaf_numbers-leaf_map leaf old ∙ ap numbers_of (sym (same leaf (clean_leaf shape.top k cell leaf touched h clean under))) ∙ sym (leaf_numbers-leaf_map leaf new)))

  pub kept_after : (levels : List (List (ℕ × PixelTile))) → levels ≡ levels_of shape (leaf_map old) → AllKept shape (leaf_map new) touched levels
  kept_after levels is i h cell clean =
      let below : shape.top - 1 - i ≤ shape.top = omega arith in
      ap (value_at cell) (level_of shape (leaf_map old) levels i [] is h) ∙ clean_value (shape.top - 1 - i) cell below clean

-- ---- the cells of order 3 over the touched leaves

-- no touched leaf lies under another cell
clean_cell : (top cell : ℕ) (touched cells : List ℕ) → All (λ leaf. Contains cells (leaf / 4 ^ (top - 3))) touched → (Contains cells cell → ⊥) → is_dirty top touched 3 cell ≡ false
clean_cell top cell [] cells over apart = refl
clean_cell top cell (leaf ∷ touched) cells over apart =
    elim (lies_under top leaf 3 cell) as (λ b. lies_under top leaf 3 cell ≡ b → (b || is_dirty top touched 3 cell) ≡ false) [
      | true ↦ λ under.
          let parts : (leb 3 top ≡ true) × (eqb (leaf / 4 ^ (top - 3)) cell ≡ true) = and_parts (leb 3 top) (eqb (leaf / 4 ^ (top - 3)) cell) under in
          absurd (apart (subst (Contains cells) (eqb-true (leaf / 4 ^ (top - 3)) cell parts.1) (All-head (λ l. Contains cells (l / 4 ^ (top - 3))) leaf touched over)))
      | false ↦ λ clear. clean_cell top cell touched cells (All-tail (λ l. Contains cells (l / 4 ^ (top - 3))) leaf touched over) apart
    ] refl

pub same_order_3 : (shape : PyramidShape) (old new : LeafTiles) (touched cells : List ℕ) → IsShape shape.top shape.low shape.n → FitsShape shape (leaf_map new) → SameBut touched old new
    → All (λ leaf. Contains cells (leaf / 4 ^ (shape.top - 3))) touched → SameOrder3 shape cells (leaf_map old) (leaf_map new)
same_order_3 shape old new touched cells known numbers same over cell apart =
    clean_value shape old new touched known numbers same 3 cell known.least_top (clean_cell shape.top cell touched cells over apart)

-- ---- what is found in an order

-- a level that is found at its place
pub level_found : (levels : List (List (ℕ × PixelTile))) (i : ℕ) (A : Type 0) (Q : List (ℕ × PixelTile) → Type 0) (r : Option (Bor (List (ℕ × PixelTile)))) → IsSome r → IfSome r (λ x. x.now ≡ get_or levels i x.now)
    → ((t : List (ℕ × PixelTile)) → t ≡ get_or levels i t → Q t) → MatchOption r A (λ x. Q x.now)
level_found levels i A Q None some at f = cc
level_found levels i A Q (Some x) some at f = f x.now at

pub pyramid_known : (shape : PyramidShape) → IsShape shape.top shape.low shape.n → shape.top ≤ 20
pyramid_known shape known = let top : shape.top ≤ 11 = known.greatest_top in omega arith

-- ---- the numbers of leaves, gone over one by one

pub tiles_nil : AreTiles []
tiles_nil = All-nil (λ (t : PixelTile). IsTile t.depth t.n t.numbers)

pub tiles_cons : (leaf : ℕ) (tile : PixelTile) (rest : LeafTiles) → IsTile tile.depth tile.n tile.numbers → AreTiles rest → AreTiles ((leaf, tile) ∷ rest)
tiles_cons leaf tile rest is all = All-cons (λ (t : PixelTile). IsTile t.depth t.n t.numbers) tile (values_of rest) is all

-- ---- an order above the leaves

pub level_order : (shape : PyramidShape) (leaves : LeafTiles) (levels : List (List (ℕ × PixelTile))) (order i : ℕ) (r : Option (Bor (List (ℕ × PixelTile)))) → levels ≡ levels_of shape (leaf_map leaves)
    → shape.low ≤ order → order < shape.top → i ≡ shape.top - 1 - order → (i < length levels → IsSome r) → IfSome r (λ x. x.now ≡ get_or levels i x.now)
    → MatchOption r ((order < shape.low) ⊎ (shape.top < order)) (λ tiles. (shape.low ≤ order) × (order ≤ shape.top) × (tiles.now ≡ tiles_of shape (leaf_map leaves) order))
level_order shape leaves levels order i r is low below at there found =
    let count : length levels ≡ shape.top - shape.low = levels_count shape (leaf_map leaves) levels is in
    let inside : i < shape.top - shape.low = omega arith in
    let within : i < length levels = omega arith in
    let back : shape.top - 1 - i ≡ order = omega arith in
    let most : order ≤ shape.top = omega arith in
    level_found levels i ((order < shape.low) ⊎ (shape.top < order)) (λ tiles. (shape.low ≤ order) × (order ≤ shape.top) × (tiles ≡ tiles_of shape (leaf_map leaves) order)) r (there within) found
    (λ t e. (low, most, e ∙ level_of shape (leaf_map leaves) levels i t is inside ∙ ap (tiles_of shape (leaf_map leaves)) back))
