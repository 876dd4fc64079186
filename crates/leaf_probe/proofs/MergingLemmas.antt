-- The tiles under an asked cell, order by order.
use Rattle.std.proofs.Common.{◌≡◌, ℕ, ◌+◌, ◌*◌, ◌/◌, ◌^◌, ◌<◌, ◌≤◌, ◌&&◌, ◌||◌, Bool, true, false, cond, List, [], ◌∷◌, ◌++◌, length, Option, Some, None, sym, ap, ◌∙◌, refl, arith, Result, Ok, Err}
use Rattle.std.specs.Prelude.{is_some, option_map, option_copied, ℤ, ◌==◌, All, IfSome, IfOk, if◌then◌else◌, IsSome}
use Rattle.std.specs.Borrow.{Bor}
use Rattle.std.specs.List.{list_any}
use Rattle.std.specs.Map.{lookup, keys_of, values_of}
use Rattle.std.specs.BTreeMap.{is_at}
use Rattle.std.specs.Ordering.{nat_cmp}
use Rattle.std.proofs.lemmas.Bool.Decides.{nat_tests}
use Rattle.std.proofs.lemmas.List.Folds.{list_any-append}
use Rattle.std.proofs.lemmas.Map.Made.{is_some-lookup}
use Rattle.std.proofs.lemmas.Map.Views.{IfSome-lookup_from_All}
use Rattle.healpix_nested.specs.Cells.{lies_under}
use Rattle.healpix_nested.specs.CellLaws.{under_self, under_trans, under_means_child, under_parent, parent_under}
use Rattle.parent_rule.specs.Depth.{PixelDepth}
use Rattle.pyramid_model.specs.Shape.{PyramidShape, LeafMap, leaf_numbers}
use Rattle.pyramid_model.specs.Tile.{exists, pixels}
use Rattle.pyramid_model.specs.TileLaws.{exists_leaf, exists_over, found, has_child, pixels_leaf}
use Rattle.tile_pixels.specs.Tile.{tile_of, PixelTile, HasShape}
use Rattle.tile_pixels.specs.Merge.{Shows, ShowsChildren}
use Rattle.leaf_probe.specs.Merging.{IsLevel}

-- ---- tests

same_bool : (a b : Bool) → (a ≡ true → b ≡ true) → (b ≡ true → a ≡ true) → a ≡ b
same_bool true b there back = sym (there refl)
same_bool false true there back = back refl
same_bool false false there back = refl

both_true : (a b : Bool) → (a && b) ≡ true → (a ≡ true) × (b ≡ true)
both_true true b e = (refl, e)
both_true false b e = cc

from_both : (a b : Bool) → a ≡ true → b ≡ true → (a && b) ≡ true
from_both a b ea eb = rw (ea, eb) refl

or_right : (a b : Bool) → b ≡ true → (a || b) ≡ true
or_right true b e = refl
or_right false b e = e

-- ---- the leaves

abbrev tile_with : PixelDepth → ℕ → List ℤ → PixelTile
tile_with depth n numbers = record { depth = depth; n = n; numbers = numbers }

same_tile : (tile : PixelTile) (shape : PyramidShape) (numbers : List ℤ) → tile.depth ≡ shape.depth → tile.n ≡ shape.n → tile.numbers ≡ numbers → tile ≡ record { depth = shape.depth; n = shape.n; numbers = numbers }
same_tile tile shape numbers d n p =
    ap (λ (x : PixelDepth). tile_with x tile.n tile.numbers) d ∙ ap (λ (x : ℕ). tile_with shape.depth x tile.numbers) n ∙ ap (λ (x : List ℤ). tile_with shape.depth shape.n x) p

-- the tiles that are kept are the leaves under the asked cell
abbrev pub KeepsLeaves : ℕ → ℕ → ℕ → LeafMap → List (ℕ × PixelTile) → Type 0
KeepsLeaves top order npix leaves tiles = (q : ℕ) → option_map (λ tile. tile.numbers) (lookup (is_at (nat_cmp q)) tiles)
    ≡ cond (lies_under top q order npix) (leaf_numbers leaves q) None

-- what is kept at a number of the leaves' order is the leaf's tile
leaf_tile_at : (shape : PyramidShape) (leaves : LeafMap) (q : ℕ) (o : Option PixelTile) (kept : Option (List ℤ)) (b : Bool) → shape.n ≤ 9
    → leaf_numbers leaves q ≡ kept → option_map (λ tile. tile.numbers) o ≡ cond b kept None
    → IfSome o (λ tile. HasShape tile shape.depth shape.n) → IfSome o (λ tile. length tile.numbers ≡ 4 ^ shape.n)
    → o ≡ cond (b && is_some kept) (Some (tile_of shape leaves shape.top q)) None
leaf_tile_at shape leaves q None None true n there e is count = refl
leaf_tile_at shape leaves q None (Some numbers) true n there e is count = cc
leaf_tile_at shape leaves q None kept false n there e is count = refl
leaf_tile_at shape leaves q (Some tile) None true n there e is count = cc
leaf_tile_at shape leaves q (Some tile) (Some numbers) true n there e is count =
    let own : tile.numbers ≡ numbers = cc in
    let same : leaf_numbers leaves q ≡ Some tile.numbers = there ∙ ap Some (sym own) in
    ap Some (same_tile tile shape _ is.0 is.1 (sym (pixels_leaf shape leaves q tile.numbers n same count)))
leaf_tile_at shape leaves q (Some tile) kept false n there e is count = cc

-- the kept tiles are those of the leaves' order under the asked cell
pub leaves_level : (shape : PyramidShape) (leaves : LeafMap) (order npix : ℕ) (tiles : List (ℕ × PixelTile)) → shape.n ≤ 9
    → All (λ tile. HasShape tile shape.depth shape.n) (values_of tiles) → All (λ tile. length tile.numbers ≡ 4 ^ shape.n) (values_of tiles)
    → KeepsLeaves shape.top order npix leaves tiles → IsLevel shape leaves order npix shape.top tiles
leaves_level shape leaves order npix tiles n is count keeps q =
    leaf_tile_at shape leaves q (lookup (is_at (nat_cmp q)) tiles) (leaf_numbers leaves q) (lies_under shape.top q order npix) n refl (keeps q)
    (IfSome-lookup_from_All _ (is_at (nat_cmp q)) tiles is) (IfSome-lookup_from_All _ (is_at (nat_cmp q)) tiles count)
    ∙ ap (λ b. cond (lies_under shape.top q order npix && b) (Some (tile_of shape leaves shape.top q)) None) (sym (exists_leaf shape leaves q))

-- ---- four children

shows_none : (b : Bool) (v : PixelTile) → None ≡ cond b (Some v) None → b ≡ false
shows_none true v e = cc
shows_none false v e = refl

shows_some : (b : Bool) (v t : PixelTile) → Some t ≡ cond b (Some v) None → (b ≡ true) × (t ≡ v)
shows_some true v t e = let same : t ≡ v = cc in (refl, same)
shows_some false v t e = cc

level_at : (shape : PyramidShape) (leaves : LeafMap) (order npix k p : ℕ) (tiles : List (ℕ × PixelTile)) → IsLevel shape leaves order npix k tiles → lies_under k p order npix ≡ true
    → lookup (is_at (nat_cmp p)) tiles ≡ cond (exists shape leaves k p) (Some (tile_of shape leaves k p)) None
level_at shape leaves order npix k p tiles level under = rw under at (level p)

-- the asked tile is among those of its own order, where it exists
pub asked_tile_is : (shape : PyramidShape) (leaves : LeafMap) (order npix : ℕ) (tiles : List (ℕ × PixelTile)) (o : Option PixelTile) → IsLevel shape leaves order npix order tiles
    → o ≡ lookup (is_at (nat_cmp npix)) tiles → (is_some o ≡ exists shape leaves order npix) × IfSome o (λ tile. tile ≡ tile_of shape leaves order npix)
asked_tile_is shape leaves order npix tiles o level is =
    let found_is : o ≡ cond (exists shape leaves order npix) (Some (tile_of shape leaves order npix)) None = is ∙ level_at shape leaves order npix order npix tiles level (under_self order npix) in
    rw found_is (either (exists shape leaves order npix) (tile_of shape leaves order npix))
  where
    either : (b : Bool) (t : PixelTile) → (is_some (cond b (Some t) None) ≡ b) × IfSome (cond b (Some t) None) (λ tile. tile ≡ t)
    either true t = (refl, refl)
    either false t = (refl, tt)

shown : (shape : PyramidShape) (leaves : LeafMap) (k p : ℕ) (o : Option (Bor PixelTile)) → option_copied o ≡ cond (exists shape leaves k p) (Some (tile_of shape leaves k p)) None
    → Shows shape leaves k p (option_map (λ t. t.now.numbers) o)
shown shape leaves k p None e = shows_none (exists shape leaves k p) _ e
shown shape leaves k p (Some t) e = let both = shows_some (exists shape leaves k p) _ t.now e in (both.0, ap (λ tile. tile.numbers) both.1)

pub shows_children : (shape : PyramidShape) (leaves : LeafMap) (order npix k q : ℕ) (tiles : List (ℕ × PixelTile)) (c0 c1 c2 c3 : Option (Bor PixelTile)) → order ≤ k → lies_under k q order npix ≡ true → IsLevel shape leaves order npix (k + 1) tiles
    → option_copied c0 ≡ lookup (is_at (nat_cmp (4 * q))) tiles → option_copied c1 ≡ lookup (is_at (nat_cmp (4 * q + 1))) tiles → option_copied c2 ≡ lookup (is_at (nat_cmp (4 * q + 2))) tiles → option_copied c3 ≡ lookup (is_at (nat_cmp (4 * q + 3))) tiles
    → ShowsChildren shape leaves k q (record {
      first = option_map (λ t. t.now.numbers) c0;
      second = option_map (λ t. t.now.numbers) c1;
      third = option_map (λ t. t.now.numbers) c2;
      fourth = option_map (λ t. t.now.numbers) c3;
    })
shows_children shape leaves order npix k q tiles c0 c1 c2 c3 h under level e0 e1 e2 e3 =
    let below : (p : ℕ) → 4 * q ≤ p → p < 4 * q + 4 → lookup (is_at (nat_cmp p)) tiles ≡ cond (exists shape leaves (k + 1) p) (Some (tile_of shape leaves (k + 1) p)) None =
    λ p low high. level_at shape leaves order npix (k + 1) p tiles level (under_trans (k + 1) p k q order npix ((under_means_child k q p).1 (low, high)) under) in
    record {
      first = shown shape leaves (k + 1) (4 * q) c0 (e0 ∙ below (4 * q) (omega arith) (omega arith));
      second = shown shape leaves (k + 1) (4 * q + 1) c1 (e1 ∙ below (4 * q + 1) (omega arith) (omega arith));
      third = shown shape leaves (k + 1) (4 * q + 2) c2 (e2 ∙ below (4 * q + 2) (omega arith) (omega arith));
      fourth = shown shape leaves (k + 1) (4 * q + 3) c3 (e3 ∙ below (4 * q + 3) (omega arith) (omega arith));
    }

-- ---- one order

-- the tiles are those above some of the tiles of the next order, by their numbers
abbrev pub MadeOf : PyramidShape → LeafMap → ℕ → List ℕ → List (ℕ × PixelTile) → Type 0
MadeOf shape leaves k keys made = (q : ℕ) → lookup (is_at (nat_cmp q)) made ≡ cond (list_any (λ key. key / 4 == q) keys) (Some (tile_of shape leaves k q)) None

-- the tiles that exist are those above a tile that is there
level_keys : (shape : PyramidShape) (leaves : LeafMap) (order npix k : ℕ) (tiles : List (ℕ × PixelTile)) (q : ℕ) → order ≤ k → k < shape.top → IsLevel shape leaves order npix (k + 1) tiles
    → list_any (λ key. key / 4 == q) (keys_of tiles) ≡ (lies_under k q order npix && exists shape leaves k q)
level_keys shape leaves order npix k tiles q h deep level = same_bool _ _ there back
  where
    is_there : (p : ℕ) → is_some (lookup (is_at (nat_cmp p)) tiles) ≡ (lies_under (k + 1) p order npix && exists shape leaves (k + 1) p)
    is_there p = ap is_some (level p) ∙ some_test (lies_under (k + 1) p order npix && exists shape leaves (k + 1) p) (tile_of shape leaves (k + 1) p)
      where
        some_test : (b : Bool) (v : PixelTile) → is_some (if b then Some v else None) ≡ b
        some_test true v = refl
        some_test false v = refl

    there : list_any (λ key. key / 4 == q) (keys_of tiles) ≡ true → (lies_under k q order npix && exists shape leaves k q) ≡ true
    there e =
        let key = found (λ key. key / 4 == q) (keys_of tiles) e in
        let parent : key.element / 4 ≡ q = let passes : (key.element / 4 == q) ≡ true = key.passes in grind (arith, nat_tests) in
        let at : is_at (nat_cmp key.element) key.element ≡ true = grind (arith, nat_tests) in
        let some : is_some (lookup (is_at (nat_cmp key.element)) tiles) ≡ true = is_some-lookup (is_at (nat_cmp key.element)) tiles ∙ key.among (is_at (nat_cmp key.element)) at in
        let both = both_true _ _ (sym (is_there key.element) ∙ some) in
        let under : lies_under k (key.element / 4) order npix ≡ true = parent_under k key.element order npix h both.0 in
        let exists_above : exists shape leaves k (key.element / 4) ≡ true = exists_over shape leaves (k + 1) key.element k (key.element / 4) (under_parent k key.element) both.1 in
        rw parent at (from_both _ _ under exists_above)

    back : (lies_under k q order npix && exists shape leaves k q) ≡ true → list_any (λ key. key / 4 == q) (keys_of tiles) ≡ true
    back e =
        let both = both_true (lies_under k q order npix) (exists shape leaves k q) e in
        let below = has_child shape leaves k q deep both.1 in
        let over : lies_under (k + 1) below.child k q ≡ true = rw below.parent at (under_parent k below.child) in
        let under : lies_under (k + 1) below.child order npix ≡ true = under_trans (k + 1) below.child k q order npix over both.0 in
        let some : list_any (is_at (nat_cmp below.child)) (keys_of tiles) ≡ true = sym (is_some-lookup (is_at (nat_cmp below.child)) tiles) ∙ is_there below.child ∙ from_both _ _ under below.there in
        let key = found (is_at (nat_cmp below.child)) (keys_of tiles) some in
        let same : key.element ≡ below.child = let passes : is_at (nat_cmp below.child) key.element ≡ true = key.passes in grind (arith, nat_tests) in
        let parent : key.element / 4 ≡ q = ap (λ x. x / 4) same ∙ below.parent in
        key.among (λ key. key / 4 == q) (grind (arith, nat_tests))

pub level_made : (shape : PyramidShape) (leaves : LeafMap) (order npix k : ℕ) (tiles made : List (ℕ × PixelTile)) → order ≤ k → k < shape.top → IsLevel shape leaves order npix (k + 1) tiles
    → MadeOf shape leaves k (keys_of tiles) made → IsLevel shape leaves order npix k made
level_made shape leaves order npix k tiles made h deep level is q = is q ∙ ap (λ b. cond b (Some (tile_of shape leaves k q)) None) (level_keys shape leaves order npix k tiles q h deep level)

-- the cell above a tile that is there lies under the asked cell
pub under_asked : (shape : PyramidShape) (leaves : LeafMap) (order npix k key : ℕ) (tiles : List (ℕ × PixelTile)) → order ≤ k → IsLevel shape leaves order npix (k + 1) tiles → IsSome (lookup (is_at (nat_cmp key)) tiles) → lies_under k (key / 4) order npix ≡ true
under_asked shape leaves order npix k key tiles h level some = parent_under k key order npix h (asked (lies_under (k + 1) key order npix) (exists shape leaves (k + 1) key) (tile_of shape leaves (k + 1) key) (rw (level key) at some))
  where
    asked : (a b : Bool) (v : PixelTile) → IsSome (if a && b then Some v else None) → a ≡ true
    asked true b v is = refl
    asked false b v is = cc

-- one more tile of the next order: the tile above it is new, or was there
pub made_new : (shape : PyramidShape) (leaves : LeafMap) (k key : ℕ) (keys : List ℕ) (made more : List (ℕ × PixelTile)) (tile : PixelTile) → MadeOf shape leaves k keys made → tile ≡ tile_of shape leaves k (key / 4)
    → ((q : ℕ) → lookup (is_at (nat_cmp q)) more ≡ cond (is_at (nat_cmp (key / 4)) q) (Some tile) (lookup (is_at (nat_cmp q)) made)) → MadeOf shape leaves k (keys ++ key ∷ []) more
made_new shape leaves k key keys made more tile is same updates q =
    let last : list_any (λ key. key / 4 == q) (keys ++ key ∷ []) ≡ (list_any (λ key. key / 4 == q) keys || (key / 4 == q || false)) = list_any-append (λ key. key / 4 == q) keys (key ∷ []) in
    let test : is_at (nat_cmp (key / 4)) q ≡ (key / 4 == q) = grind (arith, nat_tests) in
    rw (last, updates q, test, is q) (elim (key / 4 == q) as (λ b. (key / 4 == q) ≡ b → cond b (Some tile) (cond (list_any (λ key. key / 4 == q) keys) (Some (tile_of shape leaves k q)) None)
    ≡ cond (list_any (λ key. key / 4 == q) keys || (b || false)) (Some (tile_of shape leaves k q)) None) [
      | true ↦ λ e. let parent : key / 4 ≡ q = grind (arith, nat_tests) in
          let whole : Some tile ≡ Some (tile_of shape leaves k q) = ap Some (same ∙ ap (tile_of shape leaves k) parent) in
          rw (or_right (list_any (λ key. key / 4 == q) keys) true refl) whole
      | false ↦ λ e. or_none (list_any (λ key. key / 4 == q) keys) (Some (tile_of shape leaves k q))
    ] refl)
  where
    or_none : (b : Bool) (x : Option PixelTile) → cond b x None ≡ cond (b || (false || false)) x None
    or_none true x = refl
    or_none false x = refl

pub made_before : (shape : PyramidShape) (leaves : LeafMap) (k key : ℕ) (keys : List ℕ) (made : List (ℕ × PixelTile)) → MadeOf shape leaves k keys made → is_some (lookup (is_at (nat_cmp (key / 4))) made) ≡ true → MadeOf shape leaves k (keys ++ key ∷ []) made
made_before shape leaves k key keys made is some q =
    let last : list_any (λ key. key / 4 == q) (keys ++ key ∷ []) ≡ (list_any (λ key. key / 4 == q) keys || (key / 4 == q || false)) = list_any-append (λ key. key / 4 == q) keys (key ∷ []) in
    let there : list_any (λ k. k / 4 == key / 4) keys ≡ true = some_only (list_any (λ k. k / 4 == key / 4) keys) (tile_of shape leaves k (key / 4)) (rw (is (key / 4)) at some) in
    rw (last, is q) (elim (key / 4 == q) as (λ b. (key / 4 == q) ≡ b → cond (list_any (λ key. key / 4 == q) keys) (Some (tile_of shape leaves k q)) None
    ≡ cond (list_any (λ key. key / 4 == q) keys || (b || false)) (Some (tile_of shape leaves k q)) None) [
      | true ↦ λ e. let parent : key / 4 ≡ q = grind (arith, nat_tests) in
          let here : list_any (λ key. key / 4 == q) keys ≡ true = rw parent at there in
          rw (here) refl
      | false ↦ λ e. or_none (list_any (λ key. key / 4 == q) keys) (Some (tile_of shape leaves k q))
    ] refl)
  where
    some_only : (b : Bool) (v : PixelTile) → is_some (cond b (Some v) None) ≡ true → b ≡ true
    some_only true v e = refl
    some_only false v e = cc

    or_none : (b : Bool) (x : Option PixelTile) → cond b x None ≡ cond (b || (false || false)) x None
    or_none true x = refl
    or_none false x = refl

-- the tile that was merged of the four is the cell's
pub merged_is : {E : Type 0} (shape : PyramidShape) (leaves : LeafMap) (k p : ℕ) (r : Result PixelTile E) → IfOk r (λ tile. HasShape tile shape.depth shape.n) → IfOk r (λ tile. tile.numbers ≡ pixels shape leaves k p)
    → IfOk r (λ tile. tile ≡ tile_of shape leaves k p)
merged_is shape leaves k p (Ok tile) is numbers = same_tile tile shape _ is.0 is.1 numbers
merged_is shape leaves k p (Err e) is numbers = tt
