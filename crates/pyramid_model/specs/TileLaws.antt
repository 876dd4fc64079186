-- What follows from the definitions of `Tile`: where a tile exists, and what its stored numbers are.
use Rattle.std.proofs.Common.{◌≡◌, ℕ, ◌+◌, ◌-◌, ◌*◌, ◌/◌, ◌%◌, ◌^◌, ◌<◌, ◌≤◌, ◌||◌, Bool, true, false, List, [], ◌∷◌, Some, None, sym, ap, ◌∙◌, refl, arith, length, get_or, ℤ, cond, div-one}
use Rattle.std.specs.Prelude.{slice_get, All, is_some, ◌≢◌, ◌==◌, nat_le}
use Rattle.std.specs.List.{list_any}
use Rattle.std.specs.BTreeMap.{is_at}
use Rattle.std.specs.Ordering.{nat_cmp}
use Rattle.std.proofs.lemmas.Bool.Decides.{nat_tests}
use Rattle.std.proofs.lemmas.Nat.{div-mul-add, mod-mul-add}
use Rattle.std.proofs.lemmas.List.FromFn.{length-map-range_with_len, get_or-map-range_with_len, fill_by_all}
use Rattle.std.proofs.lemmas.List.Elements.{All-from_get_or}
use Rattle.std.proofs.lemmas.Option.{slice_get-get_or}
use Rattle.healpix_nested.specs.Cells.{lies_under}
use Rattle.healpix_nested.specs.CellLaws.{under_trans, under_one, under_ancestor, under_parent}
use Rattle.healpix_nested.specs.Place.{stored_z}
use Rattle.healpix_nested.specs.PlaceLaws.{stored_z_below, stored_at_z-stored_z}
use Rattle.pyramid_model.specs.Shape.{PyramidShape, LeafMap, leaf_numbers}
use Rattle.pyramid_model.specs.Value.{value, pixel_of}
use Rattle.pyramid_model.specs.ValueLaws.{four_steps, blank_below, value_pixel}
use Rattle.pyramid_model.specs.Tile.{exists, pixel_at, pixels}

-- ---- where a tile exists

-- where neither of two tests holds
both_false : (a b : Bool) → (a || b) ≡ false → (a ≡ false) × (b ≡ false)
both_false true b e = cc
both_false false b e = (refl, e)

-- what passes a test is not at a number that does not
differs : (p : ℕ → Bool) (q key : ℕ) → p q ≡ true → p key ≡ false → is_at (nat_cmp q) key ≡ false
differs p q key is not_key = let apart : q ≢ key = λ e. let k : p q ≡ p key = ap p e in cc in grind (arith, nat_tests)

-- where no leaf passes a test, the map has none at a number that does
none_passes : (p : ℕ → Bool) (q : ℕ) → p q ≡ true → (leaves : LeafMap) → list_any (λ leaf. p leaf.0) leaves ≡ false → leaf_numbers leaves q ≡ None
none_passes p q is [] none = refl
none_passes p q is (e ∷ es) none =
    let parts = both_false (p e.0) (list_any (λ leaf. p leaf.0) es) none in
    rw (differs p q e.0 is parts.0) (none_passes p q is es parts.1)

-- where no leaf lies under a tile's cell, no pixel under it has a leaf
pub no_pixels : (shape : PyramidShape) (leaves : LeafMap) (order cell pixel : ℕ) → order ≤ shape.top → exists shape leaves order cell ≡ false → pixel / 4 ^ (shape.top + shape.n - order) ≡ cell → leaf_numbers leaves (pixel / 4 ^ shape.n) ≡ None
no_pixels shape leaves order cell pixel h none e =
    let under : pixel / 4 ^ shape.n / 4 ^ (shape.top - order) ≡ cell = four_steps pixel shape.n (shape.top - order) (shape.top + shape.n - order) (omega arith) ∙ e in
    let lies : lies_under shape.top (pixel / 4 ^ shape.n) order cell ≡ true = grind (arith, nat_tests) in
    none_passes (λ leaf. lies_under shape.top leaf order cell) (pixel / 4 ^ shape.n) lies leaves none

-- the quarter of a number is p if and only if the number is one of 4p to 4p + 3
one_of_four : (x p : ℕ) → (x / 4 == p) ≡ ((x == 4 * p) || (x == 4 * p + 1) || (x == 4 * p + 2) || (x == 4 * p + 3))
one_of_four x p = grind (arith, nat_tests)

-- a leaf lies under a cell if and only if it lies under a child
under_a_child : (top leaf k p : ℕ) → k < top → lies_under top leaf k p ≡ (lies_under top leaf (k + 1) (4 * p) || lies_under top leaf (k + 1) (4 * p + 1) || lies_under top leaf (k + 1) (4 * p + 2) || lies_under top leaf (k + 1) (4 * p + 3))
under_a_child top leaf k p h =
    let here : nat_le k top ≡ true = grind (arith, nat_tests) in
    let next : nat_le (k + 1) top ≡ true = grind (arith, nat_tests) in
    let quarter : leaf / 4 ^ (top - (k + 1)) / 4 ^ 1 ≡ leaf / 4 ^ (top - k) = four_steps leaf (top - (k + 1)) 1 (top - k) (omega arith) in
    rw (here, next, ← quarter) (one_of_four (leaf / 4 ^ (top - (k + 1))) p)

-- eight tests in another order
turned : (a b c d e f g h : Bool) → ((a || b || c || d) || (e || f || g || h)) ≡ ((a || e) || (b || f) || (c || g) || (d || h))
turned a b c d e f g h = grind arith

-- where a test is one of four, something passes it if and only if something passes one of them
any_of_four : {X : Type 0} (t a b c d : X → Bool) → ((x : X) → t x ≡ (a x || b x || c x || d x)) → (xs : List X) → list_any t xs ≡ (list_any a xs || list_any b xs || list_any c xs || list_any d xs)
any_of_four t a b c d is [] = refl
any_of_four t a b c d is (x ∷ xs) = rw (is x, any_of_four t a b c d is xs) (turned (a x) (b x) (c x) (d x) (list_any a xs) (list_any b xs) (list_any c xs) (list_any d xs))

-- a tile above the leaves exists where one of its four children does
pub exists_step : (shape : PyramidShape) (leaves : LeafMap) (k p : ℕ) → k < shape.top → exists shape leaves k p ≡ (exists shape leaves (k + 1) (4 * p) || exists shape leaves (k + 1) (4 * p + 1) || exists shape leaves (k + 1) (4 * p + 2) || exists shape leaves (k + 1) (4 * p + 3))
exists_step shape leaves k p h = any_of_four _ _ _ _ _ (λ leaf. under_a_child shape.top leaf.0 k p h) leaves

-- a leaf lies under a cell of its own order if and only if it is that cell
pub under_itself : (top leaf p : ℕ) → lies_under top leaf top p ≡ is_at (nat_cmp p) leaf
under_itself top leaf p =
    let depth : top - top ≡ 0 = omega arith in
    let same : leaf / 4 ^ (top - top) ≡ leaf = ap (λ d. leaf / 4 ^ d) depth ∙ div-one leaf in
    let own : nat_le top top ≡ true = grind (arith, nat_tests) in
    rw (own, same) (grind (arith, nat_tests))

-- a tile of the leaves' order exists where the map has its numbers
pub exists_leaf : (shape : PyramidShape) (leaves : LeafMap) (p : ℕ) → exists shape leaves shape.top p ≡ is_some (leaf_numbers leaves p)
exists_leaf shape [] p = refl
exists_leaf shape (e ∷ es) p = rw (under_itself shape.top e.0 p) (
    elim (is_at (nat_cmp p) e.0) as (λ b. (b || exists shape es shape.top p) ≡ is_some (cond b (Some e.1) (leaf_numbers es p))) [
      | true ↦ refl
      | false ↦ exists_leaf shape es p
    ])

-- an element that passes a test, so that any test which it passes finds something
pub record Found {X : Type 0} (p : X → Bool) (xs : List X) : Type 0 where
  pub element : X
  pub passes : p element ≡ true
  pub among : (t : X → Bool) → t element ≡ true → list_any t xs ≡ true

or_left : (a b : Bool) → a ≡ true → (a || b) ≡ true
or_left a b e = rw e refl

or_right : (a b : Bool) → b ≡ true → (a || b) ≡ true
or_right true b e = refl
or_right false b e = e

pub found : {X : Type 0} (p : X → Bool) (xs : List X) → list_any p xs ≡ true → Found p xs
found p [] e = cc
found {X} p (x ∷ xs) e = elim (p x) as (λ b. p x ≡ b → (b || list_any p xs) ≡ true → Found p (x ∷ xs)) [
  | true ↦ λ here k. record { element = x; passes = here; among = λ t is. or_left (t x) (list_any t xs) is }
  | false ↦ λ here k. let rest = found p xs k in
      record { element = rest.element; passes = rest.passes; among = λ t is. or_right (t x) (list_any t xs) (rest.among t is) }
] refl e

-- a tile over one that exists exists
pub exists_over : (shape : PyramidShape) (leaves : LeafMap) (k p j q : ℕ) → lies_under k p j q ≡ true → exists shape leaves k p ≡ true → exists shape leaves j q ≡ true
exists_over shape leaves k p j q under there =
    let leaf = found (λ leaf. lies_under shape.top leaf.0 k p) leaves there in
    leaf.among (λ leaf. lies_under shape.top leaf.0 j q) (under_trans shape.top leaf.element.0 k p j q leaf.passes under)

-- a tile above the leaves that exists has a child that exists
pub record HasChild (shape : PyramidShape) (leaves : LeafMap) (k q : ℕ) : Type 0 where
  pub child : ℕ
  pub parent : child / 4 ≡ q
  pub there : exists shape leaves (k + 1) child ≡ true

pub has_child : (shape : PyramidShape) (leaves : LeafMap) (k q : ℕ) → k < shape.top → exists shape leaves k q ≡ true → HasChild shape leaves k q
has_child shape leaves k q h there =
    let leaf = found (λ leaf. lies_under shape.top leaf.0 k q) leaves there in
    let key : ℕ = leaf.element.0 / 4 ^ (shape.top - (k + 1)) in
    let deep : lies_under shape.top leaf.element.0 (k + 1) key ≡ true = under_ancestor shape.top leaf.element.0 (k + 1) (omega arith) in
    let up : lies_under shape.top leaf.element.0 k (key / 4) ≡ true = under_trans shape.top leaf.element.0 (k + 1) key k (key / 4) deep (under_parent k key) in
    record {
      child = key;
      parent = under_one shape.top leaf.element.0 k _ _ up leaf.passes;
      there = leaf.among (λ leaf. lies_under shape.top leaf.0 (k + 1) key) deep;
    }

-- ---- stored numbers

-- a tile has 4^n of them
pub pixels_count : (shape : PyramidShape) (leaves : LeafMap) (k p : ℕ) → length (pixels shape leaves k p) ≡ 4 ^ shape.n
unfolding pixels
pixels_count shape leaves k p = length-map-range_with_len (pixel_at shape leaves k p) 0 (4 ^ shape.n)

-- each is the value of the cell at its place
pub pixels_entry : (shape : PyramidShape) (leaves : LeafMap) (k p s : ℕ) → s < 4 ^ shape.n → slice_get (pixels shape leaves k p) s ≡ Some (pixel_at shape leaves k p s)
unfolding pixels
pixels_entry shape leaves k p s h =
    let within : s < length (pixels shape leaves k p) = rw (pixels_count shape leaves k p) h in
    slice_get-get_or (pixels shape leaves k p) s shape.depth.blank within
    ∙ ap Some (get_or-map-range_with_len (pixel_at shape leaves k p) 0 (4 ^ shape.n) s s shape.depth.blank h (omega arith))

-- where a tile does not exist, each cell within it is blank
blank_in_tile : (shape : PyramidShape) (leaves : LeafMap) (k p z : ℕ) → k ≤ shape.top → exists shape leaves k p ≡ false → z < 4 ^ shape.n → value shape leaves (k + shape.n) (p * 4 ^ shape.n + z) ≡ shape.depth.blank
blank_in_tile shape leaves k p z h none below =
    blank_below shape leaves (shape.top + shape.n - (k + shape.n)) (p * 4 ^ shape.n + z) (λ pixel e.
    no_pixels shape leaves k p pixel h none (
    sym (four_steps pixel (shape.top + shape.n - (k + shape.n)) shape.n (shape.top + shape.n - k) (omega arith))
    ∙ ap (λ x. x / 4 ^ shape.n) e ∙ div-mul-add p (4 ^ shape.n) z below))

-- and so is each of its stored numbers
pub pixels_blank : (shape : PyramidShape) (leaves : LeafMap) (k p : ℕ) → k ≤ shape.top → exists shape leaves k p ≡ false → All (λ v. v ≡ shape.depth.blank) (pixels shape leaves k p)
unfolding pixels
pixels_blank shape leaves k p h none = All-from_get_or (λ v. v ≡ shape.depth.blank) (pixels shape leaves k p) shape.depth.blank (λ s below.
    let within : s < 4 ^ shape.n = rw (sym (pixels_count shape leaves k p)) below in
    get_or-map-range_with_len (pixel_at shape leaves k p) 0 (4 ^ shape.n) s s shape.depth.blank within (omega arith)
    ∙ blank_in_tile shape leaves k p (stored_z shape.n s) h none (stored_z_below shape.n s))

-- a stored number of a leaf's tile is the leaf's own
pixel_at_leaf : (shape : PyramidShape) (leaves : LeafMap) (p : ℕ) (numbers : List ℤ) (s : ℕ) → shape.n ≤ 9 → leaf_numbers leaves p ≡ Some numbers → s < 4 ^ shape.n → pixel_at shape leaves shape.top p s ≡ get_or numbers s shape.depth.blank
pixel_at_leaf shape leaves p numbers s small found below =
    let z : stored_z shape.n s < 4 ^ shape.n = stored_z_below shape.n s in
    let cell : ℕ = p * 4 ^ shape.n + stored_z shape.n s in
    value_pixel shape leaves (shape.top + shape.n) cell refl
    ∙ ap (λ q. pixel_of shape (leaf_numbers leaves q) (cell % 4 ^ shape.n)) (div-mul-add p (4 ^ shape.n) (stored_z shape.n s) z)
    ∙ ap (λ r. pixel_of shape (leaf_numbers leaves p) r) (mod-mul-add p (4 ^ shape.n) (stored_z shape.n s) z)
    ∙ ap (λ ns. pixel_of shape ns (stored_z shape.n s)) found
    ∙ ap (λ i. get_or numbers i shape.depth.blank) (stored_at_z-stored_z shape.n s small below)

-- the tile of a leaf has the leaf's own numbers
pub pixels_leaf : (shape : PyramidShape) (leaves : LeafMap) (p : ℕ) (numbers : List ℤ) → shape.n ≤ 9 → leaf_numbers leaves p ≡ Some numbers → length numbers ≡ 4 ^ shape.n → pixels shape leaves shape.top p ≡ numbers
unfolding pixels
pixels_leaf shape leaves p numbers small found count =
    sym (fill_by_all (pixel_at shape leaves shape.top p) numbers (4 ^ shape.n) shape.depth.blank count (λ s below. sym (pixel_at_leaf shape leaves p numbers s small found below)))
