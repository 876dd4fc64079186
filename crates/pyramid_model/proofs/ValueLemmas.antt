-- The value of a cell, over the map that the plain program keeps.
use Rattle.std.proofs.Common.{◌≡◌, ℕ, ◌+◌, ◌-◌, ◌*◌, ◌/◌, ◌^◌, ◌<◌, ◌≤◌, false, List, [], ◌∷◌, Option, Some, None, sym, ap, ◌∙◌, refl, arith, subst, get_or}
use Rattle.std.specs.Prelude.{ℤ, Vec, is_some, option_map, slice_get, All, IfSome, length, map, ◌++◌}
use Rattle.std.proofs.lemmas.Option.{get_or_from_slice_get, slice_get_within}
use Rattle.std.proofs.lemmas.Map.Views.{IfSome-lookup_from_All}
use Rattle.healpix_nested.specs.Place.{stored_at_z}
use Rattle.parent_rule.specs.Depth.{IsNumber, PixelDepth}
use Rattle.std.specs.declared.alloc.Global.{Global}
use Rattle.std.specs.Map.{lookup, values_of}
use Rattle.std.specs.BTreeMap.{is_at}
use Rattle.std.specs.Ordering.{nat_cmp}
use Rattle.pyramid_model.specs.Leaves.{leaf_map}
use Rattle.std.specs.List.{range_with_len}
use Rattle.std.proofs.lemmas.List.FromFn.{map-range_with_len_more}
use Rattle.std.proofs.lemmas.Int.{to_z-of_z}
use mir.Val.{SFits, to_z, of_z}
use mir.Syntax.{w64}
use Rattle.parent_rule.specs.Combined.{combined}
use Rattle.pyramid_model.specs.Shape.{PyramidShape, LeafMap, leaf_numbers, FitsShape}
use Rattle.pyramid_model.specs.Value.{value, pixel_of}
use Rattle.pyramid_model.specs.ValueLaws.{four_steps, value_step, all_of_four}
use Rattle.pyramid_model.proofs.LeafLemmas.{lookup-leaf_map}

-- nothing is made of what is not there
absent : {X Y : Type 0} (f : X → Y) (o : Option X) → is_some o ≡ false → option_map f o ≡ None
absent f None e = refl
absent f (Some x) e = cc

-- where a leaf is missing, no pixel under a cell within it has a leaf
pub no_leaf_pixels : (es : List (ℕ × Vec ℤ Global)) (top n order cell pixel : ℕ) → top ≤ order → order ≤ top + n → is_some (lookup (is_at (nat_cmp (cell / 4 ^ (order - top)))) es) ≡ false → pixel / 4 ^ (top + n - order) ≡ cell → leaf_numbers (leaf_map es) (pixel / 4 ^ n) ≡ None
no_leaf_pixels es top n order cell pixel above within none e =
    let leaf_is : pixel / 4 ^ n ≡ cell / 4 ^ (order - top) = sym (four_steps pixel (top + n - order) (order - top) n (omega arith)) ∙ ap (λ x. x / 4 ^ (order - top)) e in
    rw leaf_is (lookup-leaf_map (is_at (nat_cmp (cell / 4 ^ (order - top)))) es ∙ absent (λ numbers. numbers.items) (lookup (is_at (nat_cmp (cell / 4 ^ (order - top)))) es) none)

-- a pixel of a leaf that is missing is blank
pub pixel_of_missing : (shape : PyramidShape) (es : List (ℕ × Vec ℤ Global)) (leaf z : ℕ) → lookup (is_at (nat_cmp leaf)) es ≡ None → pixel_of shape (leaf_numbers (leaf_map es) leaf) z ≡ shape.depth.blank
pixel_of_missing shape es leaf z none = rw (lookup-leaf_map (is_at (nat_cmp leaf)) es, none) refl

-- a pixel of a leaf that is there is the leaf's number at its place
pub pixel_of_leaf : (shape : PyramidShape) (es : List (ℕ × Vec ℤ Global)) (leaf z : ℕ) (numbers : Vec ℤ Global) (x : ℤ) → lookup (is_at (nat_cmp leaf)) es ≡ Some numbers → slice_get numbers.items (stored_at_z shape.n z) ≡ Some x → pixel_of shape (leaf_numbers (leaf_map es) leaf) z ≡ x
pixel_of_leaf shape es leaf z numbers x found at = rw (lookup-leaf_map (is_at (nat_cmp leaf)) es, found) (get_or_from_slice_get numbers.items (stored_at_z shape.n z) x shape.depth.blank at)

-- what holds of the numbers of each leaf holds of those that a look-up finds
fits_one : (P : List ℤ → Type 0) (es : List (ℕ × Vec ℤ Global)) (leaf : ℕ) (numbers : Vec ℤ Global) → All P (values_of (leaf_map es)) → lookup (is_at (nat_cmp leaf)) es ≡ Some numbers → P numbers.items
fits_one P es leaf numbers all found =
    let one : IfSome (lookup (is_at (nat_cmp leaf)) (leaf_map es)) P = IfSome-lookup_from_All P (is_at (nat_cmp leaf)) (leaf_map es) all in
    let there : lookup (is_at (nat_cmp leaf)) (leaf_map es) ≡ Some numbers.items = lookup-leaf_map (is_at (nat_cmp leaf)) es ∙ ap (option_map (λ v. v.items)) found in
    rw there at one

-- so they are 4^n
pub leaf_length : (shape : PyramidShape) (es : List (ℕ × Vec ℤ Global)) (leaf : ℕ) (numbers : Vec ℤ Global) → FitsShape shape (leaf_map es) → lookup (is_at (nat_cmp leaf)) es ≡ Some numbers → length numbers.items ≡ 4 ^ shape.n
leaf_length shape es leaf numbers fits found = fits_one (λ ns. length ns ≡ 4 ^ shape.n) es leaf numbers fits.lengths found

-- and each is one of the depth
pub leaf_number : (shape : PyramidShape) (es : List (ℕ × Vec ℤ Global)) (leaf i : ℕ) (numbers : Vec ℤ Global) (x : ℤ) → FitsShape shape (leaf_map es) → lookup (is_at (nat_cmp leaf)) es ≡ Some numbers → slice_get numbers.items i ≡ Some x → IsNumber shape.depth.bitpix x
leaf_number shape es leaf i numbers x fits found at =
    let all : All (IsNumber shape.depth.bitpix) numbers.items = fits_one (All (IsNumber shape.depth.bitpix)) es leaf numbers fits.numbers found in
    let here : get_or numbers.items i x ≡ x = get_or_from_slice_get numbers.items i x x at in
    let P : ℤ → Type 0 = IsNumber shape.depth.bitpix in
    subst P here (all i x (slice_get_within numbers.items i x at))

-- a number of 64 bits is itself after a cast to its bits and back
cast_number : (bits : ℕ) (v : ℤ) → SFits w64 v → IsNumber bits v → IsNumber bits (to_z w64 (of_z w64 v))
cast_number bits v fits is = rw (to_z-of_z w64 v fits) is

-- so the values of four children are numbers of the depth as they are passed on
pub numbers_of_four : (bits deep : ℕ) (v0 v1 v2 v3 : ℤ) → deep ≡ bits → SFits w64 v0 → SFits w64 v1 → SFits w64 v2 → SFits w64 v3 → IsNumber bits v0 → IsNumber bits v1 → IsNumber bits v2 → IsNumber bits v3
    → All (IsNumber deep) (to_z w64 (of_z w64 v0) ∷ to_z w64 (of_z w64 v1) ∷ to_z w64 (of_z w64 v2) ∷ to_z w64 (of_z w64 v3) ∷ [])
numbers_of_four bits deep v0 v1 v2 v3 e f0 f1 f2 f3 n0 n1 n2 n3 =
    rw e (all_of_four (IsNumber bits) _ _ _ _ (cast_number bits v0 f0 n0) (cast_number bits v1 f1 n1) (cast_number bits v2 f2 n2) (cast_number bits v3 f3 n3))

-- what is combined of the children's values is the value
pub value_of_four : (shape : PyramidShape) (leaves : LeafMap) (j q : ℕ) (depth : PixelDepth) (r v0 v1 v2 v3 : ℤ) → j < shape.top + shape.n → depth ≡ shape.depth
    → SFits w64 v0 → SFits w64 v1 → SFits w64 v2 → SFits w64 v3
    → v0 ≡ value shape leaves (j + 1) (4 * q) → v1 ≡ value shape leaves (j + 1) (4 * q + 1) → v2 ≡ value shape leaves (j + 1) (4 * q + 2) → v3 ≡ value shape leaves (j + 1) (4 * q + 3)
    → r ≡ combined depth.combine depth.blank (to_z w64 (of_z w64 v0) ∷ to_z w64 (of_z w64 v1) ∷ to_z w64 (of_z w64 v2) ∷ to_z w64 (of_z w64 v3) ∷ []) → r ≡ value shape leaves j q
value_of_four shape leaves j q depth r v0 v1 v2 v3 h d f0 f1 f2 f3 e0 e1 e2 e3 e =
    let whole : r ≡ combined depth.combine depth.blank (v0 ∷ v1 ∷ v2 ∷ v3 ∷ []) = rw (to_z-of_z w64 v0 f0, to_z-of_z w64 v1 f1, to_z-of_z w64 v2 f2, to_z-of_z w64 v3 f3) at e in
    let named : r ≡ combined shape.depth.combine shape.depth.blank (value shape leaves (j + 1) (4 * q) ∷ value shape leaves (j + 1) (4 * q + 1) ∷ value shape leaves (j + 1) (4 * q + 2) ∷ value shape leaves (j + 1) (4 * q + 3) ∷ []) = rw (d, e0, e1, e2, e3) at whole in
    named ∙ sym (value_step shape leaves j q h)

-- one more number of a list that a function of the place gives
pub one_more_number : (f : ℕ → ℤ) (place : ℕ) (xs ys : List ℤ) (v : ℤ) → xs ≡ map f (range_with_len 0 place) → ys ≡ xs ++ v ∷ [] → v ≡ f place → ys ≡ map f (range_with_len 0 (place + 1))
one_more_number f place xs ys v so_far pushed is = pushed ∙ ap (λ zs. zs ++ v ∷ []) so_far ∙ ap (λ w. map f (range_with_len 0 place) ++ w ∷ []) is ∙ sym (map-range_with_len_more f 0 place place (omega arith))
