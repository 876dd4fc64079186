-- What follows from the definition of `value`: a cell is its pixel or is combined of its children, and a cell with no
-- leaf under it is blank.
use Rattle.std.proofs.Common.{◌≡◌, ℕ, zero, suc, ◌+◌, ◌-◌, ◌*◌, ◌/◌, ◌%◌, ◌^◌, ◌<◌, ◌≤◌, true, List, [], ◌∷◌, Option, Some, None, sym, ap, ◌∙◌, refl, arith, length, ℤ}
use Rattle.std.specs.Prelude.{All, IfSome}
use Rattle.std.specs.BTreeMap.{is_at}
use Rattle.std.specs.Ordering.{nat_cmp}
use Rattle.std.proofs.lemmas.Nat.{pow-add, mod_below}
use Rattle.std.proofs.lemmas.Bool.Decides.{nat_tests}
use Rattle.std.proofs.lemmas.List.Elements.{All-get_or}
use Rattle.std.proofs.lemmas.Map.Views.{IfSome-lookup_from_All}
use Rattle.std.proofs.Math.Nat.{div-div-eq-div-mul}
use Rattle.healpix_nested.specs.Cells.{lies_under}
use Rattle.healpix_nested.specs.CellLaws.{four_pow_pos}
use Rattle.healpix_nested.specs.Place.{stored_at_z}
use Rattle.healpix_nested.specs.PlaceLaws.{stored_at_z_below}
use Rattle.parent_rule.specs.Combined.{combined}
use Rattle.parent_rule.specs.CombinedLaws.{combined-blank, combined-number}
use Rattle.parent_rule.specs.Depth.{IsNumber}
use Rattle.pyramid_model.specs.Shape.{PyramidShape, LeafMap, leaf_numbers, FitsShape}
use Rattle.pyramid_model.specs.Value.{value_above, value, pixel_of}

-- divisions by two powers of four are one
pub four_steps : (x i j k : ℕ) → i + j ≡ k → x / 4 ^ i / 4 ^ j ≡ x / 4 ^ k
four_steps x i j k e = div-div-eq-div-mul x (4 ^ i) (4 ^ j) ∙ ap (λ n. x / n) (sym (pow-add 4 i j) ∙ ap (λ n. 4 ^ n) e)

-- a pixel under a child of q lies under q
under_parent : (x height q i : ℕ) → i < 4 → x / 4 ^ height ≡ 4 * q + i → x / 4 ^ (suc height) ≡ q
under_parent x height q i h e =
    let step : x / 4 ^ height / 4 ^ 1 ≡ x / 4 ^ (suc height) = four_steps x height 1 (suc height) (omega arith) in
    let here : (4 * q + i) / 4 ≡ q = omega arith in
    sym step ∙ ap (λ n. n / 4) e ∙ here

-- a cell with no leaf under it is blank
pub blank_below : (shape : PyramidShape) (leaves : LeafMap) (height q : ℕ) → ((pixel : ℕ) → pixel / 4 ^ height ≡ q → leaf_numbers leaves (pixel / 4 ^ shape.n) ≡ None) → value_above shape leaves height q ≡ shape.depth.blank
unfolding value_above
blank_below shape leaves zero q none = let here : q / 4 ^ 0 ≡ q = omega arith in rw (none q here) refl
blank_below shape leaves (suc height) q none =
    let v0 : value_above shape leaves height (4 * q) ≡ shape.depth.blank = blank_below shape leaves height (4 * q) (λ x e. none x (under_parent x height q 0 (omega arith) (e ∙ omega arith))) in
    let v1 : value_above shape leaves height (4 * q + 1) ≡ shape.depth.blank = blank_below shape leaves height (4 * q + 1) (λ x e. none x (under_parent x height q 1 (omega arith) e)) in
    let v2 : value_above shape leaves height (4 * q + 2) ≡ shape.depth.blank = blank_below shape leaves height (4 * q + 2) (λ x e. none x (under_parent x height q 2 (omega arith) e)) in
    let v3 : value_above shape leaves height (4 * q + 3) ≡ shape.depth.blank = blank_below shape leaves height (4 * q + 3) (λ x e. none x (under_parent x height q 3 (omega arith) e)) in
    rw (v0, v1, v2, v3) (combined-blank shape.depth.combine shape.depth.blank)

-- the same, of a cell of an order and the pixels under it
pub blank_under : (shape : PyramidShape) (leaves : LeafMap) (j q : ℕ) → j ≤ shape.top + shape.n
    → ((pixel : ℕ) → lies_under (shape.top + shape.n) pixel j q ≡ true → leaf_numbers leaves (pixel / 4 ^ shape.n) ≡ None) → value shape leaves j q ≡ shape.depth.blank
blank_under shape leaves j q h none =
    blank_below shape leaves (shape.top + shape.n - j) q
    (λ pixel e. none pixel (grind (arith, nat_tests)))

-- a cell above the pixels is combined of its children
pub value_step : (shape : PyramidShape) (leaves : LeafMap) (j q : ℕ) → j < shape.top + shape.n → value shape leaves j q ≡ combined shape.depth.combine shape.depth.blank
    (value shape leaves (j + 1) (4 * q) ∷ value shape leaves (j + 1) (4 * q + 1) ∷ value shape leaves (j + 1) (4 * q + 2) ∷ value shape leaves (j + 1) (4 * q + 3) ∷ [])
unfolding value_above
value_step shape leaves j q h = let down : shape.top + shape.n - j ≡ suc (shape.top + shape.n - (j + 1)) = omega arith in rw down refl

-- a cell of the pixels' order is its pixel
pub value_pixel : (shape : PyramidShape) (leaves : LeafMap) (j q : ℕ) → j ≡ shape.top + shape.n → value shape leaves j q ≡ pixel_of shape (leaf_numbers leaves (q / 4 ^ shape.n)) (q % 4 ^ shape.n)
unfolding value_above
value_pixel shape leaves j q e = let down : shape.top + shape.n - j ≡ 0 = omega arith in rw down refl

-- ---- numbers of the depth

-- what holds of the blank number and of each number of a leaf holds of its pixels
pixel_is : (P : ℤ → Type 0) (shape : PyramidShape) (numbers : Option (List ℤ)) (z : ℕ) → z < 4 ^ shape.n → P shape.depth.blank
    → IfSome numbers (λ ns. length ns ≡ 4 ^ shape.n) → IfSome numbers (All P) → P (pixel_of shape numbers z)
pixel_is P shape None z below blank lengths all = blank
pixel_is P shape (Some numbers) z below blank lengths all =
    let place : stored_at_z shape.n z < 4 ^ shape.n = stored_at_z_below shape.n z below in
    let count : length numbers ≡ 4 ^ shape.n = lengths in
    All-get_or P numbers (stored_at_z shape.n z) shape.depth.blank (omega arith) all

-- what holds of each of four
pub all_of_four : {X : Type 0} (P : X → Type 0) (a b c d : X) → P a → P b → P c → P d → All P (a ∷ b ∷ c ∷ d ∷ [])
all_of_four P a b c d pa pb pc pd zero e h = pa
all_of_four P a b c d pa pb pc pd (suc zero) e h = pb
all_of_four P a b c d pa pb pc pd (suc (suc zero)) e h = pc
all_of_four P a b c d pa pb pc pd (suc (suc (suc zero))) e h = pd
all_of_four P a b c d pa pb pc pd (suc (suc (suc (suc k)))) e h = absurd (omega arith)

-- values are numbers of the depth, at each height
number_above : (shape : PyramidShape) (leaves : LeafMap) (height q : ℕ) → IsNumber shape.depth.bitpix shape.depth.blank → FitsShape shape leaves → IsNumber shape.depth.bitpix (value_above shape leaves height q)
unfolding value_above
number_above shape leaves zero q blank fits =
    pixel_is (IsNumber shape.depth.bitpix) shape (leaf_numbers leaves (q / 4 ^ shape.n)) (q % 4 ^ shape.n)
    (mod_below q (4 ^ shape.n) (four_pow_pos shape.n)) blank
    (IfSome-lookup_from_All (λ ns. length ns ≡ 4 ^ shape.n) (is_at (nat_cmp (q / 4 ^ shape.n))) leaves fits.lengths)
    (IfSome-lookup_from_All (All (IsNumber shape.depth.bitpix)) (is_at (nat_cmp (q / 4 ^ shape.n))) leaves fits.numbers)
number_above shape leaves (suc height) q blank fits =
    combined-number shape.depth.combine shape.depth.bitpix shape.depth.blank _ blank
    (all_of_four (IsNumber shape.depth.bitpix) _ _ _ _
    (number_above shape leaves height (4 * q) blank fits) (number_above shape leaves height (4 * q + 1) blank fits)
    (number_above shape leaves height (4 * q + 2) blank fits) (number_above shape leaves height (4 * q + 3) blank fits))

-- and so at each order
pub value_number : (shape : PyramidShape) (leaves : LeafMap) (j q : ℕ) → IsNumber shape.depth.bitpix shape.depth.blank → FitsShape shape leaves → IsNumber shape.depth.bitpix (value shape leaves j q)
value_number shape leaves j q blank fits = number_above shape leaves (shape.top + shape.n - j) q blank fits
