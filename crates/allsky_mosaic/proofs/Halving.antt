-- Squares that are halved: the numbers of the order above are combined of four.
use Rattle.std.proofs.Common.{◌≡◌, ℕ, zero, suc, ◌+◌, ◌-◌, ◌*◌, ◌^◌, ◌<◌, ◌≤◌, List, [], ◌∷◌, ℤ, refl, sym, ap, subst, ◌∙◌, arith, pow-suc}
use Rattle.std.proofs.Math.Nat.{pow-le-pow_right}
use Rattle.healpix_nested.specs.Place.{z_order}
use Rattle.healpix_nested.specs.PlaceLaws.{z_order_of_four}
use Rattle.parent_rule.specs.Combined.{combined}
use Rattle.parent_rule.specs.CombinedLaws.{combined-blank}
use Rattle.parent_rule.specs.Depth.{PixelDepth}
use Rattle.pyramid_model.specs.Shape.{PyramidShape, LeafMap}
use Rattle.pyramid_model.specs.Value.{value}
use Rattle.pyramid_model.specs.ValueLaws.{value_step}
use Rattle.allsky_mosaic.specs.Tiles.{IsSurvey}
use Rattle.allsky_mosaic.specs.Cells.{ShowsSquare, square_number, number_over}

-- one of the four cells under a cell within cell `cell` of order 3
child_value : (shape : PyramidShape) (leaves : LeafMap) (cell levels column line dc dl i : ℕ) (f : ℕ → ℕ → ℤ) → levels < 9 → column < 2 ^ levels → line < 2 ^ levels → dc < 2 → dl < 2 → i ≡ 2 * dc + dl
    → ShowsSquare shape leaves cell (levels + 1) f
    → f (2 * column + dc) (2 * line + dl) ≡ value shape leaves (3 + levels + 1) (4 * (cell * 4 ^ levels + z_order column line) + i)
child_value shape leaves cell levels column line dc dl i f small column_in line_in hdc hdl i_is shows =
    let half : 2 ^ (levels + 1) ≡ 2 * 2 ^ levels = let e : levels + 1 ≡ suc levels = omega arith in ap (λ (k : ℕ). 2 ^ k) e ∙ pow-suc 2 levels ∙ omega arith in
    let four : 4 ^ (levels + 1) ≡ 4 * 4 ^ levels = let e : levels + 1 ≡ suc levels = omega arith in ap (λ (k : ℕ). 4 ^ k) e ∙ pow-suc 4 levels ∙ omega arith in
    let bound : 2 ^ levels ≤ 2 ^ 8 = pow-le-pow_right {n = 2} (omega arith) {i = levels} {j = 8} (omega arith) in
    let z : z_order (2 * column + dc) (2 * line + dl) ≡ 4 * z_order column line + (2 * dc + dl) = z_order_of_four column line dc dl (omega arith) (omega arith) hdc hdl in
    let place : cell * 4 ^ (levels + 1) + z_order (2 * column + dc) (2 * line + dl) ≡ 4 * (cell * 4 ^ levels + z_order column line) + i = rw (z, four) (omega arith) in
    let order : 3 + (levels + 1) ≡ 3 + levels + 1 = omega arith in
    shows (2 * column + dc) (2 * line + dl) (omega arith) (omega arith) ∙ ap (λ (q : ℕ). value shape leaves (3 + (levels + 1)) q) place
    ∙ ap (λ (j : ℕ). value shape leaves j (4 * (cell * 4 ^ levels + z_order column line) + i)) order

pub four_equal : {a b c d e f g h : ℤ} → a ≡ e → b ≡ f → c ≡ g → d ≡ h → a ∷ b ∷ c ∷ d ∷ [] ≡ e ∷ f ∷ g ∷ h ∷ []
four_equal p q r s = cc

-- the square of half the side, of numbers combined of four, shows the same cell
pub halved_shows : (shape : PyramidShape) (leaves : LeafMap) (cell levels : ℕ) (f g : ℕ → ℕ → ℤ) → levels < 9 → 3 + levels < shape.top + shape.n → ShowsSquare shape leaves cell (levels + 1) f
    → ((column line : ℕ) → column < 2 ^ levels → line < 2 ^ levels → g column line ≡ combined shape.depth.combine shape.depth.blank
    (f (2 * column) (2 * line) ∷ f (2 * column) (2 * line + 1) ∷ f (2 * column + 1) (2 * line) ∷ f (2 * column + 1) (2 * line + 1) ∷ []))
    → ShowsSquare shape leaves cell levels g
halved_shows shape leaves cell levels f g small above shows halved column line column_in line_in =
    let q : ℕ = cell * 4 ^ levels + z_order column line in
    let c0 : 2 * column + 0 ≡ 2 * column = omega arith in
    let l0 : 2 * line + 0 ≡ 2 * line = omega arith in
    let q0 : 4 * q + 0 ≡ 4 * q = omega arith in
    let v0 : f (2 * column) (2 * line) ≡ value shape leaves (3 + levels + 1) (4 * q) =
    ap (λ (c : ℕ). f c (2 * line)) (sym c0) ∙ ap (λ (l : ℕ). f (2 * column + 0) l) (sym l0) ∙ child_value shape leaves cell levels column line 0 0 0 f small column_in line_in (omega arith) (omega arith) refl shows
    ∙ ap (λ (x : ℕ). value shape leaves (3 + levels + 1) x) q0 in
    let v1 : f (2 * column) (2 * line + 1) ≡ value shape leaves (3 + levels + 1) (4 * q + 1) =
    ap (λ (c : ℕ). f c (2 * line + 1)) (sym c0) ∙ child_value shape leaves cell levels column line 0 1 1 f small column_in line_in (omega arith) (omega arith) refl shows in
    let v2 : f (2 * column + 1) (2 * line) ≡ value shape leaves (3 + levels + 1) (4 * q + 2) =
    ap (λ (l : ℕ). f (2 * column + 1) l) (sym l0) ∙ child_value shape leaves cell levels column line 1 0 2 f small column_in line_in (omega arith) (omega arith) refl shows in
    let v3 : f (2 * column + 1) (2 * line + 1) ≡ value shape leaves (3 + levels + 1) (4 * q + 3) = child_value shape leaves cell levels column line 1 1 3 f small column_in line_in (omega arith) (omega arith) refl shows in
    halved column line column_in line_in ∙ ap (combined shape.depth.combine shape.depth.blank) (four_equal v0 v1 v2 v3) ∙ sym (value_step shape leaves (3 + levels) q above)

-- a square of stored numbers that is halved
pub square_halved : (depth : PixelDepth) (n levels : ℕ) (whole half : List ℕ) (tile : ℕ → ℕ → ℤ) → n ≤ 9 → levels < n
    → ((column line : ℕ) → column < 2 ^ levels → line < 2 ^ levels → square_number depth.bitpix (2 ^ levels) half column line ≡ number_over depth (2 ^ levels) whole column line)
    → ((shape : PyramidShape) (leaves : LeafMap) (cell : ℕ) → IsSurvey depth n shape → ShowsSquare shape leaves cell n tile → ShowsSquare shape leaves cell (levels + 1) (square_number depth.bitpix (2 ^ (levels + 1)) whole))
    → (shape : PyramidShape) (leaves : LeafMap) (cell : ℕ) → IsSurvey depth n shape → ShowsSquare shape leaves cell n tile → ShowsSquare shape leaves cell levels (square_number depth.bitpix (2 ^ levels) half)
square_halved depth n levels whole half tile small within halved before shape leaves cell survey shows =
    let top : 3 ≤ shape.top = survey.top in
    let n_is : shape.n ≡ n = survey.n_is in
    let bits : ℕ = depth.bitpix in
    let twice : 2 * 2 ^ levels ≡ 2 ^ (levels + 1) = let e : suc levels ≡ levels + 1 = omega arith in sym (pow-suc 2 levels ∙ omega arith) ∙ ap (λ (k : ℕ). 2 ^ k) e in
    halved_shows shape leaves cell levels (square_number bits (2 ^ (levels + 1)) whole) (square_number bits (2 ^ levels) half) (omega arith) (omega arith) (before shape leaves cell survey shows)
    (λ column line column_in line_in. halved column line column_in line_in
    ∙ ap (λ (k : ℕ). combined depth.combine depth.blank
    (square_number bits k whole (2 * column) (2 * line) ∷ square_number bits k whole (2 * column) (2 * line + 1) ∷ square_number bits k whole (2 * column + 1) (2 * line) ∷ square_number bits k whole (2 * column + 1) (2 * line + 1) ∷ [])) twice
    ∙ ap (λ (d : PixelDepth). combined d.combine d.blank
    (square_number bits (2 ^ (levels + 1)) whole (2 * column) (2 * line) ∷ square_number bits (2 ^ (levels + 1)) whole (2 * column) (2 * line + 1)
    ∷ square_number bits (2 ^ (levels + 1)) whole (2 * column + 1) (2 * line) ∷ square_number bits (2 ^ (levels + 1)) whole (2 * column + 1) (2 * line + 1) ∷ [])) (sym survey.depth_is))

-- a cell that is blank at one order is blank at those above
blank_up : (shape : PyramidShape) (leaves : LeafMap) (cell levels more : ℕ) → levels + more ≤ 9 → 3 + levels + more ≤ shape.top + shape.n → ShowsSquare shape leaves cell (levels + more) (λ column line. shape.depth.blank)
    → ShowsSquare shape leaves cell levels (λ column line. shape.depth.blank)
blank_up shape leaves cell levels zero small above shows =
    let e : levels + zero ≡ levels = omega arith in
    let P : ℕ → Type 0 = λ k. ShowsSquare shape leaves cell k (λ column line. shape.depth.blank) in
    subst P e shows
blank_up shape leaves cell levels (suc more) small above shows =
    let e : levels + suc more ≡ levels + 1 + more = omega arith in
    let P : ℕ → Type 0 = λ k. ShowsSquare shape leaves cell k (λ column line. shape.depth.blank) in
    let next : ShowsSquare shape leaves cell (levels + 1) (λ column line. shape.depth.blank) = blank_up shape leaves cell (levels + 1) more (omega arith) (omega arith) (subst P e shows) in
    halved_shows shape leaves cell levels (λ column line. shape.depth.blank) (λ column line. shape.depth.blank) (omega arith) (omega arith) next
    (λ column line column_in line_in. sym (combined-blank shape.depth.combine shape.depth.blank))

pub blank_above : (shape : PyramidShape) (leaves : LeafMap) (cell n levels : ℕ) → n ≤ 9 → levels ≤ n → shape.n ≡ n → 3 ≤ shape.top → ShowsSquare shape leaves cell n (λ column line. shape.depth.blank)
    → ShowsSquare shape leaves cell levels (λ column line. shape.depth.blank)
blank_above shape leaves cell n levels small within n_is top shows =
    let e : n ≡ levels + (n - levels) = omega arith in
    let P : ℕ → Type 0 = λ k. ShowsSquare shape leaves cell k (λ column line. shape.depth.blank) in
    blank_up shape leaves cell levels (n - levels) (omega arith) (omega arith) (subst P e shows)
