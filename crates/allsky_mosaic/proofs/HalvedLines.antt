-- The line above two lines of a square of stored numbers.
use Rattle.std.proofs.Common.{◌≡◌, ℕ, ◌+◌, ◌-◌, ◌*◌, ◌/◌, ◌<◌, List, [], ◌∷◌, length, get_or, take, drop, All, sym, ap, subst, ◌∙◌, arith, ℤ, pos}
use Rattle.std.specs.Prelude.{IsTrue}
use Rattle.std.proofs.lemmas.List.Elements.{All-nil, All-cons}
use Rattle.std.proofs.lemmas.List.FromFn.{length-map-range_with_len, get_or-map-range_with_len}
use Rattle.parent_rule.specs.Combined.{combined}
use Rattle.parent_rule.specs.CombinedLaws.{combined-number}
use Rattle.parent_rule.specs.Depth.{PixelDepth, IsNumber, is_bitpix}
use Rattle.parent_rule.specs.declared.combine.Combine.{Combine}
use Rattle.tile_pixels.specs.Lines.{row_above}
use Rattle.tile_pixels.specs.Stored.{numbers_from, stored_at, stored_bytes}
use Rattle.tile_pixels.specs.StoredLaws.{AreBytes, AreBytes-take, AreBytes-drop, length-numbers_from, get_or-numbers_from, numbers_from-numbers, numbers_from-stored_bytes}
use Rattle.allsky_mosaic.specs.Cells.{square_number, number_over}
use Rattle.allsky_mosaic.proofs.Appended.{stored_at-row}
use Rattle.allsky_mosaic.proofs.Halving.{four_equal}
use Rattle.allsky_mosaic.proofs.Strips.{line_of_square}

-- a stored number is one of its width
is_number : (bits i : ℕ) (bytes : List ℕ) → IsTrue (is_bitpix bits) → AreBytes bytes → IsNumber bits (stored_at bits bytes i)
is_number bits i bytes known are =
    let within : i < length (numbers_from bits (i + 1) bytes) = omega (arith, length-numbers_from bits (i + 1) bytes) in
    subst (IsNumber bits) (get_or-numbers_from bits (i + 1) bytes i (pos 0) (omega arith)) (numbers_from-numbers bits (i + 1) bytes known are i (pos 0) within)

-- the four numbers under a place of the row above two rows
abbrev four_at : ℕ → List ℕ → List ℕ → ℕ → List ℤ
four_at bits top bottom i = stored_at bits top (2 * i) ∷ stored_at bits bottom (2 * i) ∷ stored_at bits top (2 * i + 1) ∷ stored_at bits bottom (2 * i + 1) ∷ []

module _ (way : Combine) (bits : ℕ) (blank : ℤ) (count : ℕ) (top bottom : List ℕ) where
  row_long : length (row_above way bits blank count top bottom) ≡ count
  unfolding row_above
  row_long = length-map-range_with_len _ 0 count

  row_at : (i : ℕ) (d : ℤ) → i < count → get_or (row_above way bits blank count top bottom) i d ≡ combined way blank (four_at bits top bottom i)
  unfolding row_above
  row_at i d below = get_or-map-range_with_len _ 0 count i i d below (omega arith)

  row_numbers : IsTrue (is_bitpix bits) → IsNumber bits blank → AreBytes top → AreBytes bottom → All (IsNumber bits) (row_above way bits blank count top bottom)
  row_numbers known is are_top are_bottom i d within =
      let four : All (IsNumber bits) (four_at bits top bottom i) =
      All-cons (IsNumber bits) (stored_at bits top (2 * i)) (stored_at bits bottom (2 * i) ∷ stored_at bits top (2 * i + 1) ∷ stored_at bits bottom (2 * i + 1) ∷ []) (is_number bits (2 * i) top known are_top)
      (All-cons (IsNumber bits) (stored_at bits bottom (2 * i)) (stored_at bits top (2 * i + 1) ∷ stored_at bits bottom (2 * i + 1) ∷ []) (is_number bits (2 * i) bottom known are_bottom)
      (All-cons (IsNumber bits) (stored_at bits top (2 * i + 1)) (stored_at bits bottom (2 * i + 1) ∷ []) (is_number bits (2 * i + 1) top known are_top)
      (All-cons (IsNumber bits) (stored_at bits bottom (2 * i + 1)) [] (is_number bits (2 * i + 1) bottom known are_bottom) (All-nil (IsNumber bits))))) in
      let below : i < count = omega (arith, row_long, within) in
      subst (IsNumber bits) (sym (row_at i d below)) (combined-number way bits blank (four_at bits top bottom i) is four)

-- a line of a square
abbrev pub line_in : ℕ → ℕ → ℕ → List ℕ → List ℕ
line_in bits side t square = take (side * (bits / 8)) (drop (t * side * (bits / 8)) square)

pub line_halved : (depth : PixelDepth) (side t : ℕ) (square line top bottom : List ℕ) (column : ℕ) → IsTrue (is_bitpix depth.bitpix) → IsNumber depth.bitpix depth.blank → AreBytes square
    → length square ≡ 2 * side * (2 * side) * (depth.bitpix / 8) → t < side → top ≡ line_in depth.bitpix (2 * side) (2 * t + 1) square → bottom ≡ line_in depth.bitpix (2 * side) (2 * t) square
    → line ≡ stored_bytes depth.bitpix (row_above depth.combine depth.bitpix depth.blank side top bottom) → column < side
    → stored_at depth.bitpix line column ≡ number_over depth side square column (side - 1 - t)
line_halved depth side t square line top bottom column known is are long t_in top_is bottom_is line_is column_in =
    let bits : ℕ = depth.bitpix in
    let wide : ℕ = 2 * side in
    let row : List ℤ = row_above depth.combine bits depth.blank side top bottom in
    let part : (s : ℕ) → AreBytes (line_in bits wide s square) = λ s. AreBytes-take (wide * (bits / 8)) (drop (s * wide * (bits / 8)) square) (AreBytes-drop (s * wide * (bits / 8)) square are) in
    let numbers : All (IsNumber bits) row =
    row_numbers depth.combine bits depth.blank side top bottom known is (subst AreBytes (sym top_is) (part (2 * t + 1))) (subst AreBytes (sym bottom_is) (part (2 * t))) in
    let back : numbers_from bits (length row) line ≡ row = ap (numbers_from bits (length row)) line_is ∙ numbers_from-stored_bytes bits row known numbers in
    let within : column < length row = omega (arith, row_long depth.combine bits depth.blank side top bottom) in
    let upper : wide - 1 - 2 * (side - 1 - t) ≡ 2 * t + 1 = omega arith in
    let lower : wide - 1 - (2 * (side - 1 - t) + 1) ≡ 2 * t = omega arith in
    let at_top : (u : ℕ) → u < wide → stored_at bits top u ≡ square_number bits wide square u (2 * (side - 1 - t)) = λ u h.
    line_of_square bits wide (2 * t + 1) square top u known top_is long (omega arith) h ∙ ap (λ (s : ℕ). stored_at bits square (s * wide + u)) (sym upper) in
    let at_bottom : (u : ℕ) → u < wide → stored_at bits bottom u ≡ square_number bits wide square u (2 * (side - 1 - t) + 1) = λ u h.
    line_of_square bits wide (2 * t) square bottom u known bottom_is long (omega arith) h ∙ ap (λ (s : ℕ). stored_at bits square (s * wide + u)) (sym lower) in
    stored_at-row bits column row line (pos 0) back within ∙ row_at depth.combine bits depth.blank side top bottom column (pos 0) column_in
    ∙ ap (combined depth.combine depth.blank) (four_equal (at_top (2 * column) (omega arith)) (at_bottom (2 * column) (omega arith)) (at_top (2 * column + 1) (omega arith)) (at_bottom (2 * column + 1) (omega arith)))
