-- A row of a tile's numbers, and the row above two of them.
use Rattle.std.proofs.Common.{◌≡◌, ℕ, suc, ◌+◌, ◌-◌, ◌*◌, ◌^◌, ◌<◌, ◌≤◌, List, [], ◌∷◌, length, Some, None, Option, sym, ap, ◌∙◌, arith, get_or, pow-suc, inl, inr}
use Rattle.std.specs.Prelude.{ℤ, pos, All, replicate, slice_get, EachIndex}
use Rattle.std.proofs.lemmas.List.{length-replicate, get_or-replicate, get_or_past}
use Rattle.std.proofs.lemmas.List.FromFn.{fill_by_all, length-map-range_with_len, get_or-map-range_with_len}
use Rattle.std.proofs.lemmas.List.Elements.{All-cons, All-nil}
use Rattle.std.proofs.lemmas.Bool.{cases_lt}
use Rattle.std.proofs.lemmas.Option.{get_or_from_slice_get}
use Rattle.parent_rule.specs.Combined.{combined, square_at, number_at}
use Rattle.parent_rule.specs.CombinedLaws.{combined-blank, combined-number}
use Rattle.parent_rule.specs.Depth.{PixelDepth, IsNumber}
use Rattle.parent_rule.specs.declared.combine.Combine.{Combine}
use Rattle.tile_pixels.specs.Stored.{numbers_from, stored_at}
use Rattle.tile_pixels.specs.StoredLaws.{get_or-numbers_from}
use Rattle.tile_pixels.specs.Tile.{PixelTile, HasShape, pixel_in}
use Rattle.tile_pixels.specs.Lines.{number_in, number_over, half_row, row_above}
use Rattle.tile_pixels.specs.QuadrantLaws.{same_four}
use Rattle.tile_pixels.proofs.RowAbove.{length-row_above, get_or-row_above}

-- a tile has twice as many columns as a half line
pub two_halves : (n : ℕ) → 1 ≤ n → 2 * 2 ^ (n - 1) ≡ 2 ^ n
two_halves n some = let e : n ≡ suc (n - 1) = omega arith in let two : 2 ^ n ≡ 2 ^ (n - 1) * 2 = ap (λ k. 2 ^ k) e ∙ pow-suc 2 (n - 1) in omega arith

-- the row above two rows of a tile that isn't given
pub half_row-none : (depth : PixelDepth) (n row count : ℕ) → count ≡ 2 ^ (n - 1) → replicate count depth.blank ≡ half_row depth n None row
unfolding half_row
half_row-none depth n row count e =
    fill_by_all (number_over depth n None row) (replicate count depth.blank) (2 ^ (n - 1)) depth.blank (length-replicate count depth.blank ∙ e)
    (λ i below. get_or-replicate count i depth.blank depth.blank (rw e below) ∙ sym (combined-blank depth.combine depth.blank))

-- and of one that is: the row above two of its lines
row_above-half : (tile : PixelTile) (row count : ℕ) (top bottom : List ℕ) → 2 * 2 ^ (tile.n - 1) ≡ 2 ^ tile.n → count ≡ 2 ^ (tile.n - 1)
    → ((column : ℕ) → column < 2 ^ tile.n → stored_at tile.depth.bitpix top column ≡ pixel_in tile column (2 * row))
    → ((column : ℕ) → column < 2 ^ tile.n → stored_at tile.depth.bitpix bottom column ≡ pixel_in tile column (2 * row + 1))
    → row_above tile.depth.combine tile.depth.bitpix tile.depth.blank count top bottom ≡ half_row tile.depth tile.n (Some tile.numbers) row
unfolding half_row
row_above-half tile row count top bottom two ec et eb =
    fill_by_all (number_over tile.depth tile.n (Some tile.numbers) row) (row_above tile.depth.combine tile.depth.bitpix tile.depth.blank count top bottom) (2 ^ (tile.n - 1)) tile.depth.blank
    (length-row_above tile.depth.combine tile.depth.bitpix tile.depth.blank count top bottom ∙ ec)
    (λ i below. get_or-row_above tile.depth.combine tile.depth.bitpix tile.depth.blank count top bottom i tile.depth.blank (rw ec below)
    ∙ same_four tile.depth.combine tile.depth.blank _ _ _ _ _ _ _ _ (et (2 * i) (omega arith)) (eb (2 * i) (omega arith)) (et (2 * i + 1) (omega arith)) (eb (2 * i + 1) (omega arith)))

pub half_row-some : (tile : PixelTile) (depth : PixelDepth) (n row count : ℕ) (top bottom : List ℕ) → HasShape tile depth n → 1 ≤ n → count ≡ 2 ^ (n - 1)
    → ((column : ℕ) → column < 2 ^ tile.n → stored_at tile.depth.bitpix top column ≡ pixel_in tile column (2 * row))
    → ((column : ℕ) → column < 2 ^ tile.n → stored_at tile.depth.bitpix bottom column ≡ pixel_in tile column (2 * row + 1))
    → row_above depth.combine depth.bitpix depth.blank count top bottom ≡ half_row depth n (Some tile.numbers) row
half_row-some tile depth n row count top bottom shape some ec et eb =
    let some_tile : 1 ≤ tile.n = rw shape.1 some in
    let ec_tile : count ≡ 2 ^ (tile.n - 1) = rw shape.1 ec in
    rw (← shape.0, ← shape.1) (row_above-half tile row count top bottom (two_halves tile.n some_tile) ec_tile et eb)

-- the numbers of a row above are numbers
pub All-four : (P : ℤ → Type 0) (a b c d : ℤ) → P a → P b → P c → P d → All P (a ∷ b ∷ c ∷ d ∷ [])
All-four P a b c d pa pb pc pd = All-cons P a (b ∷ c ∷ d ∷ []) pa (All-cons P b (c ∷ d ∷ []) pb (All-cons P c (d ∷ []) pc (All-cons P d [] pd (All-nil P))))

pub number_in-number : (depth : PixelDepth) (n : ℕ) (numbers : List ℤ) (column row : ℕ) → IsNumber depth.bitpix depth.blank → All (IsNumber depth.bitpix) numbers → IsNumber depth.bitpix (number_in depth n (Some numbers) column row)
number_in-number depth n numbers column row blank all =
    let place : ℕ = (2 ^ n - 1 - row) * 2 ^ n + column in
    elim (cases_lt place (length numbers)) [
      | inl within ↦ all place depth.blank within
      | inr past ↦ rw (get_or_past numbers place depth.blank past) blank
    ]

pub half_row-numbers : (depth : PixelDepth) (n row : ℕ) (child : Option (List ℤ)) → IsNumber depth.bitpix depth.blank → ((column line : ℕ) → IsNumber depth.bitpix (number_in depth n child column line)) → All (IsNumber depth.bitpix) (half_row depth n child row)
unfolding half_row
half_row-numbers depth n row child blank each = λ k d below.
    let P : ℤ → Type 0 = IsNumber depth.bitpix in
    let within : k < 2 ^ (n - 1) = rw (← length-map-range_with_len (number_over depth n child row) 0 (2 ^ (n - 1))) below in
    rw (get_or-map-range_with_len (number_over depth n child row) 0 (2 ^ (n - 1)) k k d within (omega arith))
    (combined-number depth.combine depth.bitpix depth.blank _ blank
    (All-four P _ _ _ _ (each (2 * k) (2 * row)) (each (2 * k) (2 * row + 1)) (each (2 * k + 1) (2 * row)) (each (2 * k + 1) (2 * row + 1))))

-- the numbers that are combined one by one, and then stored
pub row_above-plain : (way : Combine) (bits : ℕ) (blank : ℤ) (count : ℕ) (top bottom : List ℕ) (above upper lower : List ℤ) → length above ≡ count → upper ≡ numbers_from bits (2 * count) top → lower ≡ numbers_from bits (2 * count) bottom
    → EachIndex above (λ i. slice_get above i ≡ Some (combined way blank (square_at upper lower i)))
    → above ≡ row_above way bits blank count top bottom
unfolding row_above
row_above-plain way bits blank count top bottom above upper lower long eu el each =
    let at_top : (i : ℕ) → i < 2 * count → number_at upper i ≡ stored_at bits top i = λ i below. ap (λ ns. get_or ns i (pos 0)) eu ∙ get_or-numbers_from bits (2 * count) top i (pos 0) below in
    let at_bottom : (i : ℕ) → i < 2 * count → number_at lower i ≡ stored_at bits bottom i = λ i below. ap (λ ns. get_or ns i (pos 0)) el ∙ get_or-numbers_from bits (2 * count) bottom i (pos 0) below in
    fill_by_all _ above count (pos 0) long
    (λ i below. get_or_from_slice_get above i _ (pos 0) (each i (omega arith))
    ∙ same_four way blank _ _ _ _ _ _ _ _ (at_top (2 * i) (omega arith)) (at_bottom (2 * i) (omega arith)) (at_top (2 * i + 1) (omega arith)) (at_bottom (2 * i + 1) (omega arith)))
