-- Squares of stored numbers.
use Rattle.std.proofs.Common.{◌≡◌, ℕ, ◌+◌, ◌-◌, ◌*◌, ◌^◌, ◌<◌, ◌≤◌, List, ℤ, get_or, length, take, drop, ◌++◌, sym, ap, subst, ◌∙◌, arith}
use Rattle.std.proofs.lemmas.Nat.{mul-add-lt, pow_pos}
use Rattle.std.proofs.lemmas.List.{take_at}
use Rattle.parent_rule.specs.Depth.{PixelDepth}
use Rattle.allsky_mosaic.specs.Mosaic.{cell_levels, side_of}
use Rattle.healpix_nested.specs.PlaceLaws.{square_of_side}
use Rattle.pyramid_model.specs.Shape.{PyramidShape, LeafMap}
use Rattle.tile_pixels.specs.Stored.{numbers_from, stored_at}
use Rattle.tile_pixels.specs.StoredLaws.{get_or-numbers_from}
use Rattle.tile_pixels.specs.Tile.{PixelTile, HasShape, pixel_in}
use Rattle.allsky_mosaic.specs.Cells.{square_number, ShowsSquare, band_number}

-- the pixels of a tile, in its stored bytes
pub raw_number : (tile : PixelTile) (raw : List ℕ) (column line : ℕ) → numbers_from tile.depth.bitpix (4 ^ tile.n) raw ≡ tile.numbers → column < 2 ^ tile.n → line < 2 ^ tile.n
    → square_number tile.depth.bitpix (2 ^ tile.n) raw column line ≡ pixel_in tile column line
raw_number tile raw column line is column_in line_in =
    let side : ℕ = 2 ^ tile.n in
    let some : 0 < side = pow_pos tile.n in
    let square : side * side ≡ 4 ^ tile.n = square_of_side tile.n in
    let place : (side - 1 - line) * side + column < side * side = mul-add-lt (side - 1 - line) side column side (omega arith) column_in in
    sym (get_or-numbers_from tile.depth.bitpix (4 ^ tile.n) raw ((side - 1 - line) * side + column) tile.depth.blank (omega arith))
    ∙ ap (λ (vs : List ℤ). get_or vs ((side - 1 - line) * side + column) tile.depth.blank) is

-- the stored bytes of a tile show what it shows
pub raw_shows : (depth : PixelDepth) (n : ℕ) (tile : PixelTile) (raw : List ℕ) → HasShape tile depth n → numbers_from tile.depth.bitpix (4 ^ tile.n) raw ≡ tile.numbers
    → (shape : PyramidShape) (leaves : LeafMap) (cell : ℕ) → ShowsSquare shape leaves cell n (pixel_in tile) → ShowsSquare shape leaves cell n (square_number depth.bitpix (2 ^ n) raw)
raw_shows depth n tile raw has is shape leaves cell shows column line column_in line_in =
    let number : square_number tile.depth.bitpix (2 ^ tile.n) raw column line ≡ pixel_in tile column line =
    raw_number tile raw column line is (subst (λ (k : ℕ). column < 2 ^ k) (sym has.1) column_in) (subst (λ (k : ℕ). line < 2 ^ k) (sym has.1) line_in) in
    ap (λ (d : PixelDepth). square_number d.bitpix (2 ^ n) raw column line) (sym has.0) ∙ ap (λ (k : ℕ). square_number tile.depth.bitpix (2 ^ k) raw column line) (sym has.1)
    ∙ number ∙ shows column line column_in line_in

-- a square that is written into a band shows what it showed
pub written_shows : (shape : PyramidShape) (leaves : LeafMap) (cell levels bits side col : ℕ) (square band : List ℕ) → side ≡ 2 ^ levels
    → ((t column : ℕ) → t < side → column < side → band_number bits side band col t column ≡ stored_at bits square (t * side + column))
    → ShowsSquare shape leaves cell levels (square_number bits side square)
    → ShowsSquare shape leaves cell levels (λ column line. band_number bits side band col (side - 1 - line) column)
written_shows shape leaves cell levels bits side col square band side_is written shows column line column_in line_in =
    written (side - 1 - line) column (omega arith) (omega arith) ∙ shows column line column_in line_in

-- what a list holds after a part of it was given out and came back
pub given_back : (len : ℕ) (news olds : List ℕ) → length news ≡ len → take len (news ++ drop (length news) olds) ≡ news
given_back len news olds h = take_at news (drop (length news) olds) len h

-- a tile of at most 64 columns that is written into a band as it is stored
pub raw_shown : (shape : PyramidShape) (leaves : LeafMap) (cell n col side : ℕ) (depth : PixelDepth) (tile : PixelTile) (raw band : List ℕ) → HasShape tile depth n → n ≤ 6 → side ≡ side_of n
    → numbers_from tile.depth.bitpix (4 ^ tile.n) raw ≡ tile.numbers
    → ((t column : ℕ) → t < side → column < side → band_number depth.bitpix side band col t column ≡ stored_at depth.bitpix raw (t * side + column))
    → ShowsSquare shape leaves cell n (pixel_in tile)
    → ShowsSquare shape leaves cell (cell_levels n) (λ column line. band_number depth.bitpix (side_of n) band col (side_of n - 1 - line) column)
raw_shown shape leaves cell n col side depth tile raw band has small side_is is written shows column line column_in line_in =
    let levels : cell_levels n ≡ n = omega arith in
    let side_n : side_of n ≡ 2 ^ n = ap (λ (k : ℕ). 2 ^ k) levels in
    let tile_side : 2 ^ tile.n ≡ side_of n = ap (λ (k : ℕ). 2 ^ k) has.1 ∙ sym side_n in
    let P : ℕ → Type 0 = λ k. ShowsSquare shape leaves cell k (pixel_in tile) in
    let shown = subst P (sym levels) shows column line column_in line_in in
    let at : band_number depth.bitpix (side_of n) band col (side_of n - 1 - line) column ≡ stored_at depth.bitpix raw ((side_of n - 1 - line) * side_of n + column) =
    rw (← side_is) (written (side - 1 - line) column (omega arith) (omega arith)) in
    let number : square_number tile.depth.bitpix (2 ^ tile.n) raw column line ≡ pixel_in tile column line = raw_number tile raw column line is (omega arith) (omega arith) in
    at ∙ ap (λ (d : PixelDepth). stored_at d.bitpix raw ((side_of n - 1 - line) * side_of n + column)) (sym has.0)
    ∙ ap (λ (k : ℕ). stored_at tile.depth.bitpix raw ((k - 1 - line) * k + column)) (sym tile_side) ∙ number ∙ shown

-- a larger one, from its square of 64
pub halved_shown : (shape : PyramidShape) (leaves : LeafMap) (cell n col bits : ℕ) (square band : List ℕ) → 7 ≤ n
    → ((t column : ℕ) → t < 64 → column < 64 → band_number bits 64 band col t column ≡ stored_at bits square (t * 64 + column))
    → ShowsSquare shape leaves cell 6 (square_number bits 64 square)
    → ShowsSquare shape leaves cell (cell_levels n) (λ column line. band_number bits (side_of n) band col (side_of n - 1 - line) column)
halved_shown shape leaves cell n col bits square band large written shows =
    let levels : 6 ≡ cell_levels n = omega arith in
    let P : ℕ → Type 0 = λ k. ShowsSquare shape leaves cell k (λ column line. band_number bits (2 ^ k) band col (2 ^ k - 1 - line) column) in
    subst P levels (λ column line column_in line_in. written (64 - 1 - line) column (omega arith) column_in ∙ shows column line column_in line_in)
