-- A tile's numbers, and where they stand in its bytes.
use Rattle.std.proofs.Common.{◌≡◌, ℕ, ◌+◌, ◌-◌, ◌*◌, ◌/◌, ◌^◌, ◌<◌, ◌≤◌, List, length, take, drop, get_or, All, IsTrue, refl, sym, ap, ◌∙◌, arith, ℤ, pos}
use Rattle.std.proofs.Math.Nat.{mul_assoc, pow-le-pow_right}
use Rattle.std.proofs.lemmas.Nat.{mul-pow, row_fits}
use Rattle.parent_rule.specs.Depth.{is_bitpix, PixelDepth}
use Rattle.tile_pixels.specs.Stored.{number_from, numbers_from, stored_bytes}
use Rattle.tile_pixels.specs.StoredLaws.{AreBytes-from_all, get_or-numbers_from, length-numbers_from, number_from-part, numbers_from-numbers, stored_bytes-numbers_from}
use Rattle.tile_pixels.specs.Tile.{IsTile}

-- 4^n numbers are 2^n lines of 2^n
pub four_pow : (n : ℕ) → 4 ^ n ≡ 2 ^ n * 2 ^ n
four_pow n = mul-pow 2 2 n

-- a tile has at most 512 columns
pub side_at_most : (n : ℕ) → n ≤ 9 → 2 ^ n ≤ 512
side_at_most n h = pow-le-pow_right (omega arith) h

pub IsTile-from_bytes : (depth : PixelDepth) (n : ℕ) (bytes : List ℕ) → 1 ≤ n → n ≤ 9 → IsTrue (is_bitpix depth.bitpix) → All (λ b. b < 256) bytes → IsTile depth n (numbers_from depth.bitpix (4 ^ n) bytes)
IsTile-from_bytes depth n bytes least greatest known fits = record {
  least_n = least;
  greatest_n = greatest;
  count = length-numbers_from depth.bitpix (4 ^ n) bytes;
  range = numbers_from-numbers depth.bitpix (4 ^ n) bytes known (AreBytes-from_all bytes fits);
}

pub bytes_back : (bits count : ℕ) (bytes : List ℕ) → IsTrue (is_bitpix bits) → length bytes ≡ count * (bits / 8) → All (λ b. b < 256) bytes → stored_bytes bits (numbers_from bits count bytes) ≡ bytes
bytes_back bits count bytes known len fits = stored_bytes-numbers_from bits count bytes known len (AreBytes-from_all bytes fits)

-- a line ends within the tile
pub line_fits : (n line side width all : ℕ) → side ≡ 2 ^ n → line < 2 ^ n → all ≡ 4 ^ n * width → (side - 1 - line) * (side * width) + side * width ≤ all
line_fits n line side width all is within len =
    let s : ℕ = side in
    let lines : (s - 1 - line) * (s * width) + s * width ≤ s * (s * width) = row_fits (s - 1 - line) (s * width) s (s * width) (omega arith) (omega arith) in
    let square : 4 ^ n * width ≡ s * (s * width) = ap (λ (k : ℕ). k * width) (four_pow n ∙ rw (← is) refl) ∙ mul_assoc s s width in
    omega arith

-- the number in a column of a line
pub line_number : (bits n line side width column : ℕ) (bytes : List ℕ) (blank : ℤ) → IsTrue (is_bitpix bits) → 8 * width ≡ bits → length bytes ≡ 4 ^ n * (bits / 8) → side ≡ 2 ^ n → line < 2 ^ n → column < 2 ^ n
    → number_from bits (drop (column * (bits / 8)) (take ((side - 1 - line) * (side * width) + side * width - (side - 1 - line) * (side * width)) (drop ((side - 1 - line) * (side * width)) bytes)))
    ≡ get_or (numbers_from bits (4 ^ n) bytes) ((2 ^ n - 1 - line) * 2 ^ n + column) blank
line_number bits n line side width column bytes blank known wide len is line_in column_in =
    let w : width ≡ bits / 8 = omega arith in
    let above : ℕ = side - 1 - line in
    let start : above * (side * width) ≡ (above * side) * (bits / 8) = sym (mul_assoc above side width) ∙ ap (λ (k : ℕ). above * side * k) w in
    let long : above * (side * width) + side * width - above * (side * width) ≡ side * (bits / 8) = (let e : above * (side * width) + side * width - above * (side * width) ≡ side * width = omega arith in e) ∙ ap (λ (k : ℕ). side * k) w in
    let square : 4 ^ n ≡ side * side = four_pow n ∙ rw (← is) refl in
    let room : above * side + side ≤ side * side = row_fits above side side side (omega arith) (omega arith) in
    let place : above * side + column ≡ (2 ^ n - 1 - line) * 2 ^ n + column = rw (← is) refl in
    let within : above * side + column < 4 ^ n = omega arith in
    ap (λ (k : ℕ). number_from bits (drop (column * (bits / 8)) (take k (drop (above * (side * width)) bytes)))) long
    ∙ ap (λ (k : ℕ). number_from bits (drop (column * (bits / 8)) (take (side * (bits / 8)) (drop k bytes)))) start
    ∙ number_from-part bits side (above * side) (4 ^ n) column bytes known (omega arith) (omega arith) len
    ∙ sym (get_or-numbers_from bits (4 ^ n) bytes (above * side + column) blank within)
    ∙ ap (λ (k : ℕ). get_or (numbers_from bits (4 ^ n) bytes) k blank) place

-- the one number that is read in a column of a line
pub one_number : (bits column columns width : ℕ) (line : List ℕ) (numbers : List ℤ) → IsTrue (is_bitpix bits) → 8 * width ≡ bits → length line ≡ columns * (bits / 8) → column < columns
    → numbers ≡ numbers_from bits 1 (take (column * width + width - column * width) (drop (column * width) line))
    → get_or numbers 0 (pos 0) ≡ number_from bits (drop (column * (bits / 8)) line)
one_number bits column columns width line numbers known wide len within is =
    let w : width ≡ bits / 8 = omega arith in
    let start : column * width ≡ column * (bits / 8) = ap (λ (k : ℕ). column * k) w in
    let long : column * width + width - column * width ≡ 1 * (bits / 8) = omega arith in
    let zero_at : 0 * (bits / 8) ≡ 0 = omega arith in
    let place : column + 0 ≡ column = omega arith in
    ap (λ (vs : List ℤ). get_or vs 0 (pos 0)) is
    ∙ get_or-numbers_from bits 1 (take (column * width + width - column * width) (drop (column * width) line)) 0 (pos 0) (omega arith)
    ∙ ap (λ (k : ℕ). number_from bits (drop (0 * (bits / 8)) (take k (drop (column * width) line)))) long
    ∙ ap (λ (k : ℕ). number_from bits (drop (0 * (bits / 8)) (take (1 * (bits / 8)) (drop k line)))) start
    ∙ number_from-part bits 1 column columns 0 line known (omega arith) (omega arith) len
    ∙ ap (λ (k : ℕ). number_from bits (drop (k * (bits / 8)) line)) place
