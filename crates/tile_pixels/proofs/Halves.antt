-- The bytes of the tile above, half by half and line by line.
use Rattle.std.proofs.Common.{arith, ◌≡◌, ℕ, ◌+◌, ◌-◌, ◌*◌, ◌^◌, ◌≤◌, List, [], ◌++◌, length, Option, sym, ap, ap₂, ◌∙◌, add-one, append_assoc, append-nil, subst}
use Rattle.std.specs.Prelude.{ℤ, All, IsTrue}
use Rattle.std.proofs.lemmas.List.FromFn.{length-map-range_with_len}
use Rattle.std.proofs.lemmas.List.Elements.{All-nil, All-append}
use Rattle.healpix_nested.specs.PlaceLaws.{square_of_side}
use Rattle.tile_pixels.proofs.TwoRows.{two_halves}
use Rattle.parent_rule.specs.Depth.{PixelDepth, is_bitpix, IsNumber}
use Rattle.tile_pixels.specs.Stored.{numbers_from, stored_bytes}
use Rattle.tile_pixels.specs.Lines.{half_row, half_rows}
use Rattle.tile_pixels.specs.Merge.{FourTiles, merged}
use Rattle.tile_pixels.specs.StoredLaws.{numbers_from-stored_bytes, stored_bytes-append}
use Rattle.tile_pixels.specs.QuadrantLaws.{halves-merged}

-- no lines
pub bytes_of_none : (bits : ℕ) (items : List ℕ) (depth : PixelDepth) (n : ℕ) (left right : Option (List ℤ)) → items ≡ items ++ stored_bytes bits (half_rows depth n left right 0)
unfolding half_rows stored_bytes
bytes_of_none bits items depth n left right = sym (append-nil items)

pub numbers_of_none : (bits : ℕ) (depth : PixelDepth) (n : ℕ) (left right : Option (List ℤ)) → All (IsNumber bits) (half_rows depth n left right 0)
unfolding half_rows
numbers_of_none bits depth n left right = All-nil (IsNumber bits)

-- one line more
half_rows-more : (depth : PixelDepth) (n : ℕ) (left right : Option (List ℤ)) (line row : ℕ) → row ≡ 2 ^ (n - 1) - 1 - line
    → half_rows depth n left right (line + 1) ≡ half_rows depth n left right line ++ (half_row depth n left row ++ half_row depth n right row)
unfolding half_rows
half_rows-more depth n left right line row e =
    ap (λ k. half_rows depth n left right k) (add-one line)
    ∙ ap (λ r. half_rows depth n left right line ++ (half_row depth n left r ++ half_row depth n right r)) (sym e)

pub bytes_of_more : (bits : ℕ) (before was mid after : List ℕ) (depth : PixelDepth) (n : ℕ) (left right : Option (List ℤ)) (line row : ℕ) → row ≡ 2 ^ (n - 1) - 1 - line
    → was ≡ before ++ stored_bytes bits (half_rows depth n left right line) → mid ≡ was ++ stored_bytes bits (half_row depth n left row) → after ≡ mid ++ stored_bytes bits (half_row depth n right row)
    → after ≡ before ++ stored_bytes bits (half_rows depth n left right (line + 1))
bytes_of_more bits before was mid after depth n left right line row e ew em ea =
    let lines : List ℤ = half_rows depth n left right line in
    let l : List ℤ = half_row depth n left row in
    let r : List ℤ = half_row depth n right row in
    let split : stored_bytes bits (half_rows depth n left right (line + 1)) ≡ stored_bytes bits lines ++ (stored_bytes bits l ++ stored_bytes bits r) =
    ap (stored_bytes bits) (half_rows-more depth n left right line row e) ∙ stored_bytes-append bits lines (l ++ r) ∙ ap (λ bs. stored_bytes bits lines ++ bs) (stored_bytes-append bits l r) in
    ea ∙ ap (λ bs. bs ++ stored_bytes bits r) (em ∙ ap (λ bs. bs ++ stored_bytes bits l) ew)
    ∙ append_assoc (before ++ stored_bytes bits lines) (stored_bytes bits l) (stored_bytes bits r)
    ∙ append_assoc before (stored_bytes bits lines) (stored_bytes bits l ++ stored_bytes bits r)
    ∙ ap (λ bs. before ++ bs) (sym split)

pub numbers_of_more : (bits : ℕ) (depth : PixelDepth) (n : ℕ) (left right : Option (List ℤ)) (line row : ℕ) → row ≡ 2 ^ (n - 1) - 1 - line
    → All (IsNumber bits) (half_rows depth n left right line) → All (IsNumber bits) (half_row depth n left row) → All (IsNumber bits) (half_row depth n right row)
    → All (IsNumber bits) (half_rows depth n left right (line + 1))
numbers_of_more bits depth n left right line row e lines l r =
    subst (λ (ns : List ℤ). All (IsNumber bits) ns) (sym (half_rows-more depth n left right line row e))
    (All-append (IsNumber bits) _ _ lines (All-append (IsNumber bits) _ _ l r))

-- ---- both halves

length-merged : (depth : PixelDepth) (n : ℕ) (tiles : FourTiles) → length (merged depth n tiles) ≡ 4 ^ n
unfolding merged
length-merged depth n tiles = length-map-range_with_len _ 0 (4 ^ n)

-- what the bytes of the two halves are
pub record Halves (depth : PixelDepth) (n : ℕ) (tiles : FourTiles) (start mid raw : List ℕ) : Type 0 where
  pub least_n : 1 ≤ n
  pub greatest_n : n ≤ 9
  pub known : IsTrue (is_bitpix depth.bitpix)
  pub start_is : start ≡ []
  pub lower : mid ≡ start ++ stored_bytes depth.bitpix (half_rows depth n tiles.second tiles.fourth (2 ^ (n - 1)))
  pub upper : raw ≡ mid ++ stored_bytes depth.bitpix (half_rows depth n tiles.first tiles.third (2 ^ (n - 1)))
  pub lower_numbers : All (IsNumber depth.bitpix) (half_rows depth n tiles.second tiles.fourth (2 ^ (n - 1)))
  pub upper_numbers : All (IsNumber depth.bitpix) (half_rows depth n tiles.first tiles.third (2 ^ (n - 1)))

raw-merged : (depth : PixelDepth) (n : ℕ) (tiles : FourTiles) (start mid raw : List ℕ) → Halves depth n tiles start mid raw → raw ≡ stored_bytes depth.bitpix (merged depth n tiles)
raw-merged depth n tiles start mid raw h =
    h.upper
    ∙ ap (λ bs. bs ++ stored_bytes depth.bitpix (half_rows depth n tiles.first tiles.third (2 ^ (n - 1)))) (h.lower ∙ ap (λ bs. bs ++ stored_bytes depth.bitpix (half_rows depth n tiles.second tiles.fourth (2 ^ (n - 1)))) h.start_is)
    ∙ sym (stored_bytes-append depth.bitpix (half_rows depth n tiles.second tiles.fourth (2 ^ (n - 1))) (half_rows depth n tiles.first tiles.third (2 ^ (n - 1))))
    ∙ ap (stored_bytes depth.bitpix) (halves-merged depth n tiles h.least_n h.greatest_n)

numbers-merged : (depth : PixelDepth) (n : ℕ) (tiles : FourTiles) (start mid raw : List ℕ) → Halves depth n tiles start mid raw → All (IsNumber depth.bitpix) (merged depth n tiles)
numbers-merged depth n tiles start mid raw h =
    subst (λ (ns : List ℤ). All (IsNumber depth.bitpix) ns) (halves-merged depth n tiles h.least_n h.greatest_n)
    (All-append (IsNumber depth.bitpix) _ _ h.lower_numbers h.upper_numbers)

-- how many bytes two halves are
pub length_of_halves : (n width start mid all : ℕ) → 1 ≤ n → start ≡ 0 → mid ≡ start + 2 ^ (n - 1) * (2 * (2 ^ (n - 1) * width)) → all ≡ mid + 2 ^ (n - 1) * (2 * (2 ^ (n - 1) * width)) → all ≡ 4 ^ n * width
length_of_halves n width start mid all some none lower upper =
    let square : 2 ^ n * 2 ^ n ≡ 4 ^ n = square_of_side n in
    let two : 2 * 2 ^ (n - 1) ≡ 2 ^ n = two_halves n some in
    rw (← square, ← two) (omega arith)

-- the numbers that they hold
pub numbers_from-raw : (depth : PixelDepth) (n : ℕ) (tiles : FourTiles) (start mid raw : List ℕ) → Halves depth n tiles start mid raw → numbers_from depth.bitpix (4 ^ n) raw ≡ merged depth n tiles
numbers_from-raw depth n tiles start mid raw h =
    ap₂ (λ (k : ℕ) (bs : List ℕ). numbers_from depth.bitpix k bs) (sym (length-merged depth n tiles)) (raw-merged depth n tiles start mid raw h)
    ∙ numbers_from-stored_bytes depth.bitpix (merged depth n tiles) h.known (numbers-merged depth n tiles start mid raw h)
