-- A line of a quadrant of a tile that was merged before.
use Rattle.std.proofs.Common.{◌≡◌, ℕ, ◌+◌, ◌-◌, ◌*◌, ◌/◌, ◌%◌, ◌^◌, ◌<◌, ◌≤◌, List, length, take, drop, get_or, Option, sym, ap, ap₂, ◌∙◌, subst, arith, zero, suc, pow-suc, IsTrue, Bor, subst₂, ◌++◌, Result, Ok, Err}
use Rattle.std.specs.Prelude.{ℤ, All, IfOk, if◌then◌else◌, is_ok}
use Rattle.std.specs.declared.alloc.AllocError.{AllocError}
use Rattle.std.proofs.lemmas.Nat.{mul-add-lt}
use Rattle.std.proofs.lemmas.List.FromFn.{get_or-map-range_with_len}
use Rattle.std.proofs.Math.Nat.{add-mul, mul_assoc, mul-le-mul_right}
use Rattle.std.proofs.lemmas.List.{length-drop, length-take-le}
use Rattle.healpix_nested.specs.Place.{stored_z}
use Rattle.healpix_nested.specs.PlaceLaws.{square_of_side}
use Rattle.parent_rule.specs.Depth.{PixelDepth, is_bitpix, IsNumber}
use Rattle.tile_pixels.specs.Lines.{number_over, half_row}
use Rattle.tile_pixels.specs.Merge.{FourTiles, child, number_above, merged, ShowsChildren}
use Rattle.tile_pixels.specs.MergeLaws.{merged-pixels}
use Rattle.pyramid_model.specs.Shape.{PyramidShape, LeafMap}
use Rattle.pyramid_model.specs.Tile.{pixels}
use Rattle.tile_pixels.proofs.Lines.{half_of}
use Rattle.tile_pixels.proofs.TwoRows.{two_halves}
use Rattle.tile_pixels.specs.declared.quadrant.Quadrants.{Quadrants}
use Rattle.tile_pixels.specs.QuadrantLaws.{map_shift, stored_z-line, number_above-quadrant}
use Rattle.tile_pixels.specs.declared.quadrant.Quadrant.{Quadrant}
use Rattle.tile_pixels.specs.declared.quadrant.Quadrant.TheVariants.{Kept}
use Rattle.tile_pixels.specs.Quadrants.{WasMerged, IsOver, AreOver, Fits}
use Rattle.tile_pixels.specs.Stored.{number_from, numbers_from, stored_bytes}
use Rattle.tile_pixels.specs.StoredLaws.{AreBytes, number_from-part, numbers_from-numbers, stored_bytes-numbers_from, AreBytes-drop, AreBytes-take}
use Rattle.tile_pixels.specs.Tile.{PixelTile, pixel_in}

-- where a number of a quadrant stands in a tile that was merged
merged_number : (depth : PixelDepth) (n m : ℕ) (four : FourTiles) (cb rb i line column row : ℕ) (d : ℤ) → n ≡ suc m → m ≤ 8 → cb < 2 → rb < 2 → i ≡ 2 * cb + rb → column < 2 ^ m → row < 2 ^ m → line + (rb * 2 ^ m + row) + 1 ≡ 2 ^ n
    → get_or (merged depth n four) (line * 2 ^ n + (cb * 2 ^ m + column)) d ≡ number_over depth n (child four i) row column
unfolding merged
merged_number depth n m four cb rb i line column row d e hm hcb hrb ei hc hr el =
    let two : 2 ^ n ≡ 2 ^ m * 2 = ap (λ k. 2 ^ k) e ∙ pow-suc 2 m in
    let bit : cb ≤ 1 = omega arith in
    let wide : cb * 2 ^ m + column < 2 ^ n = grind (arith, two) in
    let within : line * 2 ^ n + (cb * 2 ^ m + column) < 2 ^ n * 2 ^ n = mul-add-lt line (2 ^ n) (cb * 2 ^ m + column) (2 ^ n) (omega arith) wide in
    let square : 2 ^ n * 2 ^ n ≡ 4 ^ n = square_of_side n in
    let s : ℕ = line * 2 ^ n + (cb * 2 ^ m + column) in
    get_or-map-range_with_len (λ s. number_above depth n four (stored_z n s)) 0 (4 ^ n) s s d (omega arith) (omega arith)
    ∙ ap (λ z. number_above depth n four z) (stored_z-line n m cb rb line column row e hcb hrb hc hr el)
    ∙ number_above-quadrant depth n m four cb rb i column row e hm hcb hrb hc hr ei

-- what the bytes of a line of the quadrant are
pub record IsLine (depth : PixelDepth) (n row : ℕ) (of : Option (List ℤ)) (bytes : List ℕ) : Type 0 where
  pub bytes_are : bytes ≡ stored_bytes depth.bitpix (half_row depth n of row)
  pub range : All (IsNumber depth.bitpix) (half_row depth n of row)

numbers_are : (depth : PixelDepth) (n row : ℕ) (of : Option (List ℤ)) (bytes : List ℕ) → ((column : ℕ) → column < 2 ^ (n - 1) → number_from depth.bitpix (drop (column * (depth.bitpix / 8)) bytes) ≡ number_over depth n of row column)
    → numbers_from depth.bitpix (2 ^ (n - 1)) bytes ≡ half_row depth n of row
unfolding numbers_from half_row
numbers_are depth n row of bytes each =
    map_shift (λ s. number_from depth.bitpix (drop (s * (depth.bitpix / 8)) bytes)) (number_over depth n of row) (2 ^ (n - 1)) 0 0
    (λ i h. let z : 0 + i ≡ i = omega arith in rw z (each i h))

line_of_numbers : (depth : PixelDepth) (n row : ℕ) (of : Option (List ℤ)) (bytes : List ℕ) → IsTrue (is_bitpix depth.bitpix) → AreBytes bytes → length bytes ≡ 2 ^ (n - 1) * (depth.bitpix / 8)
    → numbers_from depth.bitpix (2 ^ (n - 1)) bytes ≡ half_row depth n of row → IsLine depth n row of bytes
line_of_numbers depth n row of bytes known are long is = record {
  bytes_are = sym (ap (stored_bytes depth.bitpix) (sym is) ∙ stored_bytes-numbers_from depth.bitpix (2 ^ (n - 1)) bytes known long are);
  range = subst (λ (ns : List ℤ). All (IsNumber depth.bitpix) ns) is (numbers_from-numbers depth.bitpix (2 ^ (n - 1)) bytes known are);
}

-- the line of a quadrant is part of one of the tile
part_length : (n i half bits : ℕ) (line : List ℕ) → 1 ≤ n → i < 4 → half ≡ 2 ^ (n - 1) → length line ≡ 2 ^ n * (bits / 8)
    → length (take (half * (bits / 8)) (drop (i / 2 * half * (bits / 8)) line)) ≡ 2 ^ (n - 1) * (bits / 8)
part_length n i half bits line some hi eh long =
    let two : 2 * 2 ^ (n - 1) ≡ 2 ^ n = two_halves n some in
    let left : i / 2 ≤ 1 = omega arith in
    let edge : i / 2 * half ≤ 1 * half = mul-le-mul_right half left in
    let room : i / 2 * half + half ≤ 2 ^ n = omega arith in
    let fits : (i / 2 * half + half) * (bits / 8) ≤ 2 ^ n * (bits / 8) = mul-le-mul_right (bits / 8) room in
    let parts : (i / 2 * half + half) * (bits / 8) ≡ i / 2 * half * (bits / 8) + half * (bits / 8) = add-mul (i / 2 * half) half (bits / 8) in
    let rest : length (drop (i / 2 * half * (bits / 8)) line) ≡ 2 ^ n * (bits / 8) - i / 2 * half * (bits / 8) = length-drop (i / 2 * half * (bits / 8)) line ∙ ap (λ (k : ℕ). k - i / 2 * half * (bits / 8)) long in
    length-take-le (half * (bits / 8)) (drop (i / 2 * half * (bits / 8)) line) (omega arith) ∙ ap (λ (h : ℕ). h * (bits / 8)) eh

part_numbers : (tile : PixelTile) (i row half : ℕ) (line : List ℕ) (of : Option (List ℤ)) → IsTrue (is_bitpix tile.depth.bitpix) → 1 ≤ tile.n → tile.n ≤ 9 → i < 4 → row < 2 ^ (tile.n - 1) → half ≡ 2 ^ (tile.n - 1)
    → length line ≡ 2 ^ tile.n * (tile.depth.bitpix / 8)
    → ((column : ℕ) → column < 2 ^ tile.n → number_from tile.depth.bitpix (drop (column * (tile.depth.bitpix / 8)) line) ≡ pixel_in tile column (i % 2 * half + row))
    → WasMerged tile.depth tile.n tile.numbers i of
    → (column : ℕ) → column < 2 ^ (tile.n - 1) → number_from tile.depth.bitpix (drop (column * (tile.depth.bitpix / 8)) (take (half * (tile.depth.bitpix / 8)) (drop (i / 2 * half * (tile.depth.bitpix / 8)) line))) ≡ number_over tile.depth tile.n of row column
part_numbers tile i row half line of known some most hi hr eh long each was column hc =
    let bits : ℕ = tile.depth.bitpix in
    let n : ℕ = tile.n in
    let m : ℕ = n - 1 in
    let e : n ≡ suc m = omega arith in
    let two : 2 * 2 ^ m ≡ 2 ^ n = two_halves n some in
    let left : i / 2 ≤ 1 = omega arith in
    let lower : i % 2 ≤ 1 = omega arith in
    let edge : i / 2 * half ≤ 1 * half = mul-le-mul_right half left in
    let down : i % 2 * half ≤ 1 * half = mul-le-mul_right half lower in
    let at : ℕ = i / 2 * half in
    let room : at + half ≤ 2 ^ n = omega arith in
    let within : at + column < 2 ^ n = omega arith in
    let below : column < half = omega arith in
    let stands : (2 ^ n - 1 - (i % 2 * half + row)) + (i % 2 * 2 ^ m + row) + 1 ≡ 2 ^ n = rw (← eh) (omega arith) in
    let place : (2 ^ n - 1 - (i % 2 * half + row)) * 2 ^ n + (i / 2 * half + column) ≡ (2 ^ n - 1 - (i % 2 * half + row)) * 2 ^ n + (i / 2 * 2 ^ m + column) = ap (λ (h : ℕ). (2 ^ n - 1 - (i % 2 * half + row)) * 2 ^ n + (i / 2 * h + column)) eh in
    number_from-part bits half at (2 ^ n) column line known below room long
    ∙ each (at + column) within
    ∙ ap (λ (ns : List ℤ). get_or ns ((2 ^ n - 1 - (i % 2 * half + row)) * 2 ^ n + (i / 2 * half + column)) tile.depth.blank) was.merged_of
    ∙ ap (λ (k : ℕ). get_or (merged tile.depth n was.four) k tile.depth.blank) place
    ∙ merged_number tile.depth n m was.four (i / 2) (i % 2) i (2 ^ n - 1 - (i % 2 * half + row)) column row tile.depth.blank e (omega arith) (omega arith) (omega arith) (omega arith) hc hr stands
    ∙ ap (λ (o : Option (List ℤ)). number_over tile.depth n o row column) was.child_is

-- where it stands
part_is : (i side width bits : ℕ) (line : List ℕ) → 8 * width ≡ bits → take (i / 2 * (side / 2 * width) + side / 2 * width - i / 2 * (side / 2 * width)) (drop (i / 2 * (side / 2 * width)) line)
    ≡ take (side / 2 * (bits / 8)) (drop (i / 2 * (side / 2) * (bits / 8)) line)
part_is i side width bits line ew =
    let w : width ≡ bits / 8 = omega arith in
    let count : i / 2 * (side / 2 * width) + side / 2 * width - i / 2 * (side / 2 * width) ≡ side / 2 * (bits / 8) = (let e : i / 2 * (side / 2 * width) + side / 2 * width - i / 2 * (side / 2 * width) ≡ side / 2 * width = omega arith in e) ∙ ap (λ (k : ℕ). side / 2 * k) w in
    let start : i / 2 * (side / 2 * width) ≡ i / 2 * (side / 2) * (bits / 8) = sym (mul_assoc (i / 2) (side / 2) width) ∙ ap (λ (k : ℕ). i / 2 * (side / 2) * k) w in
    ap₂ (λ (c : ℕ) (s : ℕ). take c (drop s line)) count start

pub quadrant_length : (n i side width bits : ℕ) (line : List ℕ) → 1 ≤ n → i < 4 → side ≡ 2 ^ n → 8 * width ≡ bits → length line ≡ 2 ^ n * (bits / 8)
    → length (take (i / 2 * (side / 2 * width) + side / 2 * width - i / 2 * (side / 2 * width)) (drop (i / 2 * (side / 2 * width)) line)) ≡ 2 ^ (n - 1) * (bits / 8)
quadrant_length n i side width bits line some hi es ew long =
    ap (λ (bs : List ℕ). length bs) (part_is i side width bits line ew) ∙ part_length n i (side / 2) bits line some hi (half_of n side some es) long

pub quadrant_line : (tile : PixelTile) (i row side width : ℕ) (line : List ℕ) (of : Option (List ℤ)) → IsTrue (is_bitpix tile.depth.bitpix) → 1 ≤ tile.n → tile.n ≤ 9 → i < 4 → row < 2 ^ (tile.n - 1)
    → side ≡ 2 ^ tile.n → 8 * width ≡ tile.depth.bitpix → AreBytes line → length line ≡ 2 ^ tile.n * (tile.depth.bitpix / 8)
    → ((column : ℕ) → column < 2 ^ tile.n → number_from tile.depth.bitpix (drop (column * (tile.depth.bitpix / 8)) line) ≡ pixel_in tile column (i % 2 * (side / 2) + row))
    → WasMerged tile.depth tile.n tile.numbers i of
    → IsLine tile.depth tile.n row of (take (i / 2 * (side / 2 * width) + side / 2 * width - i / 2 * (side / 2 * width)) (drop (i / 2 * (side / 2 * width)) line))
quadrant_line tile i row side width line of known some most hi hr es ew are long each was =
    let half : ℕ = side / 2 in
    let w : ℕ = tile.depth.bitpix / 8 in
    let eh : half ≡ 2 ^ (tile.n - 1) = half_of tile.n side some es in
    let part : List ℕ = take (half * w) (drop (i / 2 * half * w) line) in
    let bytes : AreBytes part = AreBytes-take (half * w) (drop (i / 2 * half * w) line) (AreBytes-drop (i / 2 * half * w) line are) in
    subst (IsLine tile.depth tile.n row of) (sym (part_is i side width tile.depth.bitpix line ew))
    (line_of_numbers tile.depth tile.n row of part known bytes (part_length tile.n i half tile.depth.bitpix line some hi eh long)
    (numbers_are tile.depth tile.n row of part (part_numbers tile i row half line of known some most hi hr eh long each was)))

-- the line stands within the tile
pub row_within : (n i row side : ℕ) → side ≡ 2 ^ n → row < 2 ^ (n - 1) → i % 2 * (side / 2) + row < side
row_within zero i row side is hr = let one : side ≡ 1 = is in let half : side / 2 ≡ 0 = omega arith in rw half (omega arith)
row_within (suc m) i row side is hr =
    let less : suc m - 1 ≡ m = omega arith in
    let lower : row < 2 ^ m = subst (λ (k : ℕ). row < 2 ^ k) less hr in
    let two : side ≡ 2 ^ m * 2 = is ∙ pow-suc 2 m in
    let half : side / 2 ≡ 2 ^ m = omega arith in
    let bit : i % 2 ≤ 1 = omega arith in
    let edge : i % 2 * 2 ^ m ≤ 1 * 2 ^ m = mul-le-mul_right (2 ^ m) bit in
    rw half (omega arith)

-- ---- the line as it is appended

-- a kept quadrant
pub kept_bytes : (depth : PixelDepth) (n i row : ℕ) (tile : Bor PixelTile) (quadrant : Quadrant) (line : List ℕ) → quadrant ≡ Kept tile i → Fits depth n quadrant
    → ((child : Option (List ℤ)) → WasMerged tile.now.depth tile.now.n tile.now.numbers i child → line ≡ stored_bytes tile.now.depth.bitpix (half_row tile.now.depth tile.now.n child row))
    → (child : Option (List ℤ)) → IsOver depth n child quadrant → line ≡ stored_bytes depth.bitpix (half_row depth n child row)
kept_bytes depth n i row tile quadrant line is fits each child over =
    let shape : Fits depth n (Kept tile i) = subst (Fits depth n) is fits in
    let was : WasMerged depth n tile.now.numbers i child = subst (IsOver depth n child) is over in
    subst₂ (λ (d : PixelDepth) (k : ℕ). WasMerged d k tile.now.numbers i child → line ≡ stored_bytes d.bitpix (half_row d k child row)) shape.0.0 shape.0.1 (each child) was

pub kept_range : (depth : PixelDepth) (n i row : ℕ) (tile : Bor PixelTile) (quadrant : Quadrant) → quadrant ≡ Kept tile i → Fits depth n quadrant
    → ((child : Option (List ℤ)) → WasMerged tile.now.depth tile.now.n tile.now.numbers i child → All (IsNumber tile.now.depth.bitpix) (half_row tile.now.depth tile.now.n child row))
    → (child : Option (List ℤ)) → IsOver depth n child quadrant → All (IsNumber depth.bitpix) (half_row depth n child row)
kept_range depth n i row tile quadrant is fits each child over =
    let shape : Fits depth n (Kept tile i) = subst (Fits depth n) is fits in
    let was : WasMerged depth n tile.now.numbers i child = subst (IsOver depth n child) is over in
    subst₂ (λ (d : PixelDepth) (k : ℕ). WasMerged d k tile.now.numbers i child → All (IsNumber d.bitpix) (half_row d k child row)) shape.0.0 shape.0.1 (each child) was

pub kept_length : (depth : PixelDepth) (n i : ℕ) (tile : Bor PixelTile) (quadrant : Quadrant) (line : List ℕ) → quadrant ≡ Kept tile i → Fits depth n quadrant
    → length line ≡ 2 ^ (tile.now.n - 1) * (tile.now.depth.bitpix / 8) → length line ≡ 2 ^ (n - 1) * (depth.bitpix / 8)
kept_length depth n i tile quadrant line is fits long =
    let shape : Fits depth n (Kept tile i) = subst (Fits depth n) is fits in
    subst₂ (λ (d : PixelDepth) (k : ℕ). length line ≡ 2 ^ (k - 1) * (d.bitpix / 8)) shape.0.0 shape.0.1 long

-- what holds of the bytes with a line appended
pub appended : (r : Result (Unit {0}) AllocError) (new old line : List ℕ) (P : List ℕ → Type 0) → new ≡ (if is_ok r then old ++ line else old) → P (old ++ line) → IfOk r (λ _. P new)
appended (Ok x) new old line P is holds = subst P (sym is) holds
appended (Err e) new old line P is holds = tt

-- ---- a tile of which no quadrant is kept

pub whole : (r : Result PixelTile AllocError) (depth : PixelDepth) (n : ℕ) (tiles : FourTiles) (quadrants : Quadrants) → AreOver depth n tiles quadrants
    → IfOk r (λ tile. (four : FourTiles) → AreOver depth n four quadrants → tile ≡ record { depth = depth; n = n; numbers = merged depth n four })
    → IfOk r (λ tile. tile ≡ record { depth = depth; n = n; numbers = merged depth n tiles })
whole (Ok tile) depth n tiles quadrants over each = each tiles over
whole (Err e) depth n tiles quadrants over each = tt

pub whole_pixels : (r : Result PixelTile AllocError) (depth : PixelDepth) (n : ℕ) (tiles : FourTiles) (shape : PyramidShape) (leaves : LeafMap) (k p : ℕ) → n ≤ 9 → shape.depth ≡ depth → shape.n ≡ n → k < shape.top → ShowsChildren shape leaves k p tiles
    → IfOk r (λ tile. tile ≡ record { depth = depth; n = n; numbers = merged depth n tiles }) → IfOk r (λ tile. tile.numbers ≡ pixels shape leaves k p)
whole_pixels (Ok tile) depth n tiles shape leaves k p small ed en above shows is = ap (λ (t : PixelTile). t.numbers) is ∙ merged-pixels shape leaves k p tiles depth n small ed en above shows
whole_pixels (Err e) depth n tiles shape leaves k p small ed en above shows is = tt
