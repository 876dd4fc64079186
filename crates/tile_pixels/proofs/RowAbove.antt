-- The row above two rows of stored numbers, number by number.
use Rattle.std.proofs.Common.{◌≡◌, ℕ, ◌+◌, ◌-◌, ◌*◌, ◌/◌, ◌%◌, ◌<◌, ◌≤◌, List, [], ◌∷◌, ◌++◌, length, take, drop, get_or, refl, sym, ap, ◌∙◌, arith, ℤ, pos, length-append}
use Rattle.std.proofs.Math.Nat.{add-mul, mul_comm}
use Rattle.std.proofs.lemmas.List.{append_assoc, take_at, take_rest, length-take-le, get_or-drop}
use Rattle.std.proofs.lemmas.Nat.{row_fits}
use Rattle.std.proofs.lemmas.List.FromFn.{length-map-range_with_len, get_or-map-range_with_len}
use Rattle.parent_rule.specs.Combined.{combined}
use Rattle.parent_rule.specs.declared.combine.Combine.{Combine}
use Rattle.tile_pixels.specs.Stored.{number_bytes, stored_at, stored_bytes}
use Rattle.tile_pixels.specs.Lines.{row_above}
use Rattle.tile_pixels.specs.QuadrantLaws.{same_four}
use Rattle.tile_pixels.specs.StoredLaws.{AreBytes, stored_bytes-nil}
use Rattle.byteorder.specs.Endian.{little_number}
use Rattle.tile_pixels.proofs.Rows.{stored_more, written_all}

pub length-row_above : (way : Combine) (bits : ℕ) (blank : ℤ) (count : ℕ) (top bottom : List ℕ) → length (row_above way bits blank count top bottom) ≡ count
unfolding row_above
length-row_above way bits blank count top bottom = length-map-range_with_len _ 0 count

pub get_or-row_above : (way : Combine) (bits : ℕ) (blank : ℤ) (count : ℕ) (top bottom : List ℕ) (i : ℕ) (d : ℤ) → i < count
    → get_or (row_above way bits blank count top bottom) i d
    ≡ combined way blank (stored_at bits top (2 * i) ∷ stored_at bits bottom (2 * i) ∷ stored_at bits top (2 * i + 1) ∷ stored_at bits bottom (2 * i + 1) ∷ [])
unfolding row_above
get_or-row_above way bits blank count top bottom i d below = get_or-map-range_with_len _ 0 count i i d below (omega arith)

-- a place of a row has room for its number
pub place_fits : (place total w long : ℕ) → place < total → long ≡ total * w → (place + 1) * w ≤ long
place_fits place total w long below is =
    let fits : place * w + w ≤ total * w = row_fits place w total w below (omega arith) in
    let e : (place + 1) * w ≡ place * w + 1 * w = add-mul place 1 w in
    omega arith

pub pair_fits : (i count w long : ℕ) → i < count → long ≡ 2 * count * w → (2 * i + 2) * w ≤ long
pair_fits i count w long below is =
    let fits : (2 * i + 1 + 1) * w ≤ long = place_fits (2 * i + 1) (2 * count) w long (omega arith) is in
    let e : 2 * i + 1 + 1 ≡ 2 * i + 2 = omega arith in
    rw (← e) fits

-- two bytes side by side, read as one number
number_of_pair : (row : List ℕ) (i pair : ℕ) → pair ≡ little_number 2 (take (length row - 2 * i) (drop (2 * i) row)) → pair ≡ get_or row (2 * i) 0 + 256 * get_or row (2 * i + 1) 0
number_of_pair row i pair is =
    let here : get_or (drop (2 * i) row) 0 0 ≡ get_or row (2 * i + 0) 0 = get_or-drop (2 * i) row 0 0 in
    let next : get_or (drop (2 * i) row) 1 0 ≡ get_or row (2 * i + 1) 0 = get_or-drop (2 * i) row 1 0 in
    let same : get_or row (2 * i + 0) 0 ≡ get_or row (2 * i) 0 = ap (λ (k : ℕ). get_or row k 0) (let e : 2 * i + 0 ≡ 2 * i = omega arith in e) in
    is ∙ ap (little_number 2) (take_rest row (2 * i)) ∙ omega arith

stored_byte : (row : List ℕ) (place : ℕ) → stored_at 8 row place ≡ pos (get_or row place 0)
stored_byte row place =
    let here : get_or (drop (place * 1) row) 0 0 ≡ get_or row (place * 1 + 0) 0 = get_or-drop (place * 1) row 0 0 in
    let same : get_or row (place * 1 + 0) 0 ≡ get_or row place 0 = ap (λ (k : ℕ). get_or row k 0) (let e : place * 1 + 0 ≡ place = omega arith in e) in
    ap pos (let e : get_or (drop (place * 1) row) 0 0 * 1 + 0 ≡ get_or row place 0 = omega arith in e)

pub first_of_pair : (row : List ℕ) (i pair : ℕ) → AreBytes row → pair ≡ little_number 2 (take (length row - 2 * i) (drop (2 * i) row)) → pos (pair % 256) ≡ stored_at 8 row (2 * i)
first_of_pair row i pair bytes is =
    let whole = number_of_pair row i pair is in
    let low : get_or row (2 * i) 0 < 256 = bytes (2 * i) in
    ap pos (let e : pair % 256 ≡ get_or row (2 * i) 0 = omega arith in e) ∙ sym (stored_byte row (2 * i))

pub second_of_pair : (row : List ℕ) (i pair : ℕ) → AreBytes row → pair ≡ little_number 2 (take (length row - 2 * i) (drop (2 * i) row)) → pos (pair / 256) ≡ stored_at 8 row (2 * i + 1)
second_of_pair row i pair bytes is =
    let whole = number_of_pair row i pair is in
    let low : get_or row (2 * i) 0 < 256 = bytes (2 * i) in
    ap pos (let e : pair / 256 ≡ get_or row (2 * i + 1) 0 = omega arith in e) ∙ sym (stored_byte row (2 * i + 1))

pub first_of_word : (row : List ℕ) (i pair : ℕ) → AreBytes row → pair ≡ little_number 2 (drop (2 * i) row) → pos (pair % 256) ≡ stored_at 8 row (2 * i)
first_of_word row i pair bytes is = first_of_pair row i pair bytes (is ∙ ap (little_number 2) (sym (take_rest row (2 * i))))

pub second_of_word : (row : List ℕ) (i pair : ℕ) → AreBytes row → pair ≡ little_number 2 (drop (2 * i) row) → pos (pair / 256) ≡ stored_at 8 row (2 * i + 1)
second_of_word row i pair bytes is = second_of_pair row i pair bytes (is ∙ ap (little_number 2) (sym (take_rest row (2 * i))))

-- no number is stored yet
pub above_none : (bits : ℕ) (out : List ℕ) → take (0 * (bits / 8)) out ≡ stored_bytes bits []
above_none bits out = let none : 0 * (bits / 8) ≡ 0 = omega arith in rw (none, stored_bytes-nil bits) refl

-- one number more is stored
pub above_more : (way : Combine) (bits : ℕ) (blank : ℤ) (count i : ℕ) (top bottom out more : List ℕ) (v a b c d : ℤ) → i < count
    → v ≡ combined way blank (a ∷ b ∷ c ∷ d ∷ []) → a ≡ stored_at bits top (2 * i) → b ≡ stored_at bits bottom (2 * i) → c ≡ stored_at bits top (2 * i + 1) → d ≡ stored_at bits bottom (2 * i + 1)
    → take (i * (bits / 8)) out ≡ stored_bytes bits (take i (row_above way bits blank count top bottom))
    → take ((i + 1) * (bits / 8)) more ≡ take (i * (bits / 8)) out ++ number_bytes bits v
    → take ((i + 1) * (bits / 8)) more ≡ stored_bytes bits (take (i + 1) (row_above way bits blank count top bottom))
above_more way bits blank count i top bottom out more v a b c d below is ea eb ec ed before wrote =
    let numbers : List ℤ = row_above way bits blank count top bottom in
    let within : i < length numbers = rw (length-row_above way bits blank count top bottom) below in
    let number : v ≡ get_or numbers i (pos 0) = is ∙ same_four way blank a b c d _ _ _ _ ea eb ec ed ∙ sym (get_or-row_above way bits blank count top bottom i (pos 0) below) in
    wrote ∙ ap (λ (bytes : List ℕ). bytes ++ number_bytes bits v) before
    ∙ ap (λ (u : ℤ). stored_bytes bits (take i numbers) ++ number_bytes bits u) number
    ∙ sym (stored_more bits numbers i within)

-- all are
pub above_all : (way : Combine) (bits : ℕ) (blank : ℤ) (count i : ℕ) (top bottom out : List ℕ) → i ≡ count → length out ≡ count * (bits / 8)
    → take (i * (bits / 8)) out ≡ stored_bytes bits (take i (row_above way bits blank count top bottom))
    → out ≡ stored_bytes bits (row_above way bits blank count top bottom)
above_all way bits blank count i top bottom out end long before =
    let count_is : count ≡ length (row_above way bits blank count top bottom) = sym (length-row_above way bits blank count top bottom) in
    written_all bits (row_above way bits blank count top bottom) out i (end ∙ count_is) (long ∙ ap (λ (k : ℕ). k * (bits / 8)) count_is) before

-- a number that is written at its place
pub wrote : (n i : ℕ) (bytes buf bs rest post : List ℕ) → n * i ≤ length bytes → length bs ≡ n → buf ≡ bs ++ rest
    → take ((i + 1) * n) (take (n * i) bytes ++ (buf ++ post)) ≡ take (i * n) bytes ++ bs
wrote n i bytes buf bs rest post room len is =
    let front : List ℕ = take (n * i) bytes in
    let lf : length front ≡ n * i = length-take-le (n * i) bytes room in
    let whole : front ++ (buf ++ post) ≡ (front ++ bs) ++ (rest ++ post) =
    ap (λ (r : List ℕ). front ++ (r ++ post)) is ∙ ap (λ (r : List ℕ). front ++ r) (append_assoc bs rest post) ∙ sym (append_assoc front bs (rest ++ post)) in
    let long : (i + 1) * n ≡ n * i + n = add-mul i 1 n ∙ omega (arith, mul_comm i n) in
    let lw : length (front ++ bs) ≡ (i + 1) * n = length-append front bs ∙ omega arith in
    ap (take ((i + 1) * n)) whole ∙ take_at (front ++ bs) (rest ++ post) ((i + 1) * n) lw
    ∙ ap (λ (k : ℕ). take k bytes ++ bs) (mul_comm n i)
