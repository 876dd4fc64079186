-- The numbers that stand in bytes: how many, each of them, and that the rows of a coverage file are those behind its headers.
use Rattle.std.proofs.Common.{◌≡◌, inl, inr, ℕ, zero, suc, ◌+◌, ◌-◌, ◌*◌, ◌/◌, ◌^◌, ◌<◌, ◌≤◌, min, Bool, true, List, [], ◌∷◌, ◌++◌, length, take, drop, get_or, flat_map, map, slice_index, replicate, All, refl, sym, ap, ap₂, ◌∙◌, subst, arith, append_assoc, length-append, length-drop, length-take, take-append-drop, take_all}
use Rattle.std.specs.Int.{bytes_high_first, cast_signed, cast_unsigned, w64}
use Rattle.std.specs.List.{range_with_len}
use Rattle.std.proofs.lemmas.Int.{of_z-to_z}
use Rattle.std.proofs.lemmas.Bool.{cases_lt}
use Rattle.std.proofs.lemmas.List.{append-nil, drop-drop, drop_at, take-append-le, same_lists, get_or_default, length-take-le, nil_from_length}
use Rattle.std.proofs.lemmas.List.Folds.{flat_map-map}
use Rattle.std.proofs.lemmas.List.Elements.{All-get_or}
use Rattle.std.proofs.lemmas.List.FromFn.{length-map-range_with_len, get_or-map-range_with_len, fill_by_all}
use Rattle.byteorder.specs.Endian.{big_from, big_number, big_bytes}
use Rattle.byteorder.specs.Numbers.{big_from-lt}
use Rattle.tile_pixels.specs.Stored.{number_from, numbers_from, number_bytes, stored_bytes}
use Rattle.tile_pixels.specs.StoredLaws.{AreBytes, AreBytes-drop, AreBytes-take, stored_bytes-numbers_from}
use Rattle.coverage_moc.specs.CoverFile.{IsRow, HoldsRows, row_bytes}
use Rattle.coverage_moc.specs.WrittenRows.{numbers_in}
use Rattle.std.proofs.lemmas.Map.Keys.{below_from_sorted}
use Rattle.coverage_moc.specs.Cover.{has, IsAscending}
use Rattle.coverage_moc.proofs.MemberLemmas.{flat_map_range, same_bools, has_at, place_of}
use Rattle.coverage_moc.proofs.FileLemmas.{length-row_bytes, row_at, big_zero}

pub length-numbers : (bytes : List ℕ) → length (numbers_in bytes) ≡ length bytes / 8
unfolding numbers_in
length-numbers bytes = length-map-range_with_len (λ i. big_number 8 (drop (8 * i) bytes)) 0 (length bytes / 8)

pub number_at : (bytes : List ℕ) (i : ℕ) → i < length bytes / 8 → get_or (numbers_in bytes) i 0 ≡ big_number 8 (drop (8 * i) bytes)
unfolding numbers_in
number_at bytes i h = get_or-map-range_with_len (λ i. big_number 8 (drop (8 * i) bytes)) 0 (length bytes / 8) i i 0 h (omega arith)

-- the bytes of the numbers that stand in bytes are these bytes
pub bytes_back : (bytes : List ℕ) (n : ℕ) → length bytes ≡ 8 * n → AreBytes bytes → row_bytes (numbers_in bytes) ≡ bytes
unfolding numbers_in numbers_from stored_bytes
bytes_back bytes n len are =
    let count : length bytes / 8 ≡ n = omega arith in
    flat_map-map (big_bytes 8) (λ i. big_number 8 (drop (8 * i) bytes)) (range_with_len 0 (length bytes / 8))
    ∙ ap (λ (m : ℕ). flat_map (λ i. big_bytes 8 (big_number 8 (drop (8 * i) bytes))) (range_with_len 0 m)) count
    ∙ flat_map_range (λ i. big_bytes 8 (big_number 8 (drop (8 * i) bytes))) (λ i. number_bytes 64 (number_from 64 (drop (i * 8) bytes))) 0 n (λ k a b. each k)
    ∙ sym (flat_map-map (number_bytes 64) (λ s. number_from 64 (drop (s * 8) bytes)) (range_with_len 0 n))
    ∙ stored_bytes-numbers_from 64 n bytes refl (omega arith) are
  where
    each : (k : ℕ) → big_bytes 8 (big_number 8 (drop (8 * k) bytes)) ≡ number_bytes 64 (number_from 64 (drop (k * 8) bytes))
    each k =
        let place : 8 * k ≡ k * 8 = omega arith in
        let low : big_number 8 (drop (k * 8) bytes) < 256 ^ 8 = big_from-lt 0 8 (drop (k * 8) bytes) (AreBytes-drop (k * 8) bytes are) in
        ap (λ (m : ℕ). big_bytes 8 (big_number 8 (drop m bytes))) place
        ∙ ap (bytes_high_first 8) (sym (of_z-to_z w64 (big_number 8 (drop (k * 8) bytes)) (omega arith)))

numbers_of_rows : (rows : List ℕ) → All IsRow rows → numbers_in (row_bytes rows) ≡ rows
numbers_of_rows rows all =
    let len : length (row_bytes rows) ≡ 8 * length rows = length-row_bytes rows in
    let count : length (numbers_in (row_bytes rows)) ≡ length rows = length-numbers (row_bytes rows) ∙ (omega arith) in
    same_lists (numbers_in (row_bytes rows)) rows count (λ k d h.
    let within : k < length rows = omega arith in
    get_or_default (numbers_in (row_bytes rows)) k d 0 h
    ∙ number_at (row_bytes rows) k (omega arith)
    ∙ ap (λ (zs : List ℕ). big_number 8 (drop (8 * k) zs)) (sym (append-nil (row_bytes rows)))
    ∙ row_at rows [] k all within
    ∙ get_or_default rows k 0 d within)

-- what a slice from there on has, where it may be past the end
pub from_there : (bytes : List ℕ) (start : ℕ) → start ≡ min 5760 (length bytes) → take (length bytes - start) (drop start bytes) ≡ drop 5760 bytes
from_there bytes start is = elim (cases_lt (length bytes) 5760) [
  | inl lt ↦
      let none : start ≡ length bytes = omega arith in
      nil_from_length (take (length bytes - start) (drop start bytes)) (length-take (length bytes - start) (drop start bytes) ∙ (omega (arith, length-drop start bytes)))
      ∙ sym (nil_from_length (drop 5760 bytes) (length-drop 5760 bytes ∙ (omega arith)))
  | inr ge ↦
      let same : start ≡ 5760 = omega arith in
      take_all (length bytes - start) (drop start bytes) (omega (arith, length-drop start bytes)) ∙ ap (λ (m : ℕ). drop m bytes) same
]

-- the rows of a coverage file are the numbers behind the headers before the first that is 0
pub rows_are : (bytes rows behind : List ℕ) (n : ℕ) → behind ≡ drop 5760 bytes → 8 * n ≤ length behind
    → ((i : ℕ) → i < n → big_number 8 (drop (8 * i) behind) ≡ 0 → ⊥) → (8 * n + 8 ≤ length behind → big_number 8 (drop (8 * n) behind) ≡ 0)
    → All IsRow rows → HoldsRows bytes rows → numbers_in (take (8 * n) behind) ≡ rows
rows_are bytes rows behind n from within some none all holds =
    let rest : List ℕ = holds.0 in
    let parts : behind ≡ row_bytes rows ++ rest = from ∙ holds.1 in
    let len : length (row_bytes rows) ≡ 8 * length rows = length-row_bytes rows in
    let whole : length behind ≡ length (row_bytes rows) + length rest = ap length parts ∙ length-append (row_bytes rows) rest in
    let not_fewer : n < length rows → ⊥ = λ lt.
    let value : big_number 8 (drop (8 * n) behind) ≡ get_or rows n 0 = ap (λ (zs : List ℕ). big_number 8 (drop (8 * n) zs)) parts ∙ row_at rows rest n all lt in
    let of : IsRow (get_or rows n 0) = All-get_or IsRow rows n 0 lt all in
    let positive : 0 < get_or rows n 0 = of.0 in
    let is_zero : big_number 8 (drop (8 * n) behind) ≡ 0 = none (omega arith) in
    omega arith in
    let not_more : length rows < n → ⊥ = λ lt.
    some (length rows) lt (ap (λ (zs : List ℕ). big_number 8 (drop (8 * length rows) zs)) parts ∙ ap (big_from 0 8) (drop_at (row_bytes rows) rest (8 * length rows) len) ∙ big_zero 8 0 rest holds.2) in
    let count : n ≡ length rows = elim (cases_lt n (length rows)) [
      | inl lt ↦ absurd (not_fewer lt)
      | inr ge ↦ elim (cases_lt (length rows) n) [ inl lt ↦ absurd (not_more lt) | inr le ↦ omega arith ]
    ] in
    let front : take (8 * n) behind ≡ row_bytes rows = ap (λ (m : ℕ). take (8 * m) behind) count ∙ ap (take (8 * length rows)) parts ∙ take_at (row_bytes rows) rest (8 * length rows) len in
    ap numbers_in front ∙ numbers_of_rows rows all
  where
    take_at : (xs ys : List ℕ) (m : ℕ) → length xs ≡ m → take m (xs ++ ys) ≡ xs
    take_at xs ys m e = take-append-le m xs ys (omega arith) ∙ take_all m xs (omega arith)

-- these numbers and what follows them are the bytes behind the headers
pub all_written : (bytes behind : List ℕ) (n : ℕ) → behind ≡ drop 5760 bytes → 8 * n ≤ length behind → AreBytes bytes
    → row_bytes (numbers_in (take (8 * n) behind)) ++ drop (5760 + 8 * length (numbers_in (take (8 * n) behind))) bytes ≡ drop 5760 bytes
all_written bytes behind n from within are =
    let len : length (take (8 * n) behind) ≡ 8 * n = length-take-le (8 * n) behind within in
    let count : length (numbers_in (take (8 * n) behind)) ≡ n = length-numbers (take (8 * n) behind) ∙ (omega arith) in
    let front : row_bytes (numbers_in (take (8 * n) behind)) ≡ take (8 * n) behind = bytes_back (take (8 * n) behind) n len (AreBytes-take (8 * n) behind (subst AreBytes (sym from) (AreBytes-drop 5760 bytes are))) in
    let back : drop (5760 + 8 * length (numbers_in (take (8 * n) behind))) bytes ≡ drop (8 * n) behind =
    ap (λ (m : ℕ). drop (5760 + 8 * m) bytes) count ∙ sym (drop-drop (8 * n) 5760 bytes) ∙ ap (drop (8 * n)) (sym from) in
    ap₂ (λ (xs ys : List ℕ). xs ++ ys) front back ∙ take-append-drop (8 * n) behind ∙ from

-- ---- the search

-- what is below a row at some place is below it before that place, and what is not, is not from there on
pub lower_half : (rows : List ℕ) (row middle : ℕ) → IsAscending rows → middle < length rows → get_or rows middle 0 < row → (k : ℕ) → k < middle + 1 → get_or rows k 0 < row
lower_half rows row middle up within low k lt = elim (cases_lt k middle) [
  | inl before ↦ let less : get_or rows k 0 < get_or rows middle 0 = below_from_sorted rows k middle 0 up before within in omega arith
  | inr ge ↦ let same : k ≡ middle = omega arith in subst (λ (j : ℕ). get_or rows j 0 < row) (sym same) low
]

pub upper_half : (rows : List ℕ) (row middle : ℕ) → IsAscending rows → row ≤ get_or rows middle 0 → (k : ℕ) → middle ≤ k → k < length rows → row ≤ get_or rows k 0
upper_half rows row middle up high k ge within = elim (cases_lt middle k) [
  | inl after ↦ let less : get_or rows middle 0 < get_or rows k 0 = below_from_sorted rows middle k 0 up after within in omega arith
  | inr le ↦ let same : k ≡ middle = omega arith in subst (λ (j : ℕ). row ≤ get_or rows j 0) (sym same) high
]

pub searched_in : (rows : List ℕ) (row place : ℕ) (b : Bool) → IsAscending rows → place ≤ length rows → ((k : ℕ) → k < place → get_or rows k 0 < row) → ((k : ℕ) → place ≤ k → k < length rows → row ≤ get_or rows k 0)
    → (b ≡ true → (place < length rows) × (get_or rows place 0 ≡ row)) → (place < length rows → get_or rows place 0 ≡ row → b ≡ true) → b ≡ has rows row
searched_in rows row place b up within below above found missed = same_bools b (has rows row)
    (λ t. let p : (place < length rows) × (get_or rows place 0 ≡ row) = found t in subst (λ (z : ℕ). has rows z ≡ true) p.1 (has_at rows place p.0))
    (λ t.
    let q : (j : ℕ) × (j < length rows) × (get_or rows j 0 ≡ row) = place_of rows row t in
    let at : get_or rows q.0 0 ≡ row = q.2 in
    elim (cases_lt q.0 place) [
      | inl lt ↦ let low : get_or rows q.0 0 < row = below q.0 lt in absurd (omega arith)
      | inr ge ↦
          let there : q.0 < length rows = q.1 in
          let least : row ≤ get_or rows place 0 = above place (omega arith) (omega arith) in
          elim (cases_lt place q.0) [
            | inl lt ↦ let higher : get_or rows place 0 < get_or rows q.0 0 = below_from_sorted rows place q.0 0 up lt there in absurd (omega arith)
            | inr le ↦ let same : place ≡ q.0 = omega arith in missed (omega arith) (ap (λ (j : ℕ). get_or rows j 0) same ∙ at)
          ]
    ])
