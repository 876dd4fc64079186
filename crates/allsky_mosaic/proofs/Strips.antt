-- Strips of stored numbers: so many numbers, one after the other, that are written into longer bytes.
use Rattle.std.proofs.Common.{◌≡◌, ◌≢◌, ℕ, ◌+◌, ◌-◌, ◌*◌, ◌/◌, ◌<◌, ◌≤◌, List, length, take, drop, sym, ap, ◌∙◌, inl, inr, arith, length-drop, ℤ}
use Rattle.std.specs.Prelude.{IsTrue}
use Rattle.std.proofs.lemmas.Bool.{cases_lt}
use Rattle.std.proofs.lemmas.Nat.{row_fits}
use Rattle.std.proofs.lemmas.List.{drop-take}
use Rattle.std.proofs.lemmas.Slice.{drop-put_mid, take-put_mid_below, between-put_mid}
use Rattle.std.proofs.lemmas.List.{length-take-le}
use borrow.Rule.Slice.PartMut.{put_mid, same_len_mid}
use Rattle.parent_rule.specs.Depth.{is_bitpix}
use Rattle.tile_pixels.specs.Stored.{number_from, stored_at}
use Rattle.tile_pixels.specs.StoredLaws.{number_from-part, number_from-take}

-- so many numbers more take at least as many bytes
pub times : (a b w : ℕ) → a ≤ b → a * w ≤ b * w
times a b w h = grind arith

-- a number is read in a first part that has all its bytes
first_part : (bits n place : ℕ) (xs : List ℕ) → IsTrue (is_bitpix bits) → place * (bits / 8) + bits / 8 ≤ n → n ≤ length xs → stored_at bits (take n xs) place ≡ stored_at bits xs place
first_part bits n place xs known fits room =
    let d : ℕ = place * (bits / 8) in
    let split : n ≡ d + (n - d) = omega arith in
    let rest : bits / 8 ≤ length (drop d xs) = rw (length-drop d xs) (omega arith) in
    ap (λ (k : ℕ). number_from bits (drop d (take k xs))) split ∙ ap (number_from bits) (drop-take d (n - d) xs) ∙ number_from-take bits (n - d) (drop d xs) known (omega arith) rest

-- where the first bytes are the same, so are their numbers
same_first : (bits n place : ℕ) (xs ys : List ℕ) → IsTrue (is_bitpix bits) → place * (bits / 8) + bits / 8 ≤ n → n ≤ length xs → n ≤ length ys → take n xs ≡ take n ys → stored_at bits xs place ≡ stored_at bits ys place
same_first bits n place xs ys known fits roomx roomy same =
    sym (first_part bits n place xs known fits roomx) ∙ ap (λ (zs : List ℕ). stored_at bits zs place) same ∙ first_part bits n place ys known fits roomy

-- what was written into keeps its length
same_length : (a k : ℕ) (xs ys : List ℕ) → a + k ≤ length xs → length ys ≡ k → length (put_mid a k xs ys) ≡ length xs
same_length a k xs ys room long = same_len_mid a k xs ys (long ∙ sym (length-take-le k (drop a xs) (rw (length-drop a xs) (omega arith))))

-- a strip of side numbers is read back where it was written
pub strip_in : (bits side q total a k : ℕ) (xs ys new : List ℕ) (u : ℕ) → IsTrue (is_bitpix bits) → new ≡ put_mid a k xs ys → a ≡ q * side * (bits / 8) → k ≡ side * (bits / 8)
    → length xs ≡ total * (bits / 8) → length ys ≡ side * (bits / 8) → q * side + side ≤ total → u < side
    → stored_at bits new (q * side + u) ≡ stored_at bits ys u
strip_in bits side q total a k xs ys new u known is a_is k_is long long_ys room within =
    let w : ℕ = bits / 8 in
    let fits : (q * side + side) * w ≤ total * w = times (q * side + side) total w room in
    let size : side * w ≡ a + k - a = omega arith in
    let long_new : length new ≡ total * w = ap length is ∙ same_length a k xs ys (omega arith) (omega arith) ∙ long in
    let part : take (side * w) (drop (q * side * w) new) ≡ ys =
    ap (λ (n : ℕ). take (side * w) (drop n new)) (sym a_is) ∙ ap (λ (n : ℕ). take n (drop a new)) size
    ∙ ap (λ (zs : List ℕ). take (a + k - a) (drop a zs)) is ∙ between-put_mid a k xs ys (a + k) (omega arith) (omega arith) in
    sym (number_from-part bits side (q * side) total u new known within room long_new) ∙ ap (λ (zs : List ℕ). number_from bits (drop (u * w) zs)) part

-- and the other strips stay
pub strip_other : (bits side q p total a k : ℕ) (xs ys new : List ℕ) (u : ℕ) → IsTrue (is_bitpix bits) → new ≡ put_mid a k xs ys → a ≡ q * side * (bits / 8) → k ≡ side * (bits / 8)
    → length xs ≡ total * (bits / 8) → length ys ≡ side * (bits / 8) → q * side + side ≤ total → u < side → p ≢ q
    → stored_at bits new (p * side + u) ≡ stored_at bits xs (p * side + u)
strip_other bits side q p total a k xs ys new u known is a_is k_is long long_ys room within apart =
    let w : ℕ = bits / 8 in
    let fits : (q * side + side) * w ≤ total * w = times (q * side + side) total w room in
    let long_new : length new ≡ length xs = ap length is ∙ same_length a k xs ys (omega arith) (omega arith) in
    elim (cases_lt p q) [
      | inl before ↦
          let row : p * side + side ≤ q * side = row_fits p side q side before (omega arith) in
          let end : (p * side + u + 1) * w ≤ q * side * w = times (p * side + u + 1) (q * side) w (omega arith) in
          same_first bits a (p * side + u) new xs known (omega arith) (omega arith) (omega arith)
          (ap (take a) is ∙ take-put_mid_below a k xs ys a (omega arith) (omega arith))
      | inr behind ↦
          let later : q < p = omega arith in
          let row : q * side + side ≤ p * side = row_fits q side p side later (omega arith) in
          let start : (q * side + side) * w ≤ (p * side + u) * w = times (q * side + side) (p * side + u) w (omega arith) in
          ap (λ (zs : List ℕ). number_from bits (drop ((p * side + u) * w) zs)) is
          ∙ ap (number_from bits) (drop-put_mid a k xs ys ((p * side + u) * w) (omega arith) (omega arith) (omega arith))
    ]

-- ---- a line of a square, in a band of 27 squares

-- the strips of a band
pub strip_room : (side col t : ℕ) → t < side → col < 27 → (t * 27 + col) * side + side ≤ 27 * side * side
strip_room side col t h k = let q : t * 27 + col < 27 * side = omega arith in row_fits (t * 27 + col) side (27 * side) side q (omega arith)

-- what is copied of a square
pub line_of_square : (bits side t : ℕ) (square ys : List ℕ) (u : ℕ) → IsTrue (is_bitpix bits) → ys ≡ take (side * (bits / 8)) (drop (t * side * (bits / 8)) square)
    → length square ≡ side * side * (bits / 8) → t < side → u < side → stored_at bits ys u ≡ stored_at bits square (t * side + u)
line_of_square bits side t square ys u known is long row within =
    ap (λ (zs : List ℕ). stored_at bits zs u) is ∙ number_from-part bits side (t * side) (side * side) u square known within (row_fits t side side side row (omega arith)) long

-- and how long it is
pub length_of_line : (bits side t : ℕ) (square ys : List ℕ) → ys ≡ take (side * (bits / 8)) (drop (t * side * (bits / 8)) square) → length square ≡ side * side * (bits / 8) → t < side
    → length ys ≡ side * (bits / 8)
length_of_line bits side t square ys is long row =
    let w : ℕ = bits / 8 in
    let fits : (t * side + side) * w ≤ side * side * w = times (t * side + side) (side * side) w (row_fits t side side side row (omega arith)) in
    ap length is ∙ length-take-le (side * w) (drop (t * side * w) square) (rw (length-drop (t * side * w) square) (omega arith))

-- line t of square col is written into a band
pub record WritesLine (bits side col t : ℕ) (square old new : List ℕ) : Type 0 where
  pub start : ℕ
  pub size : ℕ
  pub line : List ℕ
  pub known : IsTrue (is_bitpix bits)
  pub start_is : start ≡ (t * 27 + col) * side * (bits / 8)
  pub size_is : size ≡ side * (bits / 8)
  pub line_is : line ≡ take (side * (bits / 8)) (drop (t * side * (bits / 8)) square)
  pub new_is : new ≡ put_mid start size old line
  pub square_long : length square ≡ side * side * (bits / 8)
  pub band_long : length old ≡ 27 * side * side * (bits / 8)
  pub row : t < side
  pub column : col < 27

pub line_written : (bits side col t : ℕ) (square old new : List ℕ) (u : ℕ) → WritesLine bits side col t square old new → u < side
    → stored_at bits new ((t * 27 + col) * side + u) ≡ stored_at bits square (t * side + u)
line_written bits side col t square old new u wr within =
    strip_in bits side (t * 27 + col) (27 * side * side) wr.start wr.size old wr.line new u wr.known wr.new_is wr.start_is wr.size_is wr.band_long
    (length_of_line bits side t square wr.line wr.line_is wr.square_long wr.row) (strip_room side col t wr.row wr.column) within
    ∙ line_of_square bits side t square wr.line u wr.known wr.line_is wr.square_long wr.row within

pub line_kept : (bits side col t other row : ℕ) (square old new : List ℕ) (u : ℕ) → WritesLine bits side col t square old new → row < side → other < 27 → u < side → row * 27 + other ≢ t * 27 + col
    → stored_at bits new ((row * 27 + other) * side + u) ≡ stored_at bits old ((row * 27 + other) * side + u)
line_kept bits side col t other row square old new u wr row_in other_in within apart =
    strip_other bits side (t * 27 + col) (row * 27 + other) (27 * side * side) wr.start wr.size old wr.line new u wr.known wr.new_is wr.start_is wr.size_is wr.band_long
    (length_of_line bits side t square wr.line wr.line_is wr.square_long wr.row) (strip_room side col t wr.row wr.column) within apart

-- where a strip starts and how long it is, by the bytes of a number
pub strip_start : (q side w bits : ℕ) → w ≡ bits / 8 → q * (side * w) ≡ q * side * (bits / 8)
strip_start q side w bits e = rw e (omega arith)

pub strip_size : (a side w bits : ℕ) → w ≡ bits / 8 → a + side * w - a ≡ side * (bits / 8)
strip_size a side w bits e = rw e (omega arith)

-- one line more is written
pub lines_more : (bits side col t : ℕ) (square old new : List ℕ) → WritesLine bits side col t square old new
    → ((row column : ℕ) → row < t → column < side → stored_at bits old ((row * 27 + col) * side + column) ≡ stored_at bits square (row * side + column))
    → (row column : ℕ) → row < t + 1 → column < side → stored_at bits new ((row * 27 + col) * side + column) ≡ stored_at bits square (row * side + column)
lines_more bits side col t square old new wr done row column row_in column_in =
    elim (cases_lt row t) [
      | inl before ↦
          let rows : t < side = wr.row in
          let apart : row * 27 + col ≢ t * 27 + col = omega arith in
          line_kept bits side col t col row square old new column wr (omega arith) wr.column column_in apart ∙ done row column before column_in
      | inr here ↦
          let same : row ≡ t = omega arith in
          ap (λ (r : ℕ). stored_at bits new ((r * 27 + col) * side + column)) same ∙ line_written bits side col t square old new column wr column_in
          ∙ ap (λ (r : ℕ). stored_at bits square (r * side + column)) (sym same)
    ]

-- and the squares beside it stay
pub beside_stay : (bits side col t : ℕ) (square first old new : List ℕ) → WritesLine bits side col t square old new
    → ((row other column : ℕ) → row < side → other < 27 → other ≢ col → column < side → stored_at bits old ((row * 27 + other) * side + column) ≡ stored_at bits first ((row * 27 + other) * side + column))
    → (row other column : ℕ) → row < side → other < 27 → other ≢ col → column < side → stored_at bits new ((row * 27 + other) * side + column) ≡ stored_at bits first ((row * 27 + other) * side + column)
beside_stay bits side col t square first old new wr kept row other column row_in other_in apart column_in =
    let here : col < 27 = wr.column in
    let strips : row * 27 + other ≢ t * 27 + col = omega arith in
    line_kept bits side col t other row square old new column wr row_in other_in column_in strips ∙ kept row other column row_in other_in apart column_in

-- a strip is written at its own place among strips
pub record WritesStrip (bits side total q : ℕ) (line old new : List ℕ) : Type 0 where
  pub start : ℕ
  pub size : ℕ
  pub known : IsTrue (is_bitpix bits)
  pub start_is : start ≡ q * side * (bits / 8)
  pub size_is : size ≡ side * (bits / 8)
  pub new_is : new ≡ put_mid start size old line
  pub line_long : length line ≡ side * (bits / 8)
  pub long : length old ≡ total * (bits / 8)
  pub room : q * side + side ≤ total

-- where each strip before it has the numbers that are wanted, and it has them, so has each up to it
pub strips_more : (bits side total q : ℕ) (line old new : List ℕ) (wanted : ℕ → ℕ → ℤ) → WritesStrip bits side total q line old new
    → ((p column : ℕ) → p < q → column < side → stored_at bits old (p * side + column) ≡ wanted p column)
    → ((column : ℕ) → column < side → stored_at bits line column ≡ wanted q column)
    → (p column : ℕ) → p < q + 1 → column < side → stored_at bits new (p * side + column) ≡ wanted p column
strips_more bits side total q line old new wanted wr done this p column p_in column_in =
    elim (cases_lt p q) [
      | inl before ↦
          let apart : p ≢ q = omega arith in
          strip_other bits side q p total wr.start wr.size old line new column wr.known wr.new_is wr.start_is wr.size_is wr.long wr.line_long wr.room column_in apart ∙ done p column before column_in
      | inr here ↦
          let same : p ≡ q = omega arith in
          ap (λ (r : ℕ). stored_at bits new (r * side + column)) same
          ∙ strip_in bits side q total wr.start wr.size old line new column wr.known wr.new_is wr.start_is wr.size_is wr.long wr.line_long wr.room column_in
          ∙ this column column_in ∙ ap (λ (r : ℕ). wanted r column) (sym same)
    ]
