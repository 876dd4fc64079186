-- What follows from the definitions of `numbers_from` and `stored_bytes`: how long they are, how they split, and that
-- each is the other's way back.
use Rattle.std.proofs.Common.{◌≡◌, ℕ, zero, suc, ◌+◌, ◌-◌, ◌*◌, ◌/◌, ◌%◌, ◌^◌, ◌<◌, ◌≤◌, List, [], ◌∷◌, ◌++◌, length, take, drop, get_or, slice_index, All, IsTrue, refl, sym, ap, subst, ◌∙◌, inl, inr, arith, ℤ, pos, negsuc, ◌≤ℤ◌, length-append}
use Rattle.std.proofs.Math.Nat.{add-mul, mul_assoc, div-one, pow-succ'}
use Rattle.std.proofs.lemmas.Int.{ints, to_z-of_z, of_z-to_z}
use Rattle.std.proofs.lemmas.Nat.{div-mul-add, mod-mul-add, row_fits, pow_pos}
use Rattle.std.proofs.lemmas.Bool.{cases_lt, or_cases, eqb-true}
use Rattle.std.proofs.lemmas.List.{append-nil, same_lists, drop-take, drop_at, drop-drop, drop-append-le, get_or_default, get_or_append_left, get_or-append_right, nil_from_length, get_or-drop, get_or-take, get_or_past, length-drop, length-take, length-take-le, take-append-drop}
use Rattle.std.proofs.lemmas.List.Concat.{flat_map-append}
use Rattle.std.proofs.lemmas.List.Elements.{All-head, All-tail}
use Rattle.std.proofs.lemmas.List.FromFn.{length-map-range_with_len, get_or-map-range_with_len}
use Rattle.std.specs.Int.{byte_at, bytes_high_first, cast_signed, cast_unsigned, w8, w16, w32, w64}
use Rattle.byteorder.specs.Endian.{big_from}
use Rattle.byteorder.specs.Numbers.{big_from-append, big_from-cons, big_from-lt, big_number-reads_back, length-bytes_high_first}
use Rattle.parent_rule.specs.Depth.{is_bitpix, IsNumber}
use Rattle.tile_pixels.specs.Stored.{number_from, numbers_from, number_bytes, stored_bytes}
use mir.Syntax.{Width}
use mir.Val.{SFits, hbits, bits as bit_count}
use Rattle.std.proofs.Math.Facts.{Fits-of_z}

-- each is a byte
abbrev pub AreBytes : List ℕ → Type 0
AreBytes bytes = (i : ℕ) → slice_index bytes i < 256

pub AreBytes-from_all : (bytes : List ℕ) → All (λ b. b < 256) bytes → AreBytes bytes
AreBytes-from_all bytes all = λ i. elim (cases_lt i (length bytes)) [
  | inl within ↦ all i 0 within
  | inr past ↦ rw (get_or_past bytes i 0 past) (omega arith)
]

pub AreBytes-drop : (n : ℕ) (bytes : List ℕ) → AreBytes bytes → AreBytes (drop n bytes)
AreBytes-drop n bytes h = λ i. rw (get_or-drop n bytes i 0) (h (n + i))

pub AreBytes-take : (n : ℕ) (bytes : List ℕ) → AreBytes bytes → AreBytes (take n bytes)
AreBytes-take n bytes h = λ i. elim (cases_lt i n) [
  | inl below ↦ rw (get_or-take n bytes i 0 below) (h i)
  | inr above ↦ rw (get_or_past (take n bytes) i 0 (rw (length-take n bytes) (omega arith))) (omega arith)
]

-- what holds for each width of a number
pub by_bitpix : (P : ℕ → Type 0) (bits : ℕ) → IsTrue (is_bitpix bits) → P 8 → P 16 → P 32 → P 64 → P bits
by_bitpix P bits known at8 at16 at32 at64 =
    elim (or_cases _ _ known) [
      | inl h ↦ elim (or_cases _ _ h) [
        | inl h ↦ elim (or_cases _ _ h) [
          | inl h ↦ subst P (sym (eqb-true bits 8 h)) at8
          | inr h ↦ subst P (sym (eqb-true bits 16 h)) at16
        ]
        | inr h ↦ subst P (sym (eqb-true bits 32 h)) at32
      ]
      | inr h ↦ subst P (sym (eqb-true bits 64 h)) at64
    ]

-- how many numbers are read, and each of them
pub length-numbers_from : (bits count : ℕ) (bytes : List ℕ) → length (numbers_from bits count bytes) ≡ count
unfolding numbers_from
length-numbers_from bits count bytes = length-map-range_with_len (λ s. number_from bits (drop (s * (bits / 8)) bytes)) 0 count

pub get_or-numbers_from : (bits count : ℕ) (bytes : List ℕ) (i : ℕ) (d : ℤ) → i < count → get_or (numbers_from bits count bytes) i d ≡ number_from bits (drop (i * (bits / 8)) bytes)
unfolding numbers_from
get_or-numbers_from bits count bytes i d h =
    get_or-map-range_with_len (λ s. number_from bits (drop (s * (bits / 8)) bytes)) 0 count i i d h (omega arith)

-- a list is those numbers where each place has its number
pub numbers_from-places : (bits : ℕ) (bytes : List ℕ) (numbers : List ℤ) → ((k : ℕ) → k < length numbers → get_or numbers k (pos 0) ≡ number_from bits (drop (k * (bits / 8)) bytes)) → numbers ≡ numbers_from bits (length numbers) bytes
numbers_from-places bits bytes numbers each =
    same_lists numbers (numbers_from bits (length numbers) bytes)
    (sym (length-numbers_from bits (length numbers) bytes))
    (λ k d h. get_or_default numbers k d (pos 0) h ∙ each k h ∙ sym (get_or-numbers_from bits (length numbers) bytes k d h))

-- a number reads only its own bytes
pub number_from-append : (bits : ℕ) (xs ys : List ℕ) → IsTrue (is_bitpix bits) → bits / 8 ≤ length xs → number_from bits (xs ++ ys) ≡ number_from bits xs
number_from-append bits xs ys known h =
    by_bitpix (λ b. b / 8 ≤ length xs → number_from b (xs ++ ys) ≡ number_from b xs) bits known
    (λ h. ap pos (big_from-append 1 xs ys h))
    (λ h. ap (cast_signed w16) (big_from-append 2 xs ys h))
    (λ h. ap (cast_signed w32) (big_from-append 4 xs ys h))
    (λ h. ap (cast_signed w64) (big_from-append 8 xs ys h))
    h

-- what is read of some bytes after others is read of each
pub numbers_from-append : (bits a b : ℕ) (xs ys : List ℕ) → IsTrue (is_bitpix bits) → length xs ≡ a * (bits / 8) → numbers_from bits (a + b) (xs ++ ys) ≡ numbers_from bits a xs ++ numbers_from bits b ys
numbers_from-append bits a b xs ys known len =
    let w : ℕ = bits / 8 in
    let la : length (numbers_from bits a xs) ≡ a = length-numbers_from bits a xs in
    let lb : length (numbers_from bits b ys) ≡ b = length-numbers_from bits b ys in
    let lab : length (numbers_from bits (a + b) (xs ++ ys)) ≡ a + b = length-numbers_from bits (a + b) (xs ++ ys) in
    same_lists (numbers_from bits (a + b) (xs ++ ys)) (numbers_from bits a xs ++ numbers_from bits b ys)
    (lab ∙ sym (length-append (numbers_from bits a xs) (numbers_from bits b ys) ∙ rw (la, lb) refl))
    (λ k d h.
    let whole : get_or (numbers_from bits (a + b) (xs ++ ys)) k d ≡ number_from bits (drop (k * w) (xs ++ ys)) = get_or-numbers_from bits (a + b) (xs ++ ys) k d (omega arith) in
    elim (cases_lt k a) [
      | inl below ↦
          let fits : k * w + w ≤ a * w = row_fits k w a w below (omega arith) in
          let part : get_or (numbers_from bits a xs ++ numbers_from bits b ys) k d ≡ number_from bits (drop (k * w) xs) = get_or_append_left (numbers_from bits a xs) (numbers_from bits b ys) d k (omega arith) ∙ get_or-numbers_from bits a xs k d below in
          let rest : drop (k * w) (xs ++ ys) ≡ drop (k * w) xs ++ ys = drop-append-le (k * w) xs ys (omega arith) in
          whole ∙ ap (number_from bits) rest ∙ number_from-append bits (drop (k * w) xs) ys known (rw (length-drop (k * w) xs) (omega arith)) ∙ sym part
      | inr above ↦
          let part : get_or (numbers_from bits a xs ++ numbers_from bits b ys) k d ≡ number_from bits (drop ((k - a) * w) ys) = get_or-append_right (numbers_from bits a xs) (numbers_from bits b ys) a k d la above ∙ get_or-numbers_from bits b ys (k - a) d (omega arith) in
          let place : k * w ≡ length xs + (k - a) * w = ap (λ (n : ℕ). n * w) (let e : k ≡ a + (k - a) = omega arith in e) ∙ add-mul a (k - a) w ∙ rw len refl in
          let rest : drop (k * w) (xs ++ ys) ≡ drop ((k - a) * w) ys = ap (λ (n : ℕ). drop n (xs ++ ys)) place ∙ sym (drop-drop ((k - a) * w) (length xs) (xs ++ ys)) ∙ ap (drop ((k - a) * w)) (drop_at xs ys (length xs) refl) in
          whole ∙ ap (number_from bits) rest ∙ sym part
    ])

-- one number, and the numbers after it
pub numbers_from-first : (bits count : ℕ) (xs ys : List ℕ) → IsTrue (is_bitpix bits) → length xs ≡ bits / 8 → numbers_from bits (1 + count) (xs ++ ys) ≡ number_from bits xs ∷ numbers_from bits count ys
unfolding numbers_from
numbers_from-first bits count xs ys known len =
    let e : 0 * (bits / 8) ≡ 0 = omega arith in
    numbers_from-append bits 1 count xs ys known (omega arith)
    ∙ ap (λ (n : ℕ). number_from bits (drop n xs) ∷ numbers_from bits count ys) e

-- a number's bytes, and a list's
pub length-number_bytes : (bits : ℕ) (v : ℤ) → IsTrue (is_bitpix bits) → length (number_bytes bits v) ≡ bits / 8
length-number_bytes bits v known =
    by_bitpix (λ b. length (number_bytes b v) ≡ b / 8) bits known
    (length-bytes_high_first 1 (cast_unsigned w8 v))
    (length-bytes_high_first 2 (cast_unsigned w16 v))
    (length-bytes_high_first 4 (cast_unsigned w32 v))
    (length-bytes_high_first 8 (cast_unsigned w64 v))

pub stored_bytes-nil : (bits : ℕ) → stored_bytes bits [] ≡ []
unfolding stored_bytes
stored_bytes-nil bits = refl

pub stored_bytes-cons : (bits : ℕ) (v : ℤ) (vs : List ℤ) → stored_bytes bits (v ∷ vs) ≡ number_bytes bits v ++ stored_bytes bits vs
unfolding stored_bytes
stored_bytes-cons bits v vs = refl

pub stored_bytes-append : (bits : ℕ) (vs ws : List ℤ) → stored_bytes bits (vs ++ ws) ≡ stored_bytes bits vs ++ stored_bytes bits ws
unfolding stored_bytes
stored_bytes-append bits vs ws = flat_map-append (number_bytes bits) vs ws

pub length-stored_bytes : (bits : ℕ) (vs : List ℤ) → IsTrue (is_bitpix bits) → length (stored_bytes bits vs) ≡ length vs * (bits / 8)
length-stored_bytes bits [] known = rw (stored_bytes-nil bits) (omega arith)
length-stored_bytes bits (v ∷ vs) known =
    let first : length (number_bytes bits v) ≡ bits / 8 = length-number_bytes bits v known in
    let rest : length (stored_bytes bits vs) ≡ length vs * (bits / 8) = length-stored_bytes bits vs known in
    ap length (stored_bytes-cons bits v vs) ∙ length-append (number_bytes bits v) (stored_bytes bits vs) ∙ omega arith

-- a number of a width, for the casts to and from it
pub fits_number : (w : Width) (v : ℤ) → negsuc (2 ^ hbits w - 1) ≤ℤ v → v ≤ℤ pos (2 ^ hbits w - 1) → SFits w v
fits_number w (pos n) low high = let some : 0 < 2 ^ hbits w = pow_pos (hbits w) in record { sfits = omega (arith, ints) }
fits_number w (negsuc n) low high = let some : 0 < 2 ^ hbits w = pow_pos (hbits w) in record { sfits = omega (arith, ints) }

-- the number of a number's bytes
number_from-number_bytes : (bits : ℕ) (v : ℤ) → IsTrue (is_bitpix bits) → IsNumber bits v → number_from bits (number_bytes bits v) ≡ v
number_from-number_bytes bits v known of =
    by_bitpix (λ b. IsNumber b v → number_from b (number_bytes b v) ≡ v) bits known
    (λ of. ap (λ (bytes : List ℕ). pos (big_from 0 1 bytes)) (sym (append-nil (bytes_high_first 1 (cast_unsigned w8 v)))) ∙ ap pos (big_number-reads_back 1 (cast_unsigned w8 v) [] (unsigned_byte v of).0) ∙ (unsigned_byte v of).1)
    (λ of.
    let fits : SFits w16 v = fits_number w16 v of.low of.high in
    signed_back 2 w16 v fits (omega (arith, Fits-of_z {w = w16} {z = v} fits)))
    (λ of.
    let fits : SFits w32 v = fits_number w32 v of.low of.high in
    signed_back 4 w32 v fits (omega (arith, Fits-of_z {w = w32} {z = v} fits)))
    (λ of.
    let fits : SFits w64 v = fits_number w64 v of.low of.high in
    signed_back 8 w64 v fits (omega (arith, Fits-of_z {w = w64} {z = v} fits)))
    of
  where
    unsigned_byte : (v : ℤ) → IsNumber 8 v → (cast_unsigned w8 v < 256 ^ 1) × (pos (cast_unsigned w8 v) ≡ v)
    unsigned_byte (pos n) of = (omega (arith, ints), refl)
    unsigned_byte (negsuc n) of = absurd (omega (arith, ints))

    signed_back : (n : ℕ) (w : Width) (v : ℤ) → SFits w v → cast_unsigned w v < 256 ^ n → cast_signed w (big_from 0 n (bytes_high_first n (cast_unsigned w v))) ≡ v
    signed_back n w v fits below =
        ap (λ (bytes : List ℕ). cast_signed w (big_from 0 n bytes)) (sym (append-nil (bytes_high_first n (cast_unsigned w v))))
        ∙ ap (cast_signed w) (big_number-reads_back n (cast_unsigned w v) [] below) ∙ to_z-of_z w v fits

-- the numbers of the bytes of numbers
pub numbers_from-stored_bytes : (bits : ℕ) (vs : List ℤ) → IsTrue (is_bitpix bits) → All (IsNumber bits) vs → numbers_from bits (length vs) (stored_bytes bits vs) ≡ vs
unfolding numbers_from
numbers_from-stored_bytes bits [] known all = refl
numbers_from-stored_bytes bits (v ∷ vs) known all =
    let e : suc (length vs) ≡ 1 + length vs = omega arith in
    let first : number_from bits (number_bytes bits v) ≡ v = number_from-number_bytes bits v known (All-head (IsNumber bits) v vs all) in
    let rest : numbers_from bits (length vs) (stored_bytes bits vs) ≡ vs = numbers_from-stored_bytes bits vs known (All-tail (IsNumber bits) v vs all) in
    ap (λ (n : ℕ). numbers_from bits n (stored_bytes bits (v ∷ vs))) e
    ∙ ap (numbers_from bits (1 + length vs)) (stored_bytes-cons bits v vs)
    ∙ numbers_from-first bits (length vs) (number_bytes bits v) (stored_bytes bits vs) known (length-number_bytes bits v known)
    ∙ ap (λ (u : ℤ). u ∷ numbers_from bits (length vs) (stored_bytes bits vs)) first ∙ ap (λ (us : List ℤ). v ∷ us) rest

-- the bytes of what stands in bytes: what stands above them has no part in it
byte_at-is : (k x : ℕ) → byte_at k x ≡ x / 256 ^ k % 256
byte_at-is zero x = ap (λ (y : ℕ). y % 256) (sym (div-one x))
byte_at-is (suc k) x = refl

bytes-big_from : (n high : ℕ) (bytes : List ℕ) → length bytes ≡ n → AreBytes bytes → bytes_high_first n (high * 256 ^ n + big_from 0 n bytes) ≡ bytes
bytes-big_from zero high [] len h = refl
bytes-big_from zero high (b ∷ bytes) len h = absurd (omega arith)
bytes-big_from (suc n) high [] len h = absurd (omega arith)
bytes-big_from (suc n) high (b ∷ bytes) len h =
    let tail : AreBytes bytes = λ i. h (suc i) in
    let low : big_from 0 n bytes < 256 ^ n = big_from-lt 0 n bytes tail in
    let byte : b < 256 = h 0 in
    let whole : high * 256 ^ suc n + big_from 0 (suc n) (b ∷ bytes) ≡ (high * 256 + b) * 256 ^ n + big_from 0 n bytes =
    rw (big_from-cons 0 n b bytes, pow-succ' 256 n, add-mul (high * 256) b (256 ^ n), mul_assoc high 256 (256 ^ n)) (omega arith) in
    let top : byte_at n (high * 256 ^ suc n + big_from 0 (suc n) (b ∷ bytes)) ≡ b =
    byte_at-is n (high * 256 ^ suc n + big_from 0 (suc n) (b ∷ bytes))
    ∙ ap (λ (x : ℕ). x / 256 ^ n % 256) whole
    ∙ ap (λ (x : ℕ). x % 256) (div-mul-add (high * 256 + b) (256 ^ n) (big_from 0 n bytes) low)
    ∙ mod-mul-add high 256 b byte in
    ap (λ (x : ℕ). x ∷ bytes_high_first n (high * 256 ^ suc n + big_from 0 (suc n) (b ∷ bytes))) top
    ∙ ap (λ (x : ℕ). b ∷ bytes_high_first n x) whole
    ∙ ap (λ (xs : List ℕ). b ∷ xs) (bytes-big_from n (high * 256 + b) bytes (omega arith) tail)

bytes-of_number : (n : ℕ) (bytes : List ℕ) → length bytes ≡ n → AreBytes bytes → bytes_high_first n (big_from 0 n bytes) ≡ bytes
bytes-of_number n bytes len h =
    let e : big_from 0 n bytes ≡ 0 * 256 ^ n + big_from 0 n bytes = omega arith in
    ap (bytes_high_first n) e ∙ bytes-big_from n 0 bytes len h

-- the bytes of the number that some bytes are
number_bytes-number_from : (bits : ℕ) (bytes : List ℕ) → IsTrue (is_bitpix bits) → length bytes ≡ bits / 8 → AreBytes bytes → number_bytes bits (number_from bits bytes) ≡ bytes
number_bytes-number_from bits bytes known len h =
    by_bitpix (λ b. length bytes ≡ b / 8 → number_bytes b (number_from b bytes) ≡ bytes) bits known
    (λ len. bytes-of_number 1 bytes len h)
    (λ len. signed_bytes 2 w16 len (omega arith))
    (λ len. signed_bytes 4 w32 len (omega arith))
    (λ len. signed_bytes 8 w64 len (omega arith))
    len
  where
    signed_bytes : (n : ℕ) (w : Width) → length bytes ≡ n → 256 ^ n ≤ 2 ^ bit_count w → bytes_high_first n (cast_unsigned w (cast_signed w (big_from 0 n bytes))) ≡ bytes
    signed_bytes n w len room =
        let low : big_from 0 n bytes < 256 ^ n = big_from-lt 0 n bytes h in
        ap (bytes_high_first n) (of_z-to_z w (big_from 0 n bytes) (omega arith)) ∙ bytes-of_number n bytes len h

pub stored_bytes-numbers_from : (bits count : ℕ) (bytes : List ℕ) → IsTrue (is_bitpix bits) → length bytes ≡ count * (bits / 8) → AreBytes bytes → stored_bytes bits (numbers_from bits count bytes) ≡ bytes
unfolding numbers_from
stored_bytes-numbers_from bits zero bytes known len h = stored_bytes-nil bits ∙ sym (nil_from_length bytes (omega arith))
stored_bytes-numbers_from bits (suc count) bytes known len h =
    let w : ℕ = bits / 8 in
    let e : suc count ≡ 1 + count = omega arith in
    let all : suc count * w ≡ w + count * w = ap (λ (n : ℕ). n * w) e ∙ add-mul 1 count w ∙ omega arith in
    let front : length (take w bytes) ≡ w = length-take-le w bytes (omega arith) in
    let back : length (drop w bytes) ≡ count * w = length-drop w bytes ∙ omega arith in
    let rest : stored_bytes bits (numbers_from bits count (drop w bytes)) ≡ drop w bytes = stored_bytes-numbers_from bits count (drop w bytes) known back (AreBytes-drop w bytes h) in
    let first : number_bytes bits (number_from bits (take w bytes)) ≡ take w bytes = number_bytes-number_from bits (take w bytes) known front (AreBytes-take w bytes h) in
    let split : numbers_from bits (suc count) bytes ≡ number_from bits (take w bytes) ∷ numbers_from bits count (drop w bytes) =
    ap (λ (n : ℕ). numbers_from bits n bytes) e ∙ ap (numbers_from bits (1 + count)) (sym (take-append-drop w bytes)) ∙ numbers_from-first bits count (take w bytes) (drop w bytes) known front in
    ap (stored_bytes bits) split ∙ stored_bytes-cons bits (number_from bits (take w bytes)) (numbers_from bits count (drop w bytes))
    ∙ rw (first, rest) (take-append-drop w bytes)

-- what stands in bytes is a number of the width
number_from-number : (bits : ℕ) (bytes : List ℕ) → IsTrue (is_bitpix bits) → AreBytes bytes → IsNumber bits (number_from bits bytes)
number_from-number bits bytes known h =
    by_bitpix (λ b. IsNumber b (number_from b bytes)) bits known
    (let low : big_from 0 1 bytes < 256 = big_from-lt 0 1 bytes h in record { low = omega (arith, ints); high = omega (arith, ints) })
    (let low : big_from 0 2 bytes < 2 ^ 16 = big_from-lt 0 2 bytes h in record { low = omega (arith, ints); high = omega (arith, ints) })
    (let low : big_from 0 4 bytes < 2 ^ 32 = big_from-lt 0 4 bytes h in record { low = omega (arith, ints); high = omega (arith, ints) })
    (let low : big_from 0 8 bytes < 2 ^ 64 = big_from-lt 0 8 bytes h in record { low = omega (arith, ints); high = omega (arith, ints) })

pub numbers_from-numbers : (bits count : ℕ) (bytes : List ℕ) → IsTrue (is_bitpix bits) → AreBytes bytes → All (IsNumber bits) (numbers_from bits count bytes)
numbers_from-numbers bits count bytes known h = λ k d below.
    let within : k < count = omega (arith, length-numbers_from bits count bytes) in
    rw (get_or-numbers_from bits count bytes k d within) (number_from-number bits (drop (k * (bits / 8)) bytes) known (AreBytes-drop (k * (bits / 8)) bytes h))

-- a part of the bytes that has whole numbers
pub number_from-take : (bits k : ℕ) (bytes : List ℕ) → IsTrue (is_bitpix bits) → bits / 8 ≤ k → bits / 8 ≤ length bytes → number_from bits (take k bytes) ≡ number_from bits bytes
number_from-take bits k bytes known fits room =
    let long : bits / 8 ≤ length (take k bytes) = rw (length-take k bytes) (omega arith) in
    sym (number_from-append bits (take k bytes) (drop k bytes) known long) ∙ ap (number_from bits) (take-append-drop k bytes)

pub number_from-part : (bits count start total i : ℕ) (bytes : List ℕ) → IsTrue (is_bitpix bits) → i < count → start + count ≤ total → length bytes ≡ total * (bits / 8)
    → number_from bits (drop (i * (bits / 8)) (take (count * (bits / 8)) (drop (start * (bits / 8)) bytes))) ≡ number_from bits (drop ((start + i) * (bits / 8)) bytes)
number_from-part bits count start total i bytes known within room len =
    let w : ℕ = bits / 8 in
    let more : ℕ = count * w - i * w in
    let fits : i * w + w ≤ count * w = row_fits i w count w within (omega arith) in
    let long : count * w ≡ i * w + more = omega arith in
    let place : start * w + i * w ≡ (start + i) * w = sym (add-mul start i w) in
    let whole : (start + i) * w + w ≤ total * w = row_fits (start + i) w total w (omega arith) (omega arith) in
    let rest : length (drop (start * w + i * w) bytes) ≡ total * w - (start * w + i * w) = length-drop (start * w + i * w) bytes ∙ ap (λ (n : ℕ). n - (start * w + i * w)) len in
    ap (λ (n : ℕ). number_from bits (drop (i * w) (take n (drop (start * w) bytes)))) long
    ∙ ap (number_from bits) (drop-take (i * w) more (drop (start * w) bytes) ∙ ap (take more) (drop-drop (i * w) (start * w) bytes))
    ∙ number_from-take bits more (drop (start * w + i * w) bytes) known (omega arith) (omega arith)
    ∙ ap (λ (n : ℕ). number_from bits (drop n bytes)) place

pub numbers_from-part : (bits count start total i : ℕ) (bytes : List ℕ) (d : ℤ) → IsTrue (is_bitpix bits) → i < count → start + count ≤ total → length bytes ≡ total * (bits / 8)
    → get_or (numbers_from bits count (take (count * (bits / 8)) (drop (start * (bits / 8)) bytes))) i d ≡ get_or (numbers_from bits total bytes) (start + i) d
numbers_from-part bits count start total i bytes d known within room len =
    get_or-numbers_from bits count (take (count * (bits / 8)) (drop (start * (bits / 8)) bytes)) i d within
    ∙ number_from-part bits count start total i bytes known within room len
    ∙ sym (get_or-numbers_from bits total bytes (start + i) d (omega arith))
