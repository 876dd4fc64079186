-- Numbers, as they are written: their texts are values with no blank at the ends, and are read as the same numbers.
use Rattle.std.proofs.Common.{◌≡◌, ℕ, zero, suc, ◌+◌, ◌^◌, ◌<◌, ◌≤◌, Bool, true, false, cond, T, ◌&&◌, ◌||◌, ◌==◌, nat_le, eqb-true, le-leb, leb-true, List, [], ◌∷◌, ◌++◌, length, length-append, drop, ℤ, pos, negsuc, int_le, ◌≤ℤ◌, unsigned_abs, Some, IsTrue, decimal, codes, refl, sym, ap, subst, inl, inr, arith, find, le_trans}
use Rattle.std.specs.Fmt.{signed_decimal}
use Rattle.std.specs.List.{AllByRecursion, list_all, range_with_len}
use Rattle.std.specs.Result.{result_ok}
use Rattle.std.specs.Str.Parse.{AllDigits, without_leading_sign}
use Rattle.std.proofs.Math.Nat.{pow-le-pow_right}
use Rattle.std.proofs.lemmas.Bool.{and_parts, and_from, or_cases}
use Rattle.std.proofs.lemmas.Bool.Decides.{nat_tests}
use Rattle.std.proofs.lemmas.Fmt.{decimal_is_IsNumeral, length-decimal-le}
use Rattle.std.proofs.lemmas.Int.{ints}
use Rattle.std.proofs.lemmas.List.Elements.{All-from_recursion}
use Rattle.std.proofs.lemmas.List.Sums.{list_all-from_AllPass}
use Rattle.std.proofs.lemmas.Str.Parse.{digit_from_value}
use Rattle.decimal_scale.specs.Laws.{WrittenIsRead, WholeIsRead}
use Rattle.decimal_scale.specs.Whole.{fits_64_bits}
use Rattle.decimal_scale.specs.Real.{DecimalNumber, IsNormal, real_text}
use Rattle.parent_rule.specs.Depth.{is_bitpix, least_number, greatest_number, IsNumber}
use Rattle.survey_conf.specs.Lines.{is_blank, is_value_byte, is_value}
use Rattle.survey_conf.specs.Numbers.{whole, natural, natural_that, order, lowest_order, bitpix, width_exponent, real, scale, not_zero}
use Rattle.survey_conf.proofs.RoundTripBytes.{IsBare, prefix_len_none, suffix_len_none}
use Rattle.survey_conf.proofs.RoundTripLines.{all_weaker, all_append}

-- ---- texts without blanks

pub record IsVisible (b : ℕ) : Type 0 where
  pub low : 33 ≤ b
  pub high : b ≤ 126

visible_value : (b : ℕ) → IsVisible b → is_value_byte b ≡ true
visible_value b h = grind (arith, nat_tests)

visible_blank : (b : ℕ) → IsVisible b → is_blank b ≡ false
visible_blank b h = grind (arith, nat_tests)

-- one to `most` bytes, none of them a blank
pub record IsWord (most : ℕ) (text : List ℕ) : Type 0 where
  pub some : 1 ≤ length text
  pub short : length text ≤ most
  pub bytes : AllByRecursion IsVisible text

pub word_value : (most : ℕ) (text : List ℕ) → most ≤ 1024 → IsWord most text → is_value text ≡ true
unfolding is_value
word_value most text few h =
    let some : 1 ≤ length text = h.some in
    let short : length text ≤ 1024 = le_trans h.short few in
    let all : list_all is_value_byte text ≡ true =
    list_all-from_AllPass is_value_byte text
    (All-from_recursion (λ b. is_value_byte b ≡ true) text (all_weaker IsVisible (λ b. is_value_byte b ≡ true) text visible_value h.bytes)) in
    rw (le-leb 1 (length text) some, le-leb (length text) 1024 short, all) refl

bare_word : (text : List ℕ) → 1 ≤ length text → AllByRecursion IsVisible text → IsBare text
bare_word [] some h = absurd (omega arith)
bare_word (b ∷ bytes) some h = record {
  some = some;
  front = prefix_len_none is_blank b bytes (visible_blank b h.0);
  back = suffix_len_none is_blank (b ∷ bytes) (all_weaker IsVisible (λ x. is_blank x ≡ false) (b ∷ bytes) visible_blank h);
}

pub word_bare : (most : ℕ) (text : List ℕ) → IsWord most text → IsBare text
word_bare most text h = bare_word text h.some h.bytes

-- ---- digits

abbrev IsDigitByte : ℕ → Type 0
IsDigitByte b = (48 ≤ b) × (b ≤ 57)

digit_bytes : (ds : List ℕ) → AllDigits 10 ds → AllByRecursion IsDigitByte ds
digit_bytes [] h = tt
digit_bytes (d ∷ ds) h = (digit_from_value d h.0, digit_bytes ds h.1)

digit_visible : (b : ℕ) → IsDigitByte b → IsVisible b
digit_visible b h = record { low = omega arith; high = omega arith }

-- the digits of a number up to 2^63
record AreDigits (n : ℕ) : Type 0 where
  some : 1 ≤ length (decimal n)
  short : length (decimal n) ≤ 19
  bytes : AllByRecursion IsDigitByte (decimal n)

digits_of : (n : ℕ) → n ≤ 2 ^ 63 → AreDigits n
digits_of n small =
    let numeral = decimal_is_IsNumeral n (omega arith) in
    record {
      some = numeral.0.0;
      short = length-decimal-le 19 n (omega arith) (omega arith) (omega arith);
      bytes = digit_bytes (decimal n) numeral.0.1;
    }

-- ---- whole numbers

-- what is written of numbers is read again
pub record NumbersAreRead : Type 0 where
  pub whole : WholeIsRead
  pub real : WrittenIsRead

-- a text without its sign is no longer
length-without_leading_sign-le : (text : List ℕ) → length (without_leading_sign text) ≤ length text
length-without_leading_sign-le [] = omega arith
length-without_leading_sign-le (c ∷ cs) = by (c == 45) (c == 43)
  where
    by : (minus plus : Bool) → length (cond minus cs (drop (cond plus 1 0) (c ∷ cs))) ≤ length (c ∷ cs)
    by true plus = omega arith
    by false true = omega arith
    by false false = omega arith

signed_short : (z : ℤ) → fits_64_bits z ≡ true → length (without_leading_sign (signed_decimal z)) ≤ 19
signed_short (pos n) h =
    let high = leb-true n 9223372036854775807 h in
    let digits = digits_of n (omega arith) in
    le_trans (length-without_leading_sign-le (decimal n)) digits.short
signed_short (negsuc m) h =
    let low = leb-true m 9223372036854775807 (and_parts (nat_le m 9223372036854775807) true h).0 in
    let digits = digits_of (suc m) (omega arith) in
    digits.short

pub whole_signed : NumbersAreRead → (z : ℤ) → fits_64_bits z ≡ true → whole (signed_decimal z) ≡ Some z
unfolding whole
whole_signed law z h = rw (le-leb (length (without_leading_sign (signed_decimal z))) 19 (signed_short z h)) (law.whole z h)

natural_decimal : NumbersAreRead → (n : ℕ) → n < 2 ^ 63 → natural (decimal n) ≡ Some n
unfolding natural
natural_decimal law n small = rw (whole_signed law (pos n) (le-leb n 9223372036854775807 (omega arith))) refl

natural_that_decimal : NumbersAreRead → (test : ℕ → Bool) (n : ℕ) → n < 2 ^ 63 → test n ≡ true → natural_that test (decimal n) ≡ Some n
natural_that_decimal law test n small h = rw (natural_decimal law n small, h) refl

pub order_read : NumbersAreRead → (n : ℕ) → 3 ≤ n → n ≤ 11 → order (decimal n) ≡ Some n
order_read law n low high = natural_that_decimal law (λ n. nat_le 3 n && nat_le n 11) n (omega arith) (and_from (nat_le 3 n) (nat_le n 11) (le-leb 3 n low) (le-leb n 11 high))

pub lowest_order_read : NumbersAreRead → (n : ℕ) → n ≤ 3 → lowest_order (decimal n) ≡ Some n
lowest_order_read law n high = natural_that_decimal law (λ n. nat_le n 3) n (omega arith) (le-leb n 3 high)

pub bitpix_small : (n : ℕ) → IsTrue (is_bitpix n) → n ≤ 64
bitpix_small n h = grind (arith, nat_tests)

pub bitpix_read : NumbersAreRead → (n : ℕ) → IsTrue (is_bitpix n) → bitpix (decimal n) ≡ Some n
bitpix_read law n h = natural_that_decimal law is_bitpix n (let small = bitpix_small n h in omega arith) h

exponent_found : (n : ℕ) → 1 ≤ n → n ≤ 9 → find (λ m. 2 ^ n == 2 ^ m) (range_with_len 1 9) ≡ Some n
exponent_found zero low high = absurd (omega arith)
exponent_found (suc zero) low high = refl
exponent_found (suc (suc zero)) low high = refl
exponent_found (suc (suc (suc zero))) low high = refl
exponent_found (suc (suc (suc (suc zero)))) low high = refl
exponent_found (suc (suc (suc (suc (suc zero))))) low high = refl
exponent_found (suc (suc (suc (suc (suc (suc zero)))))) low high = refl
exponent_found (suc (suc (suc (suc (suc (suc (suc zero))))))) low high = refl
exponent_found (suc (suc (suc (suc (suc (suc (suc (suc zero)))))))) low high = refl
exponent_found (suc (suc (suc (suc (suc (suc (suc (suc (suc zero))))))))) low high = refl
exponent_found (suc (suc (suc (suc (suc (suc (suc (suc (suc (suc n)))))))))) low high = absurd (omega arith)

pub width_small : (n : ℕ) → n ≤ 9 → 2 ^ n ≤ 512
width_small n high = pow-le-pow_right {n = 2} (omega arith) {i = n} {j = 9} high

pub width_read : NumbersAreRead → (n : ℕ) → 1 ≤ n → n ≤ 9 → width_exponent (decimal (2 ^ n)) ≡ Some n
width_read law n low high = rw (natural_decimal law (2 ^ n) (let small = width_small n high in omega arith)) (exponent_found n low high)

-- the blank number of a depth
T_true : (b : Bool) → T b → b ≡ true
T_true true h = refl
T_true false h = absurd h

le_test : (a b : ℤ) → a ≤ℤ b → int_le a b ≡ true
le_test a b h = T_true (int_le a b) h.le

AreWithin : ℕ → Type 0
AreWithin bits = (negsuc 9223372036854775807 ≤ℤ least_number bits) × (greatest_number bits ≤ℤ pos 9223372036854775807)

at_width : (n bits : ℕ) → (bits == n) ≡ true → AreWithin n → AreWithin bits
at_width n bits e h = subst AreWithin (sym (eqb-true bits n e)) h

limits_within : (bits : ℕ) → is_bitpix bits ≡ true → AreWithin bits
unfolding AreWithin
limits_within bits h =
    let b8 = bits == 8 in
    let b16 = bits == 16 in
    let b32 = bits == 32 in
    elim (or_cases (b8 || b16 || b32) (bits == 64) h) [
      | inr e ↦ at_width 64 bits e (record { le = tt }, record { le = tt })
      | inl r ↦ elim (or_cases (b8 || b16) b32 r) [
        | inr e ↦ at_width 32 bits e (record { le = tt }, record { le = tt })
        | inl r ↦ elim (or_cases b8 b16 r) [
          | inr e ↦ at_width 16 bits e (record { le = tt }, record { le = tt })
          | inl e ↦ at_width 8 bits e (record { le = tt }, record { le = tt })
        ]
      ]
    ]

fits_between : (a z b : ℤ) → a ≤ℤ z → z ≤ℤ b → negsuc 9223372036854775807 ≤ℤ a → b ≤ℤ pos 9223372036854775807 → fits_64_bits z ≡ true
fits_between a z b low high least greatest =
    let l : negsuc 9223372036854775807 ≤ℤ z = omega (arith, ints) in
    let g : z ≤ℤ pos 9223372036854775807 = omega (arith, ints) in
    rw (le_test (negsuc 9223372036854775807) z l, le_test z (pos 9223372036854775807) g) refl

in_64_bits : (bits : ℕ) (z : ℤ) → IsTrue (is_bitpix bits) → IsNumber bits z → fits_64_bits z ≡ true
unfolding AreWithin
in_64_bits bits z h number =
    let within = limits_within bits h in
    fits_between (least_number bits) z (greatest_number bits) number.low number.high within.0 within.1

pub blank_read : NumbersAreRead → (bits : ℕ) (z : ℤ) → IsTrue (is_bitpix bits) → IsNumber bits z → whole (signed_decimal z) ≡ Some z
blank_read law bits z h number = whole_signed law z (in_64_bits bits z h number)

pub blank_of_depth : (bits : ℕ) (z : ℤ) → IsNumber bits z → (int_le (least_number bits) z && int_le z (greatest_number bits)) ≡ true
blank_of_depth bits z h = rw (le_test (least_number bits) z h.low, le_test z (greatest_number bits) h.high) refl

-- ---- reals

pub real_read : NumbersAreRead → (number : DecimalNumber) → IsNormal number → real (real_text number) ≡ Some number
real_read law number h = ap result_ok (law.real number h)

pub scale_read : NumbersAreRead → (number : DecimalNumber) → IsNormal number → not_zero number ≡ true → scale (real_text number) ≡ Some number
scale_read law number h other = rw (real_read law number h, other) refl

-- ---- the texts as values

decimal_word : (n : ℕ) → n ≤ 2 ^ 63 → IsWord 19 (decimal n)
decimal_word n small =
    let h = digits_of n small in
    record { some = h.some; short = h.short; bytes = all_weaker IsDigitByte IsVisible (decimal n) digit_visible h.bytes }

signed_word : (z : ℤ) → unsigned_abs z ≤ 2 ^ 63 → IsWord 20 (signed_decimal z)
signed_word (pos n) small =
    let h = decimal_word n small in
    record { some = h.some; short = (let short = h.short in omega arith); bytes = h.bytes }
signed_word (negsuc m) small =
    let h = decimal_word (suc m) small in
    record { some = omega arith; short = (let short = h.short in omega arith); bytes = (record { low = omega arith; high = omega arith }, h.bytes) }

word_append : (m n : ℕ) (xs ys : List ℕ) → IsWord m xs → IsWord n ys → IsWord (m + n) (xs ++ ys)
word_append m n xs ys f g =
    let few = f.short in
    let more = g.short in
    let some = f.some in
    record {
      some = omega (arith, length-append xs ys);
      short = omega (arith, length-append xs ys);
      bytes = all_append IsVisible xs ys f.bytes g.bytes;
    }

abs_within : (z : ℤ) → fits_64_bits z ≡ true → unsigned_abs z ≤ 2 ^ 63
abs_within (pos n) h = let high = leb-true n 9223372036854775807 h in omega arith
abs_within (negsuc m) h = let low = leb-true m 9223372036854775807 (and_parts (nat_le m 9223372036854775807) true h).0 in omega arith

exponent_within : (z : ℤ) → negsuc 399 ≤ℤ z → z ≤ℤ pos 400 → fits_64_bits z ≡ true
exponent_within z low high = fits_between (negsuc 399) z (pos 400) low high (record { le = tt }) (record { le = tt })

between_word : IsWord 3 (codes ".0E")
between_word = record {
  some = omega arith;
  short = omega arith;
  bytes = (record { low = omega arith; high = omega arith }, (record { low = omega arith; high = omega arith }, (record { low = omega arith; high = omega arith }, tt)));
}

pub real_word : (number : DecimalNumber) → IsNormal number → IsWord 43 (real_text number)
unfolding real_text
real_word number h =
    let digits = h.digits in
    word_append 23 20 (signed_decimal number.mantissa ++ codes ".0E") (signed_decimal number.exp)
    (word_append 20 3 (signed_decimal number.mantissa) (codes ".0E") (signed_word number.mantissa (omega arith)) between_word)
    (signed_word number.exp (abs_within number.exp (exponent_within number.exp h.least_exp h.greatest_exp)))

pub blank_word : (bits : ℕ) (z : ℤ) → IsTrue (is_bitpix bits) → IsNumber bits z → IsWord 20 (signed_decimal z)
blank_word bits z h number = signed_word z (abs_within z (in_64_bits bits z h number))

pub small_word : (n : ℕ) → n ≤ 512 → IsWord 19 (decimal n)
small_word n h = decimal_word n (omega arith)
