-- Whole numbers, as the standard library reads them.
use Rattle.std.proofs.Common.{◌≡◌, ℕ, zero, suc, ◌^◌, ◌<◌, Bool, true, false, cond, ◌&&◌, List, [], ◌∷◌, length, drop, Some, None, Result, Ok, Err, refl, sym, ap, ◌∙◌, arith, ℤ, pos, negsuc, w64}
use Rattle.std.specs.Prelude.{◌==◌, nat_lt, unsigned_abs, FitsSigned}
use Rattle.std.specs.Fmt.{signed_decimal}
use Rattle.std.specs.Int.{IsInRange}
use Rattle.std.specs.List.{list_all}
use Rattle.std.specs.Result.{result_ok}
use Rattle.std.specs.Str.{IsAscii, IsUtf8}
use Rattle.std.specs.Str.Parse.{AllDigits, ParsesSigned, without_leading_sign, signed_digits_value}
use Rattle.std.proofs.lemmas.Bool.{and_from, and_parts}
use Rattle.std.proofs.lemmas.Bool.Decides.{nat_tests}
use Rattle.std.proofs.lemmas.Str.{IsUtf8-from_ascii}
use Rattle.std.proofs.lemmas.Str.Parse.{tells_digits}
use Rattle.decimal_scale.specs.Real.{is_digit, is_whole}
use Rattle.decimal_scale.specs.Whole.{fits_64_bits, whole_value}
use Rattle.decimal_scale.proofs.RoundTrip.{all_from_digits, whole_exponent}

-- ---- 64 bits

fits : (z : ℤ) → FitsSigned w64 z → fits_64_bits z ≡ true
fits (pos n) f = let small : n < 2 ^ 63 = f.sfits in grind (arith, nat_tests)
fits (negsuc n) f = let small : n < 2 ^ 63 = f.sfits in grind (arith, nat_tests)

unfits : (z : ℤ) → fits_64_bits z ≡ true → FitsSigned w64 z
unfits (pos n) e = record { sfits = grind (arith, nat_tests) }
unfits (negsuc n) e = record { sfits = grind (arith, nat_tests) }

size : (z : ℤ) → fits_64_bits z ≡ true → unsigned_abs z < 2 ^ 64
size (pos n) e = grind (arith, nat_tests)
size (negsuc n) e = grind (arith, nat_tests)

-- ---- digits

digit : (c : ℕ) → is_digit c ≡ true → IsInRange 48 57 c
digit c e = grind (arith, nat_tests)

all_digits : (ds : List ℕ) → list_all is_digit ds ≡ true → AllDigits 10 ds
all_digits [] e = tt
all_digits (d ∷ ds) e =
    let parts = and_parts (is_digit d) (list_all is_digit ds) e in
    tells_digits.more d ds (digit d parts.0) (all_digits ds parts.1)

ascii_digits : (ds : List ℕ) → list_all is_digit ds ≡ true → IsAscii ds
ascii_digits [] e i = omega arith
ascii_digits (d ∷ ds) e zero = let parts = and_parts (is_digit d) (list_all is_digit ds) e in grind (arith, nat_tests, parts)
ascii_digits (d ∷ ds) e (suc i) = ascii_digits ds (and_parts (is_digit d) (list_all is_digit ds) e).1 i

whole_digits : (digits : List ℕ) → is_whole digits ≡ true → (0 < length digits) × (list_all is_digit digits ≡ true)
unfolding is_whole
whole_digits digits e =
    let parts = and_parts (list_all is_digit digits) (nat_lt 0 (length digits)) e in
    (grind (arith, nat_tests, parts), parts.0)

digits_whole : (digits : List ℕ) → 0 < length digits → list_all is_digit digits ≡ true → is_whole digits ≡ true
unfolding is_whole
digits_whole digits some all = and_from (list_all is_digit digits) (nat_lt 0 (length digits)) all (grind (arith, nat_tests))

-- ---- bytes

-- what has nothing but digits after its sign is ASCII
after_sign : (c : ℕ) (cs : List ℕ) → IsAscii (without_leading_sign (c ∷ cs)) → IsAscii (c ∷ cs)
after_sign c cs = by (c == 45) (c == 43) refl refl
  where
    more : c < 128 → IsAscii cs → IsAscii (c ∷ cs)
    more small rest zero = small
    more small rest (suc i) = rest i

    by : (minus plus : Bool) → (c == 45) ≡ minus → (c == 43) ≡ plus → IsAscii (cond minus cs (drop (cond plus 1 0) (c ∷ cs))) → IsAscii (c ∷ cs)
    by true plus is_minus is_plus rest = more (grind (arith, nat_tests)) rest
    by false true is_minus is_plus rest = more (grind (arith, nat_tests)) rest
    by false false is_minus is_plus rest = rest

is_utf8 : (text : List ℕ) → is_whole (without_leading_sign text) ≡ true → IsUtf8 text
is_utf8 [] e = absurd (omega (arith, (whole_digits [] e).0))
is_utf8 (c ∷ cs) e = IsUtf8-from_ascii (c ∷ cs) (after_sign c cs (ascii_digits (without_leading_sign (c ∷ cs)) (whole_digits (without_leading_sign (c ∷ cs)) e).1))

-- ---- the number

not_true : (b : Bool) → (b ≡ true → ⊥) → b ≡ false
not_true true h = absurd (h refl)
not_true false h = refl

decides : (text : List ℕ) (form fitting : Bool) → is_whole (without_leading_sign text) ≡ form → fits_64_bits (signed_digits_value 10 text) ≡ fitting
    → whole_value text ≡ cond (form && fitting) (Some (signed_digits_value 10 text)) None
unfolding whole_value
decides text form fitting e f = rw (e, f) refl

refused : (text : List ℕ) → ((is_whole (without_leading_sign text) && fits_64_bits (signed_digits_value 10 text)) ≡ true → ⊥) → whole_value text ≡ None
unfolding whole_value
refused text not_so = rw (not_true (is_whole (without_leading_sign text) && fits_64_bits (signed_digits_value 10 text)) not_so) refl

-- the number that the standard library reads
pub whole_parsed : {E : Type 0} (text : List ℕ) (r : Result ℤ E) → ParsesSigned w64 10 text r → result_ok r ≡ whole_value text
whole_parsed text (Ok n) read =
    sym (decides text true true (digits_whole (without_leading_sign text) read.0.0.0 (all_from_digits (without_leading_sign text) read.0.0.1))
    (fits (signed_digits_value 10 text) read.0.1) ∙ ap Some (sym read.1))
whole_parsed text (Err error) read =
    sym (refused text (λ yes.
    let parts = and_parts (is_whole (without_leading_sign text)) (fits_64_bits (signed_digits_value 10 text)) yes in
    let digits = whole_digits (without_leading_sign text) parts.0 in
    read ((digits.0, all_digits (without_leading_sign text) digits.1), unfits (signed_digits_value 10 text) parts.1)))

-- what is no text is no number
pub whole_not_utf8 : (text : List ℕ) → (IsUtf8 text → ⊥) → whole_value text ≡ None
whole_not_utf8 text not_so =
    refused text (λ yes. not_so (is_utf8 text (and_parts (is_whole (without_leading_sign text)) (fits_64_bits (signed_digits_value 10 text)) yes).0))

-- a number that was written is read again
pub whole_is_read : (z : ℤ) → fits_64_bits z ≡ true → whole_value (signed_decimal z) ≡ Some z
whole_is_read z e =
    let written : (is_whole (without_leading_sign (signed_decimal z)) ≡ true) × (signed_digits_value 10 (signed_decimal z) ≡ z) = whole_exponent z (size z e) in
    decides (signed_decimal z) true true written.0 (ap fits_64_bits written.1 ∙ e) ∙ ap Some written.1
