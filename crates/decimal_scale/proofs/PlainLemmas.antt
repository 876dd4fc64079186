-- Plain decimals, as the standard library reads them.
use Rattle.std.proofs.Common.{◌≡◌, ◌≢◌, ℕ, zero, suc, ◌^◌, ◌<◌, ◌≤◌, Bool, true, false, ◌&&◌, List, length, get_or, decimal, Option, Some, None, Result, Ok, Err, MatchOption, refl, sym, ◌∙◌, ap, subst, arith}
use Rattle.std.specs.Prelude.{nat_lt}
use Rattle.std.specs.Result.{result_ok}
use Rattle.std.specs.Str.{IsUtf8, bytes_eq}
use Rattle.std.specs.Str.Parse.{AllDigits, digits_value, ParsesUnsigned}
use Rattle.std.proofs.lemmas.Bool.{and_parts}
use Rattle.std.proofs.lemmas.Bool.Decides.{nat_tests}
use Rattle.std.proofs.lemmas.Fmt.{IsAscii-decimal, decimal_digit, decimal_nonempty, first_decimal, digits_decimal, digits_value-decimal, decimal-digits_value, parse-decimal}
use Rattle.std.proofs.lemmas.Slice.Eq.{bytes_eq-Decides}
use Rattle.std.proofs.lemmas.Str.{IsUtf8-from_ascii}
use Rattle.std.proofs.lemmas.Str.Parse.{IsNumeralModel, numerals_by_value, tells_digits, parse_plain, digit_at}
use Rattle.decimal_scale.specs.Whole.{plain_value}

own : IsNumeralModel (AllDigits 10) (digits_value 10)
own = numerals_by_value (AllDigits 10) tells_digits

-- ---- the number of a text

-- plain decimals are read as their number
pub plain_written : (n : ℕ) → n < 2 ^ 64 → plain_value (decimal n) ≡ Some n
unfolding plain_value
plain_written n small =
    let value : digits_value 10 (decimal n) ≡ n = digits_value-decimal own n small in
    let in_range : nat_lt n (2 ^ 64) ≡ true = grind (arith, nat_tests) in
    let same : bytes_eq (decimal n) (decimal n) ≡ true = (bytes_eq-Decides (decimal n) (decimal n)).1 refl in
    rw (value, in_range, same) refl

found : (text : List ℕ) (b : Bool) → (nat_lt (digits_value 10 text) (2 ^ 64) && bytes_eq text (decimal (digits_value 10 text))) ≡ b
    → (n : ℕ) → plain_value text ≡ Some n → (text ≡ decimal n) × (n < 2 ^ 64)
unfolding plain_value
found text true e n is =
    let same : digits_value 10 text ≡ n = let some : plain_value text ≡ Some (digits_value 10 text) = rw e refl in cc in
    let parts = and_parts (nat_lt (digits_value 10 text) (2 ^ 64)) (bytes_eq text (decimal (digits_value 10 text))) e in
    ((bytes_eq-Decides text (decimal (digits_value 10 text))).0 parts.1 ∙ ap decimal same, grind (arith, nat_tests, parts, same))
found text false e n is = let none : plain_value text ≡ None = rw e refl in absurd cc

-- what is read as a number is that number in plain decimals
pub plain_read : (text : List ℕ) (n : ℕ) → plain_value text ≡ Some n → (text ≡ decimal n) × (n < 2 ^ 64)
plain_read text n is = found text (nat_lt (digits_value 10 text) (2 ^ 64) && bytes_eq text (decimal (digits_value 10 text))) refl n is

-- a text that is no plain decimals has no number
none_from : (text : List ℕ) (value : Option ℕ) → plain_value text ≡ value → ((n : ℕ) → n < 2 ^ 64 → text ≢ decimal n) → value ≡ None
none_from text None is none = refl
none_from text (Some n) is none = let read = plain_read text n is in absurd (none n read.1 read.0)

pub plain_none : (text : List ℕ) → ((n : ℕ) → n < 2 ^ 64 → text ≢ decimal n) → plain_value text ≡ None
plain_none text none = none_from text (plain_value text) refl none

pub plain_some : (text : List ℕ) (n : ℕ) → n < 2 ^ 64 → text ≡ decimal n → plain_value text ≡ Some n
plain_some text n small e = ap plain_value e ∙ plain_written n small

-- ---- how plain decimals start

pub record StartsPlain (text : List ℕ) : Type 0 where
  pub some : 0 < length text
  pub least : 48 ≤ get_or text 0 0
  pub greatest : get_or text 0 0 ≤ 57
  pub alone : get_or text 0 0 ≡ 48 → length text ≡ 1

decimal_starts_plain : (n : ℕ) → n < 2 ^ 64 → StartsPlain (decimal n)
decimal_starts_plain zero small =
    rw (decimal_digit 0 (omega arith))
    record { some = omega arith; least = omega arith; greatest = omega arith; alone = λ _. refl }
decimal_starts_plain (suc m) small =
    let first : 48 < get_or (decimal (suc m)) 0 0 = first_decimal (suc m) (omega arith) small in
    let some : 0 < length (decimal (suc m)) = decimal_nonempty (suc m) small in
    let digit = digit_at (decimal (suc m)) 0 (digits_decimal own (suc m) small) some in
    record { some = some; least = omega arith; greatest = omega arith; alone = λ e. absurd (omega arith) }

pub starts_plain : (text : List ℕ) (n : ℕ) → n < 2 ^ 64 → text ≡ decimal n → StartsPlain text
starts_plain text n small e = subst StartsPlain (sym e) (decimal_starts_plain n small)

-- ---- what the standard library reads

-- what is read of a text that starts as plain decimals do has these as its decimals
pub plain_parsed : {E : Type 0} (text : List ℕ) (r : Result ℕ E) → ParsesUnsigned 64 10 text r
    → 48 ≤ get_or text 0 0 → (get_or text 0 0 ≡ 48 → length text ≡ 1)
    → MatchOption (result_ok r) ((n : ℕ) → n < 2 ^ 64 → text ≢ decimal n) (λ n. text ≡ decimal n)
plain_parsed {E = E} text (Ok n) parses least alone =
    let p = parse_plain own {E = E} 64 text (Ok n) parses (λ e. omega arith) in
    sym (decimal-digits_value own text p.0.0 p.0.1 alone p.0.2) ∙ ap decimal (sym p.1)
plain_parsed {E = E} text (Err e) parses least alone =
    λ n small same. let r : Err e ≡ Ok n = parse-decimal {E = E} 64 n text (Err e) small small same parses in cc

-- what is read of a text that starts as plain decimals do is the number of the text
pub plain_parsed_value : {E : Type 0} (text : List ℕ) (r : Result ℕ E) → ParsesUnsigned 64 10 text r
    → 48 ≤ get_or text 0 0 → (get_or text 0 0 ≡ 48 → length text ≡ 1) → result_ok r ≡ plain_value text
plain_parsed_value {E = E} text (Ok n) parses least alone =
    let p = parse_plain own {E = E} 64 text (Ok n) parses (λ e. omega arith) in
    let spelled : text ≡ decimal n = plain_parsed {E = E} text (Ok n) parses least alone in
    sym (plain_some text n (omega (arith, p.0.2, p.1)) spelled)
plain_parsed_value {E = E} text (Err e) parses least alone =
    sym (plain_none text (plain_parsed {E = E} text (Err e) parses least alone))

-- what is no text is no number
pub plain_not_utf8 : (text : List ℕ) → (IsUtf8 text → ⊥) → (n : ℕ) → n < 2 ^ 64 → text ≢ decimal n
plain_not_utf8 text not_so n small e = not_so (subst IsUtf8 (sym e) (IsUtf8-from_ascii (decimal n) (IsAscii-decimal n small)))
