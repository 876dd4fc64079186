-- The cases of the normal form, and that it is one.
use Rattle.std.proofs.Common.{◌≡◌, ◌≢◌, ℕ, ◌%◌, ◌^◌, ◌<◌, ◌≤◌, Bool, true, false, ◌||◌, List, length, ℤ, pos, negsuc, refl, sym, ap, ap₂, ◌∙◌, subst, arith, Ok, Err}
use mir.Syntax.{w32, w128}
use mir.Val.{SFits, of_z, to_z}
use Rattle.std.specs.Prelude.{Result, nat_lt, ◌==◌, int_lt, unsigned_abs, ◌+ℤ◌, ◌-ℤ◌, ◌≤ℤ◌, ◌<ℤ◌}
use Rattle.std.specs.Str.Parse.{digits_value}
use Rattle.std.proofs.lemmas.Bool.Decides.{nat_tests}
use Rattle.std.proofs.lemmas.Int.{ints, to_z-of_z}
use Rattle.std.proofs.lemmas.Bool.{or_left, or_right, or_from}
use Rattle.decimal_scale.specs.declared.digits.Digits.{Digits}
use Rattle.decimal_scale.specs.Scan.{AreDigitsOf}
use Rattle.decimal_scale.specs.declared.fault.BadReal.{BadReal}
use Rattle.decimal_scale.specs.declared.fault.BadReal.TheVariants.{TooLong, Exponent}
use Rattle.decimal_scale.specs.Real.{DecimalNumber, IsNormal, significant, digits_after_point, exponent, signed, normal_form}
use Rattle.decimal_scale.proofs.Values.{significant_below, significant_last}
use Rattle.decimal_scale.proofs.Powers.{at_most_18}

above_18 : (n : ℕ) → 18 < n → nat_lt 18 n ≡ true
above_18 n h = grind (arith, nat_tests)

at_most : (n : ℕ) → n ≤ 18 → nat_lt 18 n ≡ false
at_most n h = grind (arith, nat_tests)

none : (n : ℕ) → n ≡ 0 → (n == 0) ≡ true
none n h = grind (arith, nat_tests)

some : (n : ℕ) → 0 < n → (n == 0) ≡ false
some n h = grind (arith, nat_tests)

pub form_too_long : (negative : Bool) (number : List ℕ) (written : ℤ) → 18 < length (significant number) →
    normal_form negative number written ≡ Err TooLong
unfolding normal_form
form_too_long negative number written h =
    let long : nat_lt 18 (length (significant number)) ≡ true = above_18 _ h in
    rw long refl

pub form_zero : (negative : Bool) (number : List ℕ) (written : ℤ) → length (significant number) ≡ 0 →
    normal_form negative number written ≡ Ok (record { mantissa = pos 0; exp = pos 0 })
unfolding normal_form
form_zero negative number written h =
    let short : nat_lt 18 (length (significant number)) ≡ false = at_most _ (omega (arith, h)) in
    let empty : (length (significant number) == 0) ≡ true = none _ h in
    rw (short, empty) refl

pub form_out_of_range : (negative : Bool) (number : List ℕ) (written : ℤ) → 0 < length (significant number) → length (significant number) ≤ 18 →
    (int_lt (exponent number written) (negsuc 399) || int_lt (pos 400) (exponent number written)) ≡ true →
    normal_form negative number written ≡ Err Exponent
unfolding normal_form
form_out_of_range negative number written positive few out =
    let short : nat_lt 18 (length (significant number)) ≡ false = at_most _ few in
    let full : (length (significant number) == 0) ≡ false = some _ positive in
    rw (short, full, out) refl

pub form_of_digits : (negative : Bool) (number : List ℕ) (written : ℤ) → 0 < length (significant number) → length (significant number) ≤ 18 →
    (int_lt (exponent number written) (negsuc 399) || int_lt (pos 400) (exponent number written)) ≡ false →
    normal_form negative number written ≡ Ok (record { mantissa = signed negative (digits_value 10 (significant number)); exp = exponent number written })
unfolding normal_form
form_of_digits negative number written positive few in_range =
    let short : nat_lt 18 (length (significant number)) ≡ false = at_most _ few in
    let full : (length (significant number) == 0) ≡ false = some _ positive in
    rw (short, full, in_range) refl

-- tests of the range
pub below_range : (exp : ℤ) → exp <ℤ negsuc 399 → (int_lt exp (negsuc 399) || int_lt (pos 400) exp) ≡ true
below_range exp h = grind (arith, ints)

pub above_range : (exp : ℤ) → pos 400 <ℤ exp → (int_lt exp (negsuc 399) || int_lt (pos 400) exp) ≡ true
above_range exp h = grind (arith, ints)

pub within_range : (exp : ℤ) → negsuc 399 ≤ℤ exp → exp ≤ℤ pos 400 → (int_lt exp (negsuc 399) || int_lt (pos 400) exp) ≡ false
within_range exp h k = grind (arith, ints)

pub range_of_test : (exp : ℤ) → (int_lt exp (negsuc 399) || int_lt (pos 400) exp) ≡ false → (negsuc 399 ≤ℤ exp) × (exp ≤ℤ pos 400)
range_of_test exp h = (grind (arith, ints), grind (arith, ints))

pub size_of_signed : (negative : Bool) (n : ℕ) → unsigned_abs (signed negative n) ≡ n
size_of_signed true Prim.Native.Nat.zero = refl
size_of_signed true (Prim.Native.Nat.suc n) = refl
size_of_signed false n = refl

-- a number of at most 18 digits, the last of which is not 0, with an exponent in range, is in normal form
pub normal_from_parts : (mantissa exp : ℤ) (negative : Bool) (n : ℕ) → mantissa ≡ signed negative n → n < 10 ^ 18 → 0 < n % 10 →
    negsuc 399 ≤ℤ exp → exp ≤ℤ pos 400 → IsNormal (record { mantissa = mantissa; exp = exp })
normal_from_parts mantissa exp negative n e small last low high =
    let size : unsigned_abs mantissa ≡ n = ap unsigned_abs e ∙ size_of_signed negative n in
    record {
      digits = omega (arith, size, small);
      last_digit = λ tenth. absurd (omega (arith, size, tenth, last));
      least_exp = low;
      greatest_exp = high;
    }

pub zero_is_normal : IsNormal (record { mantissa = pos 0; exp = pos 0 })
zero_is_normal = record { digits = omega arith; last_digit = λ tenth. (refl, refl); least_exp = omega (arith, ints); greatest_exp = omega (arith, ints) }

-- what the digits say, in terms of the number
pub exponent_of_digits : (number : List ℕ) (digits : Digits) (written exp : ℤ) → AreDigitsOf number digits →
    exp ≡ written -ℤ pos digits.after_point +ℤ pos digits.trailing_zeros → exp ≡ exponent number written
unfolding exponent
exponent_of_digits number digits written exp h e =
    e ∙ ap (λ (n : ℕ). written -ℤ pos n +ℤ pos digits.trailing_zeros) h.after ∙ ap (λ (n : ℕ). written -ℤ pos (digits_after_point number) +ℤ pos n) h.zeros

pub too_long : (negative : Bool) (number : List ℕ) (digits : Digits) (written : ℤ) → AreDigitsOf number digits → 18 < digits.significant →
    Err TooLong ≡ normal_form negative number written
too_long negative number digits written h long = sym (form_too_long negative number written (omega (arith, h.count, long)))

pub no_digits : (negative : Bool) (number : List ℕ) (digits : Digits) (written : ℤ) → AreDigitsOf number digits → digits.significant ≡ 0 →
    Ok (record { mantissa = pos 0; exp = pos 0 }) ≡ normal_form negative number written
no_digits negative number digits written h none = sym (form_zero negative number written (sym h.count ∙ none))

pub far_exponent : (negative : Bool) (number : List ℕ) (digits : Digits) (written exp : ℤ) → SFits w128 written → AreDigitsOf number digits →
    digits.significant ≢ 0 → digits.significant ≤ 18 → exp ≡ to_z w128 (of_z w128 written) -ℤ pos digits.after_point +ℤ pos digits.trailing_zeros →
    (int_lt exp (negsuc 399) || int_lt (pos 400) exp) ≡ true → Err Exponent ≡ normal_form negative number written
far_exponent negative number digits written exp fits h full few e out =
    let same : exp ≡ exponent number written = exponent_of_digits number digits written exp h (e ∙ ap (λ (w : ℤ). w -ℤ pos digits.after_point +ℤ pos digits.trailing_zeros) (to_z-of_z w128 written fits)) in
    sym (form_out_of_range negative number written (omega (arith, h.count, full)) (omega (arith, h.count, few)) (rw same at out))

pub digits_in_range : (negative : Bool) (number : List ℕ) (digits : Digits) (written exp mantissa : ℤ) → SFits w128 written → AreDigitsOf number digits →
    digits.significant ≢ 0 → digits.significant ≤ 18 → exp ≡ to_z w128 (of_z w128 written) -ℤ pos digits.after_point +ℤ pos digits.trailing_zeros →
    (int_lt exp (negsuc 399) || int_lt (pos 400) exp) ≡ false → mantissa ≡ signed negative digits.significand →
    Ok (record { mantissa = mantissa; exp = exp }) ≡ normal_form negative number written
digits_in_range negative number digits written exp mantissa fits h full few e in_range m =
    let same : exp ≡ exponent number written = exponent_of_digits number digits written exp h (e ∙ ap (λ (w : ℤ). w -ℤ pos digits.after_point +ℤ pos digits.trailing_zeros) (to_z-of_z w128 written fits)) in
    let value : mantissa ≡ signed negative (digits_value 10 (significant number)) = m ∙ ap (signed negative) (h.value few) in
    let form : normal_form negative number written ≡ Ok (record { mantissa = signed negative (digits_value 10 (significant number)); exp = exponent number written }) =
    form_of_digits negative number written (omega (arith, h.count, full)) (omega (arith, h.count, few)) (rw same at in_range) in
    ap₂ (λ (x : ℤ) (y : ℤ). let read : Result DecimalNumber BadReal = Ok (record { mantissa = x; exp = y }) in read) value same ∙ sym form

-- the number that is taken is in normal form
pub digits_are_normal : (negative : Bool) (digits : Digits) (exp mantissa : ℤ) → digits.significand < 10 ^ 18 → 0 < digits.significand % 10 →
    mantissa ≡ signed negative digits.significand → (int_lt exp (negsuc 399) || int_lt (pos 400) exp) ≡ false →
    IsNormal (record { mantissa = mantissa; exp = exp })
digits_are_normal negative digits exp mantissa small last m in_range =
    let range : (negsuc 399 ≤ℤ exp) × (exp ≤ℤ pos 400) = range_of_test exp in_range in
    normal_from_parts mantissa exp negative digits.significand m small last range.0 range.1

-- ---- through the bits of the machine's numbers

pub as_wide : (exp : ℤ) → SFits w128 exp → to_z w128 (of_z w128 exp) ≡ exp
as_wide exp fits = to_z-of_z w128 exp fits

pub as_narrow : (exp : ℤ) → SFits w128 exp → (int_lt exp (negsuc 399) || int_lt (pos 400) exp) ≡ false → to_z w32 (of_z w32 (to_z w128 (of_z w128 exp))) ≡ exp
as_narrow exp fits in_range =
    let range : (negsuc 399 ≤ℤ exp) × (exp ≤ℤ pos 400) = range_of_test exp in_range in
    let low : negsuc 399 ≤ℤ exp = range.0 in
    let high : exp ≤ℤ pos 400 = range.1 in
    omega (arith, ints)

pub seen_below : (exp : ℤ) → SFits w128 exp → int_lt (to_z w128 (of_z w128 exp)) (negsuc 399) ≡ true → (int_lt exp (negsuc 399) || int_lt (pos 400) exp) ≡ true
seen_below exp fits h = let e : to_z w128 (of_z w128 exp) ≡ exp = as_wide exp fits in or_left _ _ (rw e at h)

pub seen_above : (exp : ℤ) → SFits w128 exp → int_lt (pos 400) (to_z w128 (of_z w128 exp)) ≡ true → (int_lt exp (negsuc 399) || int_lt (pos 400) exp) ≡ true
seen_above exp fits h = let e : to_z w128 (of_z w128 exp) ≡ exp = as_wide exp fits in or_right _ _ (rw e at h)

pub seen_within : (exp : ℤ) → SFits w128 exp → int_lt (to_z w128 (of_z w128 exp)) (negsuc 399) ≡ false → int_lt (pos 400) (to_z w128 (of_z w128 exp)) ≡ false →
    (int_lt exp (negsuc 399) || int_lt (pos 400) exp) ≡ false
seen_within exp fits h k = let e : to_z w128 (of_z w128 exp) ≡ exp = as_wide exp fits in or_from _ _ (rw e at h) (rw e at k)

-- the digits of a number of at most 18 digits write a number that small, whose last digit is not 0
pub digits_small : (number : List ℕ) (digits : Digits) → AreDigitsOf number digits → digits.significant ≤ 18 → digits.significand < 10 ^ 18
digits_small number digits h few =
    let below : digits_value 10 (significant number) < 10 ^ length (significant number) = significant_below number in
    let most : 10 ^ length (significant number) ≤ 1000000000000000000 = at_most_18 (length (significant number)) (omega (arith, h.count, few)) in
    omega (arith, below, most, h.value few)

pub digits_last : (number : List ℕ) (digits : Digits) → AreDigitsOf number digits → 0 < digits.significant → digits.significant ≤ 18 → 0 < digits.significand % 10
digits_last number digits h full few =
    let last : 0 < digits_value 10 (significant number) % 10 = significant_last number (omega (arith, h.count, full)) in
    subst (λ (n : ℕ). 0 < n % 10) (sym (h.value few)) last
