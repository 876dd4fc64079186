-- What is read is in normal form.
use Rattle.std.proofs.Common.{◌≡◌, ℕ, ◌^◌, ◌<◌, ◌≤◌, Bool, true, false, cond, ◌||◌, List, length, ℤ, pos, negsuc, inl, inr, refl, subst, arith, Ok, Err}
use Rattle.std.specs.Prelude.{Result, int_lt, ◌≤ℤ◌}
use Rattle.std.specs.Str.Parse.{digits_value, signed_digits_value, starts_with_minus, without_leading_sign}
use Rattle.std.proofs.lemmas.Bool.{cases_lt, cases_Bool}
use Rattle.decimal_scale.specs.declared.fault.BadReal.{BadReal}
use Rattle.decimal_scale.specs.declared.fault.BadReal.TheVariants.{NotANumber, TooLong, Exponent}
use Rattle.decimal_scale.specs.Real.{DecimalNumber, IsNormal, before_letter, after_letter, is_real, significant, exponent, signed, normal_form, read_real}
use Rattle.decimal_scale.proofs.Powers.{at_most_18}
use Rattle.decimal_scale.proofs.Values.{significant_below, significant_last}
use Rattle.decimal_scale.proofs.NormalForm.{form_too_long, form_zero, form_out_of_range, form_of_digits, range_of_test, normal_from_parts, zero_is_normal}

-- a number that is answered is the one that the case gives
same_answer : (number other : DecimalNumber) (answer : Result DecimalNumber BadReal) → answer ≡ Ok number → answer ≡ Ok other → number ≡ other
same_answer number other answer h k = cc

no_answer : (number : DecimalNumber) (fault : BadReal) (answer : Result DecimalNumber BadReal) → answer ≡ Err fault → answer ≡ Ok number → ⊥
no_answer number fault answer h k = cc

in_range_is_normal : (negative : Bool) (number : List ℕ) (written : ℤ) (found : DecimalNumber) → 0 < length (significant number) → length (significant number) ≤ 18 →
    (int_lt (exponent number written) (negsuc 399) || int_lt (pos 400) (exponent number written)) ≡ false → normal_form negative number written ≡ Ok found → IsNormal found
in_range_is_normal negative number written found full few in_range h =
    let range : (negsuc 399 ≤ℤ exponent number written) × (exponent number written ≤ℤ pos 400) = range_of_test (exponent number written) in_range in
    let below : digits_value 10 (significant number) < 10 ^ length (significant number) = significant_below number in
    let most : 10 ^ length (significant number) ≤ 1000000000000000000 = at_most_18 (length (significant number)) few in
    let normal : IsNormal (record { mantissa = signed negative (digits_value 10 (significant number)); exp = exponent number written }) =
    normal_from_parts (signed negative (digits_value 10 (significant number))) (exponent number written) negative (digits_value 10 (significant number)) refl
    (omega (arith, below, most)) (significant_last number full) range.0 range.1 in
    subst (λ (d : DecimalNumber). IsNormal d) (same_answer _ found (normal_form negative number written) (form_of_digits negative number written full few in_range) h) normal

form_is_normal : (negative : Bool) (number : List ℕ) (written : ℤ) (found : DecimalNumber) → normal_form negative number written ≡ Ok found → IsNormal found
form_is_normal negative number written found h = elim (cases_lt 18 (length (significant number))) [
  | inl long ↦ absurd (no_answer found TooLong (normal_form negative number written) (form_too_long negative number written long) h)
  | inr few ↦ elim (cases_lt 0 (length (significant number))) [
    | inr none ↦ subst (λ (d : DecimalNumber). IsNormal d) (same_answer _ found (normal_form negative number written) (form_zero negative number written (omega (arith, none))) h) zero_is_normal
    | inl full ↦ elim (cases_Bool (int_lt (exponent number written) (negsuc 399) || int_lt (pos 400) (exponent number written))) [
      | inl out ↦ absurd (no_answer found Exponent (normal_form negative number written) (form_out_of_range negative number written full few out) h)
      | inr in_range ↦ in_range_is_normal negative number written found full few in_range h
    ]
  ]
]

pub read_is_normal : (text : List ℕ) (number : DecimalNumber) → read_real text ≡ Ok number → IsNormal number
unfolding read_real
read_is_normal text number h =
    (elim (is_real text) as (λ (b : Bool).
    cond b (normal_form (starts_with_minus (before_letter text)) (without_leading_sign (before_letter text)) (signed_digits_value 10 (after_letter text))) (Err NotANumber) ≡ Ok number → IsNormal number) [
      | true ↦ λ k. form_is_normal (starts_with_minus (before_letter text)) (without_leading_sign (before_letter text)) (signed_digits_value 10 (after_letter text)) number k
      | false ↦ λ k. absurd (no_answer number NotANumber (Err NotANumber) refl k)
    ]) h
