-- A text cut at its first exponent letter, and what an exponent that is cut off says.
use Rattle.std.proofs.Common.{◌≡◌, ℕ, ◌+◌, ◌^◌, ◌<◌, ◌≤◌, min, Bool, true, false, cond, not, ◌&&◌, ◌||◌, List, [], ◌∷◌, length, take, drop, ℤ, pos, negsuc, inl, inr, refl, sym, ap, ◌∙◌, arith, Err, Some, None}
use Rattle.std.specs.Prelude.{Option, Result, nat_lt, int_lt, position, filter, count_by, slice_index, ◌==◌, ◌<ℤ◌, if◌then◌else◌, neg_ℤ, ◌+ℤ◌, ◌-ℤ◌}
use Rattle.std.specs.List.{list_any, position_or_len}
use Rattle.std.specs.Str.Parse.{digits_value, signed_digits_value, starts_with_minus, without_leading_sign}
use Rattle.std.proofs.lemmas.Bool.{cases_lt}
use Rattle.std.proofs.lemmas.Bool.Decides.{nat_tests}
use Rattle.std.proofs.lemmas.Int.{ints}
use Rattle.std.proofs.lemmas.List.{take_all, drop_all, length-drop, length-take}
use Rattle.std.proofs.lemmas.List.Sums.{passes_at_first, length-filter, count_by-le-length}
use Rattle.std.proofs.lemmas.List.Folds.{list_any_at}
use Rattle.decimal_scale.specs.declared.fault.BadReal.{BadReal}
use Rattle.decimal_scale.specs.declared.fault.BadReal.TheVariants.{NotANumber}
use Rattle.decimal_scale.specs.Real.{DecimalNumber, is_exponent_letter, is_digit, is_zero, is_point, without_leading_zeros, is_fixed_point, is_whole, before_letter, after_letter, is_real, significant, led_digits, zeros_dropped, digits_after_point, exponent, signed, normal_form, read_real}
use Rattle.decimal_scale.specs.Scan.{IsCappedExponent}
use Rattle.decimal_scale.proofs.NormalForm.{form_too_long, form_zero, form_out_of_range, below_range, above_range}

-- the mantissa's part of a text with a written exponent, as the body reads it
abbrev pub scaled_number : List ℕ → ℤ → Result DecimalNumber BadReal
scaled_number front written = if is_fixed_point (without_leading_sign front) then normal_form (starts_with_minus front) (without_leading_sign front) written else Err NotANumber

-- ---- where the letter stands

below_test : (m n : ℕ) → m < n → nat_lt m n ≡ true
below_test m n h = grind (arith, nat_tests)

above_test : (m n : ℕ) → n ≤ m → nat_lt m n ≡ false
above_test m n h = grind (arith, nat_tests)

place_none : (place n : ℕ) → (let found : Option ℕ = cond (nat_lt place n) (Some place) None in found) ≡ None → n ≤ place
place_none place n h = elim (cases_lt place n) [
  | inl below ↦ let t : nat_lt place n ≡ true = below_test place n below in let e = rw t at h in absurd (cc)
  | inr above ↦ above
]

place_some : (place n at : ℕ) → (let found : Option ℕ = cond (nat_lt place n) (Some place) None in found) ≡ Some at → (place ≡ at) × (place < n)
place_some place n at h = elim (cases_lt place n) [
  | inl below ↦ let t : nat_lt place n ≡ true = below_test place n below in let e = rw t at h in (cc, below)
  | inr above ↦ let t : nat_lt place n ≡ false = above_test place n above in let e = rw t at h in absurd (cc)
]

any_none : (text : List ℕ) → length text ≤ position_or_len is_exponent_letter text → list_any is_exponent_letter text ≡ false
any_none [] h = refl
any_none (x ∷ xs) h =
    (elim (is_exponent_letter x) as (λ (b : Bool). length (x ∷ xs) ≤ cond (not b) (1 + position_or_len is_exponent_letter xs) 0 → (b || list_any is_exponent_letter xs) ≡ false) [
      | true ↦ λ k. absurd (omega (arith, k))
      | false ↦ λ k. any_none xs (omega (arith, k))
    ]) h

pub without_letter : (text : List ℕ) → position is_exponent_letter text ≡ None →
    (before_letter text ≡ text) × (after_letter text ≡ []) × (list_any is_exponent_letter text ≡ false)
unfolding before_letter after_letter
without_letter text h =
    let past : length text ≤ position_or_len is_exponent_letter text = place_none (position_or_len is_exponent_letter text) (length text) h in
    (take_all _ text past, drop_all _ text (omega (arith, past)), any_none text past)

pub with_letter : (text : List ℕ) (at : ℕ) → position is_exponent_letter text ≡ Some at →
    (before_letter text ≡ take at text) × (after_letter text ≡ drop (at + 1) text) × (list_any is_exponent_letter text ≡ true)
unfolding before_letter after_letter
with_letter text at h =
    let found : (position_or_len is_exponent_letter text ≡ at) × (position_or_len is_exponent_letter text < length text) = place_some (position_or_len is_exponent_letter text) (length text) at h in (
      ap (λ (n : ℕ). take n text) found.0,
      ap (λ (n : ℕ). drop (n + 1) text) found.0,
      list_any_at is_exponent_letter text (position_or_len is_exponent_letter text) 0 found.1 (passes_at_first is_exponent_letter text 0 found.1),
    )

-- ---- without an exponent

and_true : (b : Bool) → (b && true) ≡ b
and_true true = refl
and_true false = refl

and_false : (b : Bool) → (b && false) ≡ false
and_false true = refl
and_false false = refl

pub read_without_letter : (text : List ℕ) → position is_exponent_letter text ≡ None → scaled_number text (pos 0) ≡ read_real text
unfolding read_real is_real
read_without_letter text h =
    let cut : (before_letter text ≡ text) × (after_letter text ≡ []) × (list_any is_exponent_letter text ≡ false) = without_letter text h in
    let none : list_any is_exponent_letter text ≡ false = cut.2 in
    rw (cut.0, cut.1, none, and_true (is_fixed_point (without_leading_sign text))) refl

-- ---- with one

pub read_other_exponent : (text : List ℕ) (at : ℕ) → position is_exponent_letter text ≡ Some at → is_whole (without_leading_sign (drop (at + 1) text)) ≡ false →
    read_real text ≡ Err NotANumber
unfolding read_real is_real
read_other_exponent text at h other =
    let cut : (before_letter text ≡ take at text) × (after_letter text ≡ drop (at + 1) text) × (list_any is_exponent_letter text ≡ true) = with_letter text at h in
    let some : list_any is_exponent_letter text ≡ true = cut.2 in
    rw (cut.0, cut.1, some, other, and_false (is_fixed_point (without_leading_sign (take at text)))) refl

pub read_with_exponent : (text : List ℕ) (at : ℕ) → position is_exponent_letter text ≡ Some at → is_whole (without_leading_sign (drop (at + 1) text)) ≡ true →
    scaled_number (take at text) (signed_digits_value 10 (drop (at + 1) text)) ≡ read_real text
unfolding read_real is_real
read_with_exponent text at h whole =
    let cut : (before_letter text ≡ take at text) × (after_letter text ≡ drop (at + 1) text) × (list_any is_exponent_letter text ≡ true) = with_letter text at h in
    let some : list_any is_exponent_letter text ≡ true = cut.2 in
    rw (cut.0, cut.1, some, whole, and_true (is_fixed_point (without_leading_sign (take at text)))) refl

-- ---- an exponent that is cut off

led_shorter : (xs : List ℕ) → length (without_leading_zeros xs) ≤ length xs
led_shorter [] = omega arith
led_shorter (x ∷ xs) =
    elim (is_zero x) as (λ (b : Bool). length (cond b (without_leading_zeros xs) (x ∷ xs)) ≤ length (x ∷ xs)) [
      | true ↦ let h : length (without_leading_zeros xs) ≤ length xs = led_shorter xs in omega (arith, h)
      | false ↦ omega arith
    ]

zeros_within : (number : List ℕ) → zeros_dropped number ≤ length number
unfolding zeros_dropped led_digits
zeros_within number =
    let led : length (without_leading_zeros (filter is_digit number)) ≤ length (filter is_digit number) = led_shorter (filter is_digit number) in
    let kept : length (filter is_digit number) ≡ count_by is_digit number = length-filter is_digit number in
    let all : count_by is_digit number ≤ length number = count_by-le-length is_digit number in
    omega (arith, led, kept, all)

after_within : (number : List ℕ) → digits_after_point number ≤ length number
unfolding digits_after_point
after_within number = let h = length-drop (position_or_len is_point number + 1) number in omega (arith, h)

unsigned_within : (text : List ℕ) → length (without_leading_sign text) ≤ length text
unsigned_within text =
    let one = length-drop 1 text in
    let some = length-drop (cond (slice_index text 0 == 43) 1 0) text in
    elim (starts_with_minus text) as (λ (b : Bool). length (cond b (drop 1 text) (drop (cond (slice_index text 0 == 43) 1 0) text)) ≤ length text) [
      | true ↦ omega (arith, one)
      | false ↦ omega (arith, some)
    ]

-- no slice has so many digits that they lead such an exponent back
far : (negative : Bool) (w after zeros : ℕ) → 1000000000000000000000000000000 ≤ w → after < 2 ^ 64 → zeros < 2 ^ 64 →
    (int_lt (signed negative w -ℤ pos after +ℤ pos zeros) (negsuc 399) || int_lt (pos 400) (signed negative w -ℤ pos after +ℤ pos zeros)) ≡ true
far true w after zeros large few short =
    let e : (neg_ℤ (pos w) -ℤ pos after +ℤ pos zeros) <ℤ negsuc 399 = omega (arith, ints) in
    below_range (neg_ℤ (pos w) -ℤ pos after +ℤ pos zeros) e
far false w after zeros large few short =
    let e : pos 400 <ℤ (pos w -ℤ pos after +ℤ pos zeros) = omega (arith, ints) in
    above_range (pos w -ℤ pos after +ℤ pos zeros) e

far_exponents_agree : (negative sign : Bool) (number : List ℕ) (v w : ℕ) → length number < 2 ^ 64 →
    1000000000000000000000000000000 ≤ v → 1000000000000000000000000000000 ≤ w →
    normal_form negative number (signed sign v) ≡ normal_form negative number (signed sign w)
unfolding exponent
far_exponents_agree negative sign number v w short large other =
    let after : digits_after_point number ≤ length number = after_within number in
    let zeros : zeros_dropped number ≤ length number = zeros_within number in
    elim (cases_lt 18 (length (significant number))) [
      | inl long ↦ form_too_long negative number (signed sign v) long ∙ sym (form_too_long negative number (signed sign w) long)
      | inr few ↦ elim (cases_lt 0 (length (significant number))) [
        | inl full ↦
            form_out_of_range negative number (signed sign v) full few (far sign v (digits_after_point number) (zeros_dropped number) large (omega (arith, after, short)) (omega (arith, zeros, short)))
            ∙ sym (form_out_of_range negative number (signed sign w) full few (far sign w (digits_after_point number) (zeros_dropped number) other (omega (arith, after, short)) (omega (arith, zeros, short))))
        | inr none ↦ form_zero negative number (signed sign v) (omega (arith, none)) ∙ sym (form_zero negative number (signed sign w) (omega (arith, none)))
      ]
    ]

capped_agrees : (front : List ℕ) (sign : Bool) (v : ℕ) → length front < 2 ^ 64 →
    scaled_number front (signed sign (min v 1000000000000000000000000000000)) ≡ scaled_number front (signed sign v)
capped_agrees front sign v short = elim (cases_lt v 1000000000000000000000000000000) [
  | inl below ↦ let e : min v 1000000000000000000000000000000 ≡ v = omega arith in ap (λ (n : ℕ). scaled_number front (signed sign n)) e
  | inr above ↦
      let e : min v 1000000000000000000000000000000 ≡ 1000000000000000000000000000000 = omega arith in
      let within : length (without_leading_sign front) ≤ length front = unsigned_within front in
      ap (λ (n : ℕ). scaled_number front (signed sign n)) e
      ∙ ap (λ (form : Result DecimalNumber BadReal). if is_fixed_point (without_leading_sign front) then form else Err NotANumber)
      (far_exponents_agree (starts_with_minus front) sign (without_leading_sign front) 1000000000000000000000000000000 v (omega (arith, within, short)) (omega arith) above)
]

pub read_with_capped : (text : List ℕ) (at : ℕ) (written : ℤ) → position is_exponent_letter text ≡ Some at → length text < 2 ^ 64 →
    IsCappedExponent 1000000000000000000000000000000 (drop (at + 1) text) written → scaled_number (take at text) written ≡ read_real text
read_with_capped text at written h short capped =
    let front : length (take at text) ≡ min at (length text) = length-take at text in
    ap (scaled_number (take at text)) capped.value
    ∙ capped_agrees (take at text) (starts_with_minus (drop (at + 1) text)) (digits_value 10 (without_leading_sign (drop (at + 1) text))) (omega (arith, front, short))
    ∙ read_with_exponent text at h capped.is
