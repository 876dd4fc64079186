-- What is written of a number in normal form is read again as that number.
use Rattle.std.proofs.Common.{◌≡◌, ℕ, zero, suc, ◌+◌, ◌/◌, ◌%◌, ◌^◌, ◌<◌, ◌≤◌, Bool, true, false, cond, not, ◌&&◌, ◌||◌, List, [], ◌∷◌, ◌++◌, length, take, drop, get_or, ℤ, pos, negsuc, inl, inr, refl, sym, ap, ap₂, ◌∙◌, arith, append_assoc, Ok}
use Rattle.std.specs.Prelude.{Result, nat_lt, nat_le, int_lt, ◌==◌, filter, count_by, neg_ℤ, ◌+ℤ◌, ◌-ℤ◌, ◌≤ℤ◌, unsigned_abs, decimal, codes}
use Rattle.std.specs.List.{list_all, list_any, position_or_len, after_first, before_first}
use Rattle.std.specs.Fmt.{signed_decimal}
use Rattle.std.specs.Str.Parse.{digits_value, signed_digits_value, starts_with_minus, without_leading_sign, AllDigits, IsNumeral}
use Rattle.std.specs.Char.{digit_value}
use Rattle.std.proofs.lemmas.Bool.{and_from, and_parts, or_left, or_right, cases_lt}
use Rattle.std.proofs.lemmas.Bool.Decides.{nat_tests}
use Rattle.std.proofs.lemmas.Int.{ints}
use Rattle.std.proofs.lemmas.Fmt.{decimal_is_IsNumeral, decimal_step, decimal_digit, first_decimal, decimal_nonempty, length-decimal-le}
use Rattle.std.proofs.lemmas.List.{take_at, drop_at, length-append, append-nil}
use Rattle.std.proofs.lemmas.List.Elements.{filter-append}
use Rattle.std.proofs.lemmas.List.Sums.{sum_by-append, sum_by-cons}
use Rattle.std.proofs.lemmas.List.Folds.{list_all-append, list_any-append}
use Rattle.decimal_scale.specs.declared.fault.BadReal.{BadReal}
use Rattle.decimal_scale.specs.Real.{DecimalNumber, IsNormal, is_digit, is_zero, is_point, is_exponent_letter, without_leading_zeros, without_trailing_zeros, is_fixed_point, is_whole, before_letter, after_letter, is_real, led_digits, significant, zeros_dropped, digits_after_point, exponent, signed, normal_form, read_real, real_text}
use Rattle.decimal_scale.proofs.Zeros.{trailing_zero, last_digit_stays}
use Rattle.decimal_scale.proofs.Writing.{exp_size}
use Rattle.decimal_scale.proofs.NormalForm.{form_zero, form_of_digits, within_range}

-- ---- digits and what cuts them

-- a place in a text, where nothing before it passes
place_behind : (p : ℕ → Bool) (xs : List ℕ) (y : ℕ) (ys : List ℕ) → list_all (λ x. not (p x)) xs ≡ true → p y ≡ true → position_or_len p (xs ++ y ∷ ys) ≡ length xs
place_behind p [] y ys h e = ap (λ (b : Bool). cond (not b) (1 + position_or_len p ys) 0) e
place_behind p (x ∷ xs) y ys h e =
    (elim (p x) as (λ (b : Bool). (not b && list_all (λ x. not (p x)) xs) ≡ true → cond (not b) (1 + position_or_len p (xs ++ y ∷ ys)) 0 ≡ length (x ∷ xs)) [
      | true ↦ λ k. cc
      | false ↦ λ k. let rest : position_or_len p (xs ++ y ∷ ys) ≡ length xs = place_behind p xs y ys k e in omega (arith, rest)
    ]) h

pub cut_before : (p : ℕ → Bool) (xs : List ℕ) (y : ℕ) (ys : List ℕ) → list_all (λ x. not (p x)) xs ≡ true → p y ≡ true → before_first p (xs ++ y ∷ ys) ≡ xs
cut_before p xs y ys h e = let place : position_or_len p (xs ++ y ∷ ys) ≡ length xs = place_behind p xs y ys h e in ap (λ (n : ℕ). take n (xs ++ y ∷ ys)) place ∙ take_at xs (y ∷ ys) (length xs) refl

pub cut_after : (p : ℕ → Bool) (xs : List ℕ) (y : ℕ) (ys : List ℕ) → list_all (λ x. not (p x)) xs ≡ true → p y ≡ true → after_first p (xs ++ y ∷ ys) ≡ ys
cut_after p xs y ys h e =
    let place : position_or_len p (xs ++ y ∷ ys) ≡ length xs = place_behind p xs y ys h e in
    let one : xs ++ y ∷ ys ≡ xs ++ y ∷ [] ++ ys = sym (append_assoc xs (y ∷ []) ys) in
    let len : length (xs ++ y ∷ []) ≡ length xs + 1 = length-append xs (y ∷ []) in
    ap (λ (n : ℕ). drop (n + 1) (xs ++ y ∷ ys)) place ∙ ap (drop (length xs + 1)) one ∙ drop_at (xs ++ y ∷ []) ys (length xs + 1) len

digit_no_letter : (b : ℕ) → is_digit b ≡ true → not (is_exponent_letter b) ≡ true
digit_no_letter b h = grind (arith, nat_tests)

digit_no_point : (b : ℕ) → is_digit b ≡ true → not (is_point b) ≡ true
digit_no_point b h = grind (arith, nat_tests)

-- a test that each digit passes
each_digit : (p : ℕ → Bool) (passes : (b : ℕ) → is_digit b ≡ true → p b ≡ true) (xs : List ℕ) → list_all is_digit xs ≡ true → list_all p xs ≡ true
each_digit p passes [] h = refl
each_digit p passes (x ∷ xs) h =
    let parts : (is_digit x ≡ true) × (list_all is_digit xs ≡ true) = and_parts (is_digit x) (list_all is_digit xs) h in
    and_from _ _ (passes x parts.0) (each_digit p passes xs parts.1)

digit_from_value : (b : ℕ) → digit_value b < 10 → is_digit b ≡ true
digit_from_value b h = grind (arith, nat_tests)

pub all_from_digits : (xs : List ℕ) → AllDigits 10 xs → list_all is_digit xs ≡ true
all_from_digits [] h = refl
all_from_digits (x ∷ xs) h = and_from _ _ (digit_from_value x h.0) (all_from_digits xs h.1)

pub decimal_digits : (n : ℕ) → n < 2 ^ 64 → list_all is_digit (decimal n) ≡ true
decimal_digits n h = all_from_digits (decimal n) (decimal_is_IsNumeral n h).0.1

-- ---- signs

plain_digit : (b : ℕ) → is_digit b ≡ true → ((b == 45) ≡ false) × ((b == 43) ≡ false)
plain_digit b h = (grind (arith, nat_tests), grind (arith, nat_tests))

-- a text that begins with a digit has no sign
pub no_sign : (xs ys : List ℕ) → list_all is_digit xs ≡ true → 0 < length xs → (starts_with_minus (xs ++ ys) ≡ false) × (without_leading_sign (xs ++ ys) ≡ xs ++ ys)
no_sign [] ys h some = absurd (omega arith)
no_sign (x ∷ xs) ys h some =
    let plain : ((x == 45) ≡ false) × ((x == 43) ≡ false) = plain_digit x (and_parts (is_digit x) (list_all is_digit xs) h).0 in
    let minus : (x == 45) ≡ false = plain.0 in
    let plus : (x == 43) ≡ false = plain.1 in
    (minus, ap (λ (b : Bool). cond b (xs ++ ys) (drop (cond (x == 43) 1 0) (x ∷ (xs ++ ys)))) minus ∙ ap (λ (b : Bool). drop (cond b 1 0) (x ∷ (xs ++ ys))) plus)

positive : (n : ℕ) → 0 < n → nat_lt 0 n ≡ true
positive n h = grind (arith, nat_tests)

-- ---- the exponent

pub whole_exponent : (e : ℤ) → unsigned_abs e < 2 ^ 64 → (is_whole (without_leading_sign (signed_decimal e)) ≡ true) × (signed_digits_value 10 (signed_decimal e) ≡ e)
unfolding is_whole
whole_exponent (pos n) h =
    let numeral : IsNumeral 10 (decimal n) × (digits_value 10 (decimal n) ≡ n) = decimal_is_IsNumeral n h in
    let digits : list_all is_digit (decimal n) ≡ true = decimal_digits n h in
    let some : 0 < length (decimal n) = decimal_nonempty n h in
    let plain : (starts_with_minus (decimal n ++ []) ≡ false) × (without_leading_sign (decimal n ++ []) ≡ decimal n ++ []) = no_sign (decimal n) [] digits some in
    let minus : starts_with_minus (decimal n) ≡ false = ap starts_with_minus (sym (append-nil (decimal n))) ∙ plain.0 in
    let rest : without_leading_sign (decimal n) ≡ decimal n = ap without_leading_sign (sym (append-nil (decimal n))) ∙ plain.1 ∙ append-nil (decimal n) in (
      ap is_whole rest ∙ and_from _ _ digits (positive (length (decimal n)) some),
      ap (λ (b : Bool). cond b (neg_ℤ (pos (digits_value 10 (without_leading_sign (decimal n))))) (pos (digits_value 10 (without_leading_sign (decimal n))))) minus
          ∙ ap (λ (ds : List ℕ). pos (digits_value 10 ds)) rest ∙ ap pos numeral.1,
    )
whole_exponent (negsuc k) h =
    let numeral : IsNumeral 10 (decimal (suc k)) × (digits_value 10 (decimal (suc k)) ≡ suc k) = decimal_is_IsNumeral (suc k) h in
    let digits : list_all is_digit (decimal (suc k)) ≡ true = decimal_digits (suc k) h in
    let some : 0 < length (decimal (suc k)) = decimal_nonempty (suc k) h in
    (and_from _ _ digits (positive (length (decimal (suc k))) some), ap (λ (n : ℕ). neg_ℤ (pos n)) numeral.1)

-- ---- the mantissa

-- the digits of a number with `.0`
pub with_point : ℕ → List ℕ
with_point n = decimal n ++ 46 ∷ 48 ∷ []

none_counted : (p : ℕ → Bool) (xs : List ℕ) → list_all (λ x. not (p x)) xs ≡ true → count_by p xs ≡ 0
none_counted p [] h = refl
none_counted p (x ∷ xs) h =
    sum_by-cons (λ x. cond (p x) 1 0) x xs
    ∙ (elim (p x) as (λ (b : Bool). (not b && list_all (λ x. not (p x)) xs) ≡ true → cond b 1 0 + count_by p xs ≡ 0) [
      | true ↦ λ k. absurd (cc)
      | false ↦ λ k. let rest : count_by p xs ≡ 0 = none_counted p xs k in omega (arith, rest)
    ]) h

pub fixed_point : (n : ℕ) → n < 2 ^ 64 → is_fixed_point (with_point n) ≡ true
unfolding is_fixed_point with_point
fixed_point n h =
    let digits : list_all is_digit (decimal n) ≡ true = decimal_digits n h in
    let allowed : list_all (λ byte. is_digit byte || is_point byte) (decimal n ++ 46 ∷ 48 ∷ []) ≡ true =
    list_all-append (λ byte. is_digit byte || is_point byte) (decimal n) (46 ∷ 48 ∷ [])
    ∙ and_from _ _ (each_digit (λ byte. is_digit byte || is_point byte) (λ b d. or_left (is_digit b) (is_point b) d) (decimal n) digits) refl in
    let none : count_by is_point (decimal n) ≡ 0 = none_counted is_point (decimal n) (each_digit (λ b. not (is_point b)) digit_no_point (decimal n) digits) in
    let one : count_by is_point (decimal n ++ 46 ∷ 48 ∷ []) ≡ count_by is_point (decimal n) + 1 = sum_by-append (λ x. cond (is_point x) 1 0) (decimal n) (46 ∷ 48 ∷ []) in
    let some : list_any is_digit (decimal n ++ 46 ∷ 48 ∷ []) ≡ true = list_any-append is_digit (decimal n) (46 ∷ 48 ∷ []) ∙ or_right (list_any is_digit (decimal n)) true refl in
    and_from _ _ (and_from _ _ allowed (ap (λ (k : ℕ). nat_le k 1) (one ∙ ap (λ (k : ℕ). k + 1) none))) some

kept_digits : (xs : List ℕ) → list_all is_digit xs ≡ true → filter is_digit xs ≡ xs
kept_digits [] h = refl
kept_digits (x ∷ xs) h =
    let parts : (is_digit x ≡ true) × (list_all is_digit xs ≡ true) = and_parts (is_digit x) (list_all is_digit xs) h in
    ap (λ (b : Bool). cond b (x ∷ filter is_digit xs) (filter is_digit xs)) parts.0 ∙ ap (λ (ds : List ℕ). x ∷ ds) (kept_digits xs parts.1)

above_zero : (x : ℕ) → 48 < x → is_zero x ≡ false
above_zero x h = grind (arith, nat_tests)

no_leading : (xs ys : List ℕ) → 48 < get_or xs 0 0 → without_leading_zeros (xs ++ ys) ≡ xs ++ ys
no_leading [] ys h = absurd (omega arith)
no_leading (x ∷ xs) ys h =
    let other : is_zero x ≡ false = above_zero x h in
    ap (λ (b : Bool). cond b (without_leading_zeros (xs ++ ys)) (x ∷ (xs ++ ys))) other

pub led_written : (n : ℕ) → 0 < n → n < 2 ^ 64 → led_digits (with_point n) ≡ decimal n ++ 48 ∷ []
unfolding led_digits with_point
led_written n some h =
    let digits : list_all is_digit (decimal n) ≡ true = decimal_digits n h in
    let kept : filter is_digit (decimal n ++ 46 ∷ 48 ∷ []) ≡ decimal n ++ 48 ∷ [] = filter-append is_digit (decimal n) (46 ∷ 48 ∷ []) ∙ ap (λ (ds : List ℕ). ds ++ 48 ∷ []) (kept_digits (decimal n) digits) in
    ap without_leading_zeros kept ∙ no_leading (decimal n) (48 ∷ []) (first_decimal n some h)

-- a number whose last digit is not 0 keeps all its digits
kept_to_last : (n : ℕ) → 0 < n % 10 → n < 2 ^ 64 → without_trailing_zeros (decimal n) ≡ decimal n
kept_to_last n last h = elim (cases_lt n 10) [
  | inl below ↦
      let one : decimal n ≡ (48 + n) ∷ [] = decimal_digit n below in
      let other : is_zero (48 + n) ≡ false = above_zero (48 + n) (omega (arith, last)) in
      ap without_trailing_zeros one ∙ last_digit_stays [] (48 + n) other ∙ sym one
  | inr above ↦
      let step : decimal n ≡ decimal (n / 10) ++ (48 + n % 10) ∷ [] = decimal_step n above h in
      let other : is_zero (48 + n % 10) ≡ false = above_zero (48 + n % 10) (omega (arith, last)) in
      ap without_trailing_zeros step ∙ last_digit_stays (decimal (n / 10)) (48 + n % 10) other ∙ sym step
]

pub significant_written : (n : ℕ) → 0 < n % 10 → n < 2 ^ 64 → significant (with_point n) ≡ decimal n
unfolding significant
significant_written n last h =
    ap without_trailing_zeros (led_written n (omega (arith, last)) h) ∙ trailing_zero (decimal n) ∙ kept_to_last n last h

pub after_written : (n : ℕ) → n < 2 ^ 64 → digits_after_point (with_point n) ≡ 1
unfolding digits_after_point with_point
after_written n h = ap (λ (ds : List ℕ). length ds) (cut_after is_point (decimal n) 46 (48 ∷ []) (each_digit (λ b. not (is_point b)) digit_no_point (decimal n) (decimal_digits n h)) refl)

pub dropped_written : (n : ℕ) → 0 < n % 10 → n < 2 ^ 64 → zeros_dropped (with_point n) ≡ 1
unfolding zeros_dropped
dropped_written n last h =
    let led : length (led_digits (with_point n)) ≡ length (decimal n) + 1 = ap (λ (ds : List ℕ). length ds) (led_written n (omega (arith, last)) h) ∙ length-append (decimal n) (48 ∷ []) in
    let kept : length (significant (with_point n)) ≡ length (decimal n) = ap (λ (ds : List ℕ). length ds) (significant_written n last h) in
    omega (arith, led, kept)

exponent_stays : (e : ℤ) → e -ℤ pos 1 +ℤ pos 1 ≡ e
exponent_stays e = omega (arith, ints)

exponent_written : (n : ℕ) (e : ℤ) → 0 < n % 10 → n < 2 ^ 64 → exponent (with_point n) e ≡ e
unfolding exponent
exponent_written n e last h =
    ap₂ (λ (a : ℕ) (z : ℕ). e -ℤ pos a +ℤ pos z) (after_written n h) (dropped_written n last h) ∙ exponent_stays e

pub form_written : (negative : Bool) (n : ℕ) (e : ℤ) → 0 < n % 10 → n < 10 ^ 18 → negsuc 399 ≤ℤ e → e ≤ℤ pos 400 →
    normal_form negative (with_point n) e ≡ Ok (record { mantissa = signed negative n; exp = e })
form_written negative n e last small low high =
    let fits : n < 2 ^ 64 = omega (arith, small) in
    let same : significant (with_point n) ≡ decimal n = significant_written n last fits in
    let len : length (significant (with_point n)) ≡ length (decimal n) = ap (λ (ds : List ℕ). length ds) same in
    let few : length (decimal n) ≤ 18 = length-decimal-le 18 n (omega arith) small fits in
    let full : 0 < length (decimal n) = decimal_nonempty n fits in
    let exp : exponent (with_point n) e ≡ e = exponent_written n e last fits in
    let value : digits_value 10 (significant (with_point n)) ≡ n = ap (digits_value 10) same ∙ (decimal_is_IsNumeral n fits).1 in
    form_of_digits negative (with_point n) e (omega (arith, len, full)) (omega (arith, len, few)) (ap (λ (x : ℤ). int_lt x (negsuc 399) || int_lt (pos 400) x) exp ∙ within_range e low high)
    ∙ ap₂ (λ (x : ℕ) (y : ℤ). let read : Result DecimalNumber BadReal = Ok (record { mantissa = signed negative x; exp = y }) in read) value exp

nothing_significant : length (significant (with_point 0)) ≡ 0
unfolding significant led_digits with_point
nothing_significant = let zero_text : decimal 0 ≡ 48 ∷ [] = decimal_digit 0 (omega arith) in
    ap (λ (ds : List ℕ). length (without_trailing_zeros (without_leading_zeros (filter is_digit (ds ++ 46 ∷ 48 ∷ []))))) zero_text

pub form_zero_written : (negative : Bool) (e : ℤ) → normal_form negative (with_point 0) e ≡ Ok (record { mantissa = pos 0; exp = pos 0 })
form_zero_written negative e = form_zero negative (with_point 0) e nothing_significant

-- ---- the whole text

or_known : (a b : Bool) → b ≡ true → (a || b) ≡ true
or_known a b h = or_right a b h

read_from_parts : (text number exp : List ℕ) → before_letter text ≡ number → after_letter text ≡ exp →
    is_fixed_point (without_leading_sign number) ≡ true → is_whole (without_leading_sign exp) ≡ true →
    read_real text ≡ normal_form (starts_with_minus number) (without_leading_sign number) (signed_digits_value 10 exp)
unfolding read_real is_real
read_from_parts text number exp before after fixed whole =
    rw (before, after, fixed, whole, or_known (not (list_any is_exponent_letter text)) true refl) refl

-- a text with the exponent letter after a number without one
cut_text : (number exp : List ℕ) → list_all (λ b. not (is_exponent_letter b)) number ≡ true →
    (before_letter (number ++ 69 ∷ exp) ≡ number) × (after_letter (number ++ 69 ∷ exp) ≡ exp)
unfolding before_letter after_letter
cut_text number exp h = (cut_before is_exponent_letter number 69 exp h refl, cut_after is_exponent_letter number 69 exp h refl)

no_letter : (n : ℕ) → n < 2 ^ 64 → list_all (λ b. not (is_exponent_letter b)) (with_point n) ≡ true
unfolding with_point
no_letter n h =
    list_all-append (λ b. not (is_exponent_letter b)) (decimal n) (46 ∷ 48 ∷ [])
    ∙ and_from _ _ (each_digit (λ b. not (is_exponent_letter b)) digit_no_letter (decimal n) (decimal_digits n h)) refl

-- the text of a number, cut before the letter
text_pos : (n : ℕ) (e : ℤ) → real_text (record { mantissa = pos n; exp = e }) ≡ with_point n ++ 69 ∷ signed_decimal e
unfolding real_text with_point
text_pos n e = append_assoc (decimal n) (codes ".0E") (signed_decimal e) ∙ sym (append_assoc (decimal n) (46 ∷ 48 ∷ []) (69 ∷ signed_decimal e))

text_negsuc : (k : ℕ) (e : ℤ) → real_text (record { mantissa = negsuc k; exp = e }) ≡ 45 ∷ with_point (suc k) ++ 69 ∷ signed_decimal e
unfolding real_text with_point
text_negsuc k e = append_assoc (45 ∷ decimal (suc k)) (codes ".0E") (signed_decimal e) ∙ sym (append_assoc (45 ∷ decimal (suc k)) (46 ∷ 48 ∷ []) (69 ∷ signed_decimal e))

pub read_pos : (n : ℕ) (e : ℤ) → n < 2 ^ 64 → unsigned_abs e < 2 ^ 64 →
    read_real (real_text (record { mantissa = pos n; exp = e })) ≡ normal_form false (with_point n) e
unfolding with_point
read_pos n e small short =
    let cut : (before_letter (with_point n ++ 69 ∷ signed_decimal e) ≡ with_point n) × (after_letter (with_point n ++ 69 ∷ signed_decimal e) ≡ signed_decimal e) = cut_text (with_point n) (signed_decimal e) (no_letter n small) in
    let plain : (starts_with_minus (with_point n) ≡ false) × (without_leading_sign (with_point n) ≡ with_point n) = no_sign (decimal n) (46 ∷ 48 ∷ []) (decimal_digits n small) (decimal_nonempty n small) in
    let whole : (is_whole (without_leading_sign (signed_decimal e)) ≡ true) × (signed_digits_value 10 (signed_decimal e) ≡ e) = whole_exponent e short in
    ap read_real (text_pos n e)
    ∙ read_from_parts (with_point n ++ 69 ∷ signed_decimal e) (with_point n) (signed_decimal e) cut.0 cut.1 (ap is_fixed_point plain.1 ∙ fixed_point n small) whole.0
    ∙ ap (λ (b : Bool). normal_form b (without_leading_sign (with_point n)) (signed_digits_value 10 (signed_decimal e))) plain.0
    ∙ ap₂ (λ (number : List ℕ) (x : ℤ). normal_form false number x) plain.1 whole.1

pub read_negsuc : (k : ℕ) (e : ℤ) → suc k < 2 ^ 64 → unsigned_abs e < 2 ^ 64 →
    read_real (real_text (record { mantissa = negsuc k; exp = e })) ≡ normal_form true (with_point (suc k)) e
read_negsuc k e small short =
    let number : list_all (λ b. not (is_exponent_letter b)) (45 ∷ with_point (suc k)) ≡ true = no_letter (suc k) small in
    let cut : (before_letter (45 ∷ with_point (suc k) ++ 69 ∷ signed_decimal e) ≡ 45 ∷ with_point (suc k)) × (after_letter (45 ∷ with_point (suc k) ++ 69 ∷ signed_decimal e) ≡ signed_decimal e) = cut_text (45 ∷ with_point (suc k)) (signed_decimal e) number in
    let whole : (is_whole (without_leading_sign (signed_decimal e)) ≡ true) × (signed_digits_value 10 (signed_decimal e) ≡ e) = whole_exponent e short in
    ap read_real (text_negsuc k e)
    ∙ read_from_parts (45 ∷ with_point (suc k) ++ 69 ∷ signed_decimal e) (45 ∷ with_point (suc k)) (signed_decimal e) cut.0 cut.1 (fixed_point (suc k) small) whole.0
    ∙ ap (λ (x : ℤ). normal_form true (with_point (suc k)) x) whole.1

last_positive : (n : ℕ) → (n % 10 ≡ 0 → ⊥) → 0 < n % 10
last_positive n h = elim (cases_lt 0 (n % 10)) [ inl some ↦ some | inr none ↦ absurd (h (omega (arith, none))) ]

no_zero : (n : ℕ) → pos (suc n) ≡ pos 0 → ⊥
no_zero n h = omega (arith, ints)

no_negative : (k : ℕ) → negsuc k ≡ pos 0 → ⊥
no_negative k h = cc

exp_fits : (e : ℤ) → negsuc 399 ≤ℤ e → e ≤ℤ pos 400 → unsigned_abs e < 2 ^ 64
exp_fits e low high = let small : unsigned_abs e < 1000 = exp_size e low high in omega (arith, small)

same_number : (m e : ℤ) → IsNormal (record { mantissa = m; exp = e }) → read_real (real_text (record { mantissa = m; exp = e })) ≡ Ok (record { mantissa = m; exp = e })
same_number (pos zero) e h =
    let exp : e ≡ pos 0 = (h.last_digit refl).1 in
    read_pos 0 e (omega arith) (exp_fits e h.least_exp h.greatest_exp) ∙ form_zero_written false e
    ∙ ap (λ (x : ℤ). let read : Result DecimalNumber BadReal = Ok (record { mantissa = pos 0; exp = x }) in read) (sym exp)
same_number (pos (suc n)) e h =
    let last : 0 < suc n % 10 = last_positive (suc n) (λ tenth. no_zero n (h.last_digit tenth).0) in
    read_pos (suc n) e (omega (arith, h.digits)) (exp_fits e h.least_exp h.greatest_exp) ∙ form_written false (suc n) e last h.digits h.least_exp h.greatest_exp
same_number (negsuc k) e h =
    let last : 0 < suc k % 10 = last_positive (suc k) (λ tenth. no_negative k (h.last_digit tenth).0) in
    read_negsuc k e (omega (arith, h.digits)) (exp_fits e h.least_exp h.greatest_exp) ∙ form_written true (suc k) e last h.digits h.least_exp h.greatest_exp

-- what is written is read again
pub written_is_read : (number : DecimalNumber) → IsNormal number → read_real (real_text number) ≡ Ok number
written_is_read number h = same_number number.mantissa number.exp h
