-- One more byte of a number with at most one point: what the digits say.
use Rattle.std.proofs.Common.{◌≡◌, ◌≢◌, ℕ, ◌+◌, ◌*◌, ◌^◌, ◌<◌, ◌≤◌, Bool, true, false, cond, List, [], ◌∷◌, ◌++◌, length, take, get_or, replicate, ◌&&◌, ◌||◌, ◌⊎◌, inl, inr, refl, sym, ap, ◌∙◌, subst, arith}
use Rattle.std.specs.Prelude.{nat_le, count_by}
use Rattle.std.specs.List.{list_all}
use Rattle.std.proofs.lemmas.Bool.{and_from, or_from}
use Rattle.std.proofs.lemmas.List.{length-append, length-replicate}
use Rattle.std.proofs.lemmas.List.Sums.{count_by_more_yes, sum_by-take-le}
use Rattle.std.proofs.lemmas.List.Folds.{list_all_at}
use Rattle.std.specs.Char.{digit_value}
use Rattle.std.specs.Str.Parse.{digits_value}
use Rattle.std.specs.Int.{from_bool}
use Rattle.std.proofs.lemmas.Bool.Decides.{nat_tests}
use Rattle.decimal_scale.specs.declared.digits.Digits.{Digits}
use Rattle.decimal_scale.specs.Real.{is_digit, is_zero, is_point, is_fixed_point, zeros_dropped, led_digits, significant}
use Rattle.decimal_scale.specs.Scan.{HasShape, HasDigits, Scanned, AreDigitsOf}
use Rattle.decimal_scale.proofs.ShapeSteps.{shape_point, shape_digit}
use Rattle.decimal_scale.proofs.Values.{significant_below}
use Rattle.decimal_scale.proofs.DigitSteps.{digits_point, digits_leading_zero, digits_zero, digits_next}

-- a test as a number
pub test_number : (b : Bool) → from_bool b ≡ cond b 1 0
test_number true = refl
test_number false = refl

digit_byte : (digit : ℕ) → digit < 10 → is_digit (48 + digit) ≡ true
digit_byte digit h = grind (arith, nat_tests)

no_zero_byte : (digit : ℕ) → digit ≢ 0 → is_zero (48 + digit) ≡ false
no_zero_byte digit h = grind (arith, nat_tests)

value_of_byte : (digit : ℕ) → digit < 10 → digit_value (48 + digit) ≡ digit
value_of_byte digit h = grind (arith, nat_tests)

same_shape : (text : List ℕ) (p p' s s' : Bool) (a a' : ℕ) → p ≡ p' → s ≡ s' → a ≡ a' → HasShape text p s a → HasShape text p' s' a'
same_shape text p p' s s' a a' ep es ea h =
    subst (λ (q : Bool). HasShape text q s' a') ep (subst (λ (q : Bool). HasShape text p q a') es (subst (λ (q : ℕ). HasShape text p s q) ea h))

same_digits : (text : List ℕ) (v c c' z z' : ℕ) → c ≡ c' → z ≡ z' → HasDigits text v c z → HasDigits text v c' z'
same_digits text v c c' z z' ec ez h =
    subst (λ (q : ℕ). HasDigits text v q z') ec (subst (λ (q : ℕ). HasDigits text v c q) ez h)

at_most_one : (b : Bool) → nat_le (cond b 1 0) 1 ≡ true
at_most_one true = refl
at_most_one false = refl

above_one : (n : ℕ) → 2 ≤ n → nat_le n 1 ≡ false
above_one n h = grind (arith, nat_tests)

and_left : (x y : Bool) → x ≡ false → (x && y) ≡ false
and_left x y h = ap (λ (t : Bool). t && y) h

and_right : (x y : Bool) → y ≡ false → (x && y) ≡ false
and_right true y h = h
and_right false y h = refl

pub scanned_point : (text : List ℕ) (digits : Digits) → digits.has_point ≡ false → Scanned text digits → Scanned (text ++ 46 ∷ []) (record digits { has_point = true })
scanned_point text digits none h = record {
  shape = shape_point text digits.has_digit digits.after_point (subst (λ (p : Bool). HasShape text p digits.has_digit digits.after_point) none h.shape);
  number = digits_point text digits.significand digits.significant digits.trailing_zeros h.number;
}

-- the next digit, where it is not 0
pub scanned_next : (text : List ℕ) (old new : Digits) (digit : ℕ) → digit < 10 → digit ≢ 0 →
    new.significant ≡ old.significant + (old.trailing_zeros + 1) → new.trailing_zeros ≡ 0 →
    (new.significant ≤ 18 → new.significand ≡ old.significand * 10 ^ (old.trailing_zeros + 1) + digit) →
    new.after_point ≡ old.after_point + cond old.has_point 1 0 → new.has_point ≡ old.has_point → new.has_digit ≡ true →
    Scanned text old → Scanned (text ++ (48 + digit) ∷ []) new
scanned_next text old new digit below some count zeros value after point digit_seen h = record {
  shape = same_shape (text ++ (48 + digit) ∷ []) old.has_point new.has_point true new.has_digit (old.after_point + cond old.has_point 1 0) new.after_point (sym point) (sym digit_seen) (sym after)
      (shape_digit text (48 + digit) old.has_point old.has_digit old.after_point (digit_byte digit below) h.shape);
  number = same_digits (text ++ (48 + digit) ∷ []) new.significand (old.significant + (old.trailing_zeros + 1)) new.significant 0 new.trailing_zeros (sym count) (sym zeros)
      (digits_next text (48 + digit) old.significand old.significant old.trailing_zeros new.significand (digit_byte digit below) (no_zero_byte digit some)
      (λ small. value (omega (arith, count, small)) ∙ ap (λ (d : ℕ). old.significand * 10 ^ (old.trailing_zeros + 1) + d) (sym (value_of_byte digit below))) h.number);
}

-- the next digit, where it is 0: after significant digits, and before them
pub scanned_zero : (text : List ℕ) (old : Digits) (from : ℕ) → from ≡ cond old.has_point 1 0 → 0 < old.significant → Scanned text old →
    Scanned (text ++ 48 ∷ []) (record old { has_digit = true; after_point = old.after_point + from; trailing_zeros = old.trailing_zeros + 1 })
scanned_zero text old from e some h = record {
  shape = subst (λ (n : ℕ). HasShape (text ++ 48 ∷ []) old.has_point true (old.after_point + n)) (sym e) (shape_digit text 48 old.has_point old.has_digit old.after_point refl h.shape);
  number = digits_zero text old.significand old.significant old.trailing_zeros some h.number;
}

pub scanned_leading_zero : (text : List ℕ) (old : Digits) (from : ℕ) → from ≡ cond old.has_point 1 0 → old.significant ≡ 0 → Scanned text old →
    Scanned (text ++ 48 ∷ []) (record old { has_digit = true; after_point = old.after_point + from })
scanned_leading_zero text old from e none h = record {
  shape = subst (λ (n : ℕ). HasShape (text ++ 48 ∷ []) old.has_point true (old.after_point + n)) (sym e) (shape_digit text 48 old.has_point old.has_digit old.after_point refl h.shape);
  number = subst (λ (n : ℕ). HasDigits (text ++ 48 ∷ []) old.significand n old.trailing_zeros) (sym none)
      (digits_leading_zero text old.significand old.trailing_zeros (subst (λ (n : ℕ). HasDigits text old.significand n old.trailing_zeros) none h.number));
}

-- the digits at the end of the text
pub all_scanned : (text : List ℕ) (digits : Digits) → digits.has_digit ≡ true → Scanned text digits → AreDigitsOf text digits
unfolding is_fixed_point zeros_dropped
all_scanned text digits some h =
    let at_most : nat_le (count_by is_point text) 1 ≡ true = ap (λ (n : ℕ). nat_le n 1) h.shape.points ∙ at_most_one digits.has_point in
    let led : length (led_digits text) ≡ length (significant text) + digits.trailing_zeros =
    ap length h.number.followed ∙ length-append (significant text) (replicate digits.trailing_zeros 48) ∙ ap (λ (n : ℕ). length (significant text) + n) (length-replicate digits.trailing_zeros 48) in
    record {
      is = and_from _ _ (and_from _ _ h.shape.allowed at_most) (h.shape.some ∙ some);
      after = sym h.shape.after_point;
      count = sym h.number.counted;
      zeros = omega (arith, led);
      value = h.number.written;
    }

-- a text without a digit is refused
pub no_digit : (text : List ℕ) (digits : Digits) → digits.has_digit ≡ false → Scanned text digits → is_fixed_point text ≡ false
unfolding is_fixed_point
no_digit text digits none h = and_right _ _ (h.shape.some ∙ none)

-- a text with another byte is no number with at most one point
pub other_byte : (text : List ℕ) (i : ℕ) → i < length text → is_digit (get_or text i 0) ≡ false → is_point (get_or text i 0) ≡ false → is_fixed_point text ≡ false
unfolding is_fixed_point
other_byte text i within digit point =
    let refused : list_all (λ byte. is_digit byte || is_point byte) text ≡ false = list_all_at (λ byte. is_digit byte || is_point byte) text i 0 within (or_from _ _ digit point) in
    and_left _ _ (and_left _ _ refused)

-- nor is a text with another point
pub second_point : (text : List ℕ) (i : ℕ) → i < length text → get_or text i 0 ≡ 46 → count_by is_point (take i text) ≡ 1 → is_fixed_point text ≡ false
unfolding is_fixed_point
second_point text i within point one =
    let here : is_point (get_or text i 0) ≡ true = ap is_point point in
    let two : count_by is_point (take (i + 1) text) ≡ count_by is_point (take i text) + 1 = count_by_more_yes is_point text i 0 within here in
    let some : count_by is_point (take (i + 1) text) ≤ count_by is_point text = sum_by-take-le (λ x. cond (is_point x) 1 0) text (i + 1) in
    let more : 2 ≤ count_by is_point text = omega (arith, two, one, some) in
    and_left _ _ (and_right _ _ (above_one (count_by is_point text) more))

pub other_bytes : (b : ℕ) → b ≢ 46 → (b < 48) ⊎ (57 < b) → (is_digit b ≡ false) × (is_point b ≡ false)
other_bytes b other range = (elim range [ inl low ↦ grind (arith, nat_tests) | inr high ↦ grind (arith, nat_tests) ], grind (arith, nat_tests))

-- a number of at most 18 digits is that small
pub scanned_small : (text : List ℕ) (digits : Digits) → Scanned text digits → digits.significant ≤ 18 → digits.significand < 10 ^ digits.significant
scanned_small text digits h few =
    let below : digits_value 10 (significant text) < 10 ^ length (significant text) = significant_below text in
    let power : 10 ^ length (significant text) ≡ 10 ^ digits.significant = ap (λ (n : ℕ). 10 ^ n) h.number.counted in
    omega (arith, below, power, h.number.written few)
