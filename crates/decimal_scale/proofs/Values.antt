-- The number that significant digits write: it has as many digits, and its last one is not 0.
use Rattle.std.proofs.Common.{◌≡◌, ℕ, ◌+◌, ◌*◌, ◌%◌, ◌^◌, ◌<◌, Bool, true, false, cond, List, [], ◌∷◌, ◌++◌, length, reverse, refl, sym, ap, ◌∙◌, subst, arith}
use Rattle.std.specs.Prelude.{filter, ⊤}
use Rattle.std.specs.List.{list_all}
use Rattle.std.specs.Str.Parse.{digits_value, AllDigits}
use Rattle.std.specs.Char.{digit_value}
use Rattle.std.proofs.lemmas.Bool.{and_parts, and_from}
use Rattle.std.proofs.lemmas.Bool.Decides.{nat_tests}
use Rattle.std.proofs.lemmas.List.{reverse-append, length-reverse}
use Rattle.std.proofs.lemmas.List.Folds.{list_all-append}
use Rattle.std.proofs.lemmas.Int.Digits.{digits_value_push, digits_value-lt}
use Rattle.decimal_scale.specs.Real.{is_digit, is_zero, without_leading_zeros, led_digits, significant}

pub digit_below_ten : (b : ℕ) → is_digit b ≡ true → digit_value b < 10
digit_below_ten b h = grind (arith, nat_tests)

no_zero_above : (b : ℕ) → is_digit b ≡ true → is_zero b ≡ false → 0 < digit_value b
no_zero_above b h e = grind (arith, nat_tests)

filtered_all : (xs : List ℕ) → list_all is_digit (filter is_digit xs) ≡ true
filtered_all [] = refl
filtered_all (x ∷ xs) =
    (elim (is_digit x) as (λ (b : Bool). is_digit x ≡ b → list_all is_digit (cond b (x ∷ filter is_digit xs) (filter is_digit xs)) ≡ true) [
      | true ↦ λ e. and_from _ _ e (filtered_all xs)
      | false ↦ λ e. filtered_all xs
    ]) refl

led_all : (xs : List ℕ) → list_all is_digit xs ≡ true → list_all is_digit (without_leading_zeros xs) ≡ true
led_all [] h = refl
led_all (x ∷ xs) h =
    elim (is_zero x) as (λ (b : Bool). list_all is_digit (cond b (without_leading_zeros xs) (x ∷ xs)) ≡ true) [
      | true ↦ led_all xs (and_parts (is_digit x) (list_all is_digit xs) h).1
      | false ↦ h
    ]

reversed_all : (xs : List ℕ) → list_all is_digit xs ≡ true → list_all is_digit (reverse xs) ≡ true
reversed_all [] h = refl
reversed_all (x ∷ xs) h =
    let parts : (is_digit x ≡ true) × (list_all is_digit xs ≡ true) = and_parts (is_digit x) (list_all is_digit xs) h in
    let turned : reverse (x ∷ xs) ≡ reverse xs ++ x ∷ [] = reverse-append (x ∷ []) xs in
    ap (list_all is_digit) turned ∙ list_all-append is_digit (reverse xs) (x ∷ []) ∙ and_from _ _ (reversed_all xs parts.1) (and_from _ _ parts.0 refl)

pub all_digits_from : (xs : List ℕ) → list_all is_digit xs ≡ true → AllDigits 10 xs
all_digits_from [] h = tt
all_digits_from (x ∷ xs) h =
    let parts : (is_digit x ≡ true) × (list_all is_digit xs ≡ true) = and_parts (is_digit x) (list_all is_digit xs) h in
    (digit_below_ten x parts.0, all_digits_from xs parts.1)

pub led_digits_all : (text : List ℕ) → list_all is_digit (led_digits text) ≡ true
unfolding led_digits
led_digits_all text = led_all (filter is_digit text) (filtered_all text)

pub significant_all : (text : List ℕ) → list_all is_digit (significant text) ≡ true
unfolding significant
significant_all text = reversed_all (without_leading_zeros (reverse (led_digits text))) (led_all (reverse (led_digits text)) (reversed_all (led_digits text) (led_digits_all text)))

-- a number has at most as many digits as write it
pub significant_below : (text : List ℕ) → digits_value 10 (significant text) < 10 ^ length (significant text)
significant_below text = digits_value-lt 10 (significant text) (all_digits_from (significant text) (significant_all text))

-- the first digit, where there is one, is not 0
HasHead : List ℕ → Type 0
HasHead [] = ⊤
HasHead (x ∷ xs) = (is_digit x ≡ true) × (is_zero x ≡ false)

led_head : (xs : List ℕ) → list_all is_digit xs ≡ true → HasHead (without_leading_zeros xs)
unfolding HasHead
led_head [] h = tt
led_head (x ∷ xs) h =
    (elim (is_zero x) as (λ (b : Bool). is_zero x ≡ b → HasHead (cond b (without_leading_zeros xs) (x ∷ xs))) [
      | true ↦ λ e. led_head xs (and_parts (is_digit x) (list_all is_digit xs) h).1
      | false ↦ λ e. ((and_parts (is_digit x) (list_all is_digit xs) h).0, e)
    ]) refl

last_of_pushed : (v d : ℕ) → 0 < d → d < 10 → 0 < (v * 10 + d) % 10
last_of_pushed v d h below = omega arith

reversed_last : (xs : List ℕ) → HasHead xs → 0 < length xs → 0 < digits_value 10 (reverse xs) % 10
unfolding HasHead
reversed_last [] h some = absurd (omega arith)
reversed_last (x ∷ xs) h some =
    let turned : reverse (x ∷ xs) ≡ reverse xs ++ x ∷ [] = reverse-append (x ∷ []) xs in
    let value : digits_value 10 (reverse (x ∷ xs)) ≡ digits_value 10 (reverse xs) * 10 + digit_value x = ap (digits_value 10) turned ∙ digits_value_push 10 (reverse xs) x in
    let last : 0 < (digits_value 10 (reverse xs) * 10 + digit_value x) % 10 = last_of_pushed (digits_value 10 (reverse xs)) (digit_value x) (no_zero_above x h.0 h.1) (digit_below_ten x h.0) in
    subst (λ (n : ℕ). 0 < n % 10) (sym value) last

-- the last significant digit is not 0
pub significant_last : (text : List ℕ) → 0 < length (significant text) → 0 < digits_value 10 (significant text) % 10
unfolding significant
significant_last text some =
    let same : length (reverse (without_leading_zeros (reverse (led_digits text)))) ≡ length (without_leading_zeros (reverse (led_digits text))) = length-reverse (without_leading_zeros (reverse (led_digits text))) in
    reversed_last (without_leading_zeros (reverse (led_digits text))) (led_head (reverse (led_digits text)) (reversed_all (led_digits text) (led_digits_all text))) (omega (arith, same, some))
