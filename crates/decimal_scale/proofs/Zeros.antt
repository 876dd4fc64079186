-- Leading and trailing zeros of a list of digits, and the number that the digits write.
use Rattle.std.proofs.Common.{◌≡◌, ℕ, zero, suc, ◌+◌, ◌*◌, ◌^◌, ◌<◌, Bool, true, false, cond, List, [], ◌∷◌, ◌++◌, length, reverse, replicate, refl, sym, ap, ◌∙◌, arith, append_assoc, pow-suc}
use Rattle.std.specs.Str.Parse.{digits_value}
use Rattle.std.specs.Char.{digit_value}
use Rattle.std.proofs.lemmas.List.{reverse-append, reverse-reverse, append-nil, replicate_more}
use Rattle.std.proofs.lemmas.Int.Digits.{digits_value_push}
use Rattle.decimal_scale.specs.Real.{is_zero, without_leading_zeros, without_trailing_zeros}

-- where only zeros stand before, what follows decides
pub led_after_zeros : (xs ys : List ℕ) → without_leading_zeros xs ≡ [] → without_leading_zeros (xs ++ ys) ≡ without_leading_zeros ys
led_after_zeros [] ys h = refl
led_after_zeros (x ∷ xs) ys h =
    (elim (is_zero x) as (λ (b : Bool). cond b (without_leading_zeros xs) (x ∷ xs) ≡ [] → cond b (without_leading_zeros (xs ++ ys)) (x ∷ (xs ++ ys)) ≡ without_leading_zeros ys) [
      | true ↦ λ e. led_after_zeros xs ys e
      | false ↦ λ e. cc
    ]) h

-- where another digit stands before, what follows stays whole
pub led_more : (xs ys : List ℕ) → 0 < length (without_leading_zeros xs) → without_leading_zeros (xs ++ ys) ≡ without_leading_zeros xs ++ ys
led_more [] ys h = absurd (omega arith)
led_more (x ∷ xs) ys h =
    (elim (is_zero x) as (λ (b : Bool). 0 < length (cond b (without_leading_zeros xs) (x ∷ xs)) → cond b (without_leading_zeros (xs ++ ys)) (x ∷ (xs ++ ys)) ≡ cond b (without_leading_zeros xs) (x ∷ xs) ++ ys) [
      | true ↦ λ e. led_more xs ys e
      | false ↦ λ e. refl
    ]) h

-- a last zero is dropped
pub trailing_zero : (xs : List ℕ) → without_trailing_zeros (xs ++ 48 ∷ []) ≡ without_trailing_zeros xs
trailing_zero xs = ap (λ (ys : List ℕ). reverse (without_leading_zeros ys)) (reverse-append xs (48 ∷ []))

-- nothing is dropped before a last digit that is no zero
pub last_digit_stays : (xs : List ℕ) (d : ℕ) → is_zero d ≡ false → without_trailing_zeros (xs ++ d ∷ []) ≡ xs ++ d ∷ []
last_digit_stays xs d h =
    let turned : reverse (xs ++ d ∷ []) ≡ d ∷ reverse xs = reverse-append xs (d ∷ []) in
    let stays : without_leading_zeros (d ∷ reverse xs) ≡ d ∷ reverse xs = ap (λ (b : Bool). cond b (without_leading_zeros (reverse xs)) (d ∷ reverse xs)) h in
    ap (λ (ys : List ℕ). reverse (without_leading_zeros ys)) turned ∙ ap reverse (stays ∙ sym turned) ∙ reverse-reverse (xs ++ d ∷ [])

-- zeros after a number multiply it by a power of ten
pub value_before_zeros : (xs : List ℕ) (n : ℕ) → digits_value 10 (xs ++ replicate n 48) ≡ digits_value 10 xs * 10 ^ n
value_before_zeros xs zero = ap (digits_value 10) (append-nil xs) ∙ omega arith
value_before_zeros xs (suc n) =
    let next : suc n ≡ n + 1 = omega arith in
    let more : replicate {A = ℕ} (suc n) 48 ≡ replicate n 48 ++ 48 ∷ [] = ap (λ (k : ℕ). replicate k 48) next ∙ sym (replicate_more n 48) in
    let pushed : digits_value 10 (xs ++ replicate n 48 ++ 48 ∷ []) ≡ digits_value 10 (xs ++ replicate n 48) * 10 + digit_value 48 = digits_value_push 10 (xs ++ replicate n 48) 48 in
    let before : digits_value 10 (xs ++ replicate n 48) ≡ digits_value 10 xs * 10 ^ n = value_before_zeros xs n in
    ap (λ (ys : List ℕ). digits_value 10 (xs ++ ys)) more ∙ ap (digits_value 10) (sym (append_assoc xs (replicate n 48) (48 ∷ []))) ∙ pushed
    ∙ rw (before, pow-suc 10 n) (omega arith)
