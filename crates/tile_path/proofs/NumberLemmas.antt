-- A number in plain decimals is found in one way alone.
use Rattle.std.proofs.Common.{◌≡◌, ◌≢◌, ℕ, ◌^◌, ◌<◌, ◌≤◌, inl, inr, List, [], ◌∷◌, ◌++◌, length, get_or, take, drop, decimal, refl, sym, ◌∙◌, ap, subst, arith}
use Rattle.std.specs.Int.{IsInRange}
use Rattle.std.specs.Str.Parse.{AllDigits, digits_value}
use Rattle.std.proofs.lemmas.List.{take-append-drop, append_cancel_left, drop_more, drop_all, length-take-le, get_or-take}
use Rattle.std.proofs.lemmas.Str.Parse.{IsNumeralModel, numerals_by_value, tells_digits, tells_by_index, digit_from_value}
use Rattle.std.proofs.lemmas.Fmt.{digits_decimal, decimal_injective}
use Rattle.std.proofs.lemmas.Bool.{cases_order}
use Rattle.tile_path.specs.Numbers.{EndsNumber, HasNumber}

own : IsNumeralModel (AllDigits 10) (digits_value 10)
own = numerals_by_value (AllDigits 10) tells_digits

-- each byte is a digit, by index
abbrev pub DigitsByIndex : List ℕ → Type 0
DigitsByIndex ds = (i : ℕ) → i < length ds → IsInRange 48 57 (get_or ds i 0)

by_index : IsNumeralModel DigitsByIndex (digits_value 10)
by_index = numerals_by_value DigitsByIndex tells_by_index

digits_of_decimal : (n : ℕ) → n < 2 ^ 64 → AllDigits 10 (decimal n)
digits_of_decimal n small = digits_decimal own n small

-- ---- where a number ends

pub ends_from_index : (bytes : List ℕ) (i : ℕ) → i ≤ length bytes
    → (i < length bytes → ¬ (IsInRange 48 57 (get_or bytes i 0))) → EndsNumber (drop i bytes)
ends_from_index bytes i within ends = elim (cases_order i (length bytes)) [
  | inl same ↦ subst EndsNumber (sym (drop_all i bytes (omega arith))) tt
  | inr (inl below) ↦ subst EndsNumber (sym (drop_more bytes i 0 below)) (ends below)
  | inr (inr above) ↦ absurd (omega arith)
]

not_both : (y : ℕ) (a ys : List ℕ) → EndsNumber a → IsInRange 48 57 y → a ≡ y ∷ ys → ⊥
not_both y a ys ends digit e = subst EndsNumber e ends digit

-- two runs of digits that end on one text are one run
digits_split : (xs ys a b : List ℕ) → AllDigits 10 xs → AllDigits 10 ys → EndsNumber a → EndsNumber b
    → xs ++ a ≡ ys ++ b → (xs ≡ ys) × (a ≡ b)
digits_split [] [] a b dx dy ea eb e = (refl, e)
digits_split [] (y ∷ ys) a b dx dy ea eb e = absurd (not_both y a (ys ++ b) ea (digit_from_value y dy.0) e)
digits_split (x ∷ xs) [] a b dx dy ea eb e = absurd (not_both x b (xs ++ a) eb (digit_from_value x dx.0) (sym e))
digits_split (x ∷ xs) (y ∷ ys) a b dx dy ea eb e =
    let head : x ≡ y = cc in
    let tail : xs ++ a ≡ ys ++ b = cc in
    let rest : (xs ≡ ys) × (a ≡ b) = digits_split xs ys a b dx.1 dy.1 ea eb tail in
    (λ k. head k ∷ rest.0 k, rest.1)

-- a text has one number after a word, and one rest
pub same_number : (text word : List ℕ) (m n : ℕ) (a b : List ℕ) → HasNumber text word m a → HasNumber text word n b → (m ≡ n) × (a ≡ b)
same_number text word m n a b first second =
    let e : decimal m ++ a ≡ decimal n ++ b = append_cancel_left word (decimal m ++ a) (decimal n ++ b) (sym first.is ∙ second.is) in
    let split : (decimal m ≡ decimal n) × (a ≡ b) =
    digits_split (decimal m) (decimal n) a b (digits_of_decimal m first.in_range) (digits_of_decimal n second.in_range) first.ends second.ends e in
    (decimal_injective m n first.in_range second.in_range split.0, split.1)

-- ---- the number after a word

pub number_found : (text word numbered : List ℕ) (end number : ℕ) → text ≡ word ++ numbered → end ≤ length numbered
    → (end < length numbered → ¬ (IsInRange 48 57 (get_or numbered end 0)))
    → number < 2 ^ 64 → take end numbered ≡ decimal number → HasNumber text word number (drop end numbered)
number_found text word numbered end number is within ends small digits = record {
  is = is ∙ ap (λ bytes. word ++ bytes) (sym (take-append-drop end numbered) ∙ ap (λ bytes. bytes ++ drop end numbered) digits);
  in_range = small;
  ends = ends_from_index numbered end within ends;
}

pub no_word : (text word : List ℕ) → ((rest : List ℕ) → text ≢ word ++ rest)
    → (number : ℕ) (rest : List ℕ) → ¬ HasNumber text word number rest
no_word text word none number rest has = none (decimal number ++ rest) has.is

taken_digits : (numbered : List ℕ) (end : ℕ) → end ≤ length numbered
    → ((i : ℕ) → i < end → IsInRange 48 57 (get_or numbered i 0)) → DigitsByIndex (take end numbered)
taken_digits numbered end within digits i below =
    let shorter : i < end = omega (arith, length-take-le end numbered within) in
    subst (IsInRange 48 57) (sym (get_or-take end numbered i 0 shorter)) (digits i shorter)

pub no_number : (text word numbered : List ℕ) (end : ℕ) → text ≡ word ++ numbered → end ≤ length numbered
    → ((i : ℕ) → i < end → IsInRange 48 57 (get_or numbered i 0))
    → (end < length numbered → ¬ (IsInRange 48 57 (get_or numbered end 0)))
    → ((n : ℕ) → n < 2 ^ 64 → take end numbered ≢ decimal n)
    → (number : ℕ) (rest : List ℕ) → ¬ HasNumber text word number rest
no_number text word numbered end is within digits ends none number rest has =
    let e : numbered ≡ decimal number ++ rest = append_cancel_left word numbered (decimal number ++ rest) (sym is ∙ has.is) in
    let split : (take end numbered ≡ decimal number) × (drop end numbered ≡ rest) =
    digits_split (take end numbered) (decimal number) (drop end numbered) rest
    (by_index.to (take end numbered) (taken_digits numbered end within digits))
    (digits_of_decimal number has.in_range) (ends_from_index numbered end within ends) has.ends
    (take-append-drop end numbered ∙ e) in
    none number has.in_range split.0
