-- The number of one or more digits, cut off at a limit.
use Rattle.std.proofs.Common.{◌≡◌, ℕ, ◌+◌, ◌-◌, ◌*◌, ◌<◌, ◌≤◌, min, Bool, true, false, ◌&&◌, List, length, take, get_or, refl, sym, ap, ◌∙◌, arith}
use Rattle.std.specs.Prelude.{nat_lt, ◌==◌}
use Rattle.std.specs.List.{list_all}
use Rattle.std.specs.Str.Parse.{digits_value}
use Rattle.std.specs.Char.{digit_value}
use Rattle.std.proofs.lemmas.Bool.{and_from}
use Rattle.std.proofs.lemmas.Bool.Decides.{nat_tests}
use Rattle.std.proofs.lemmas.List.{take_all}
use Rattle.std.proofs.lemmas.List.Folds.{list_all_more, list_all_at}
use Rattle.std.proofs.lemmas.Int.Digits.{digits_value_more}
use Rattle.decimal_scale.specs.Real.{is_digit, is_whole}
use Rattle.decimal_scale.specs.Scan.{IsCapped}

-- the digits so far, and their number cut off at the limit
pub record IsCappedFront (limit : ℕ) (text : List ℕ) (i n : ℕ) : Type 0 where
  pub digits : list_all is_digit (take i text) ≡ true
  pub value : n ≡ min (digits_value 10 (take i text)) limit

value_of_digit : (b : ℕ) → is_digit b ≡ true → digit_value b ≡ b - 48
value_of_digit b h = grind (arith, nat_tests)

capped_more : (v d limit : ℕ) → min (min v limit * 10 + d) limit ≡ min (v * 10 + d) limit
capped_more v d limit = omega arith

pub capped_next : (limit : ℕ) (text : List ℕ) (i n : ℕ) → i < length text → is_digit (get_or text i 0) ≡ true →
    IsCappedFront limit text i n → IsCappedFront limit text (i + 1) (min (n * 10 + (get_or text i 0 - 48)) limit)
capped_next limit text i n within digit h = record {
  digits = list_all_more is_digit text i 0 within ∙ and_from _ _ h.digits digit;
  value =
      ap (λ (m : ℕ). min (m * 10 + (get_or text i 0 - 48)) limit) h.value
      ∙ capped_more (digits_value 10 (take i text)) (get_or text i 0 - 48) limit
      ∙ ap (λ (d : ℕ). min (digits_value 10 (take i text) * 10 + d) limit) (sym (value_of_digit (get_or text i 0) digit))
      ∙ ap (λ (v : ℕ). min v limit) (sym (digits_value_more 10 text i within));
}

some : (n : ℕ) → 0 < n → nat_lt 0 n ≡ true
some n h = grind (arith, nat_tests)

pub capped_whole : (limit : ℕ) (text : List ℕ) (i n : ℕ) → length text ≤ i → 0 < length text → IsCappedFront limit text i n → IsCapped limit text n
unfolding is_whole
capped_whole limit text i n past positive h =
    let all : take i text ≡ text = take_all i text past in
    record {
      is = and_from _ _ (rw all at h.digits) (some (length text) positive);
      value = rw all at h.value;
    }

pub not_whole_at : (text : List ℕ) (i : ℕ) → i < length text → is_digit (get_or text i 0) ≡ false → is_whole text ≡ false
unfolding is_whole
not_whole_at text i within other = ap (λ (b : Bool). b && nat_lt 0 (length text)) (list_all_at is_digit text i 0 within other)

and_false : (b : Bool) → (b && false) ≡ false
and_false true = refl
and_false false = refl

pub not_whole_empty : (text : List ℕ) → length text ≡ 0 → is_whole text ≡ false
unfolding is_whole
not_whole_empty text h = ap (λ (n : ℕ). list_all is_digit text && nat_lt 0 n) h ∙ and_false (list_all is_digit text)

pub nonempty : (n : ℕ) → (n == 0) ≡ false → 0 < n
nonempty n h = grind (arith, nat_tests)
