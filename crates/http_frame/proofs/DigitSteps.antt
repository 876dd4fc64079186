-- The number that digits write, one digit at a time, with an upper end.
use Rattle.std.proofs.Common.{◌≡◌, ℕ, ◌+◌, ◌-◌, ◌*◌, ◌<◌, true, List, length, take, min, get_or, ◌∙◌, refl, arith}
use Rattle.std.specs.List.{list_all}
use Rattle.std.specs.Char.{is_ascii_digit, digit_value}
use Rattle.std.specs.Str.Parse.{digits_value}
use Rattle.std.proofs.lemmas.List.Folds.{list_all_more}
use Rattle.std.proofs.lemmas.Int.Digits.{digits_value_more}
use Rattle.std.proofs.lemmas.Grind.{common_steps}

digit_of : (b : ℕ) → is_ascii_digit b ≡ true → digit_value b ≡ b - 48
digit_of b h = grind (arith, common_steps)

module _ (text : List ℕ) (i : ℕ) (within : i < length text) where
  pub digits_more : list_all is_ascii_digit (take i text) ≡ true → is_ascii_digit (get_or text i 0) ≡ true → list_all is_ascii_digit (take (i + 1) text) ≡ true
  digits_more before this = list_all_more is_ascii_digit text i 0 within ∙ rw (before, this) refl

  pub number_more : (most number tens : ℕ) → number ≡ min (digits_value 10 (take i text)) most → tens ≡ min (number * 10) most
      → is_ascii_digit (get_or text i 0) ≡ true
      → min (tens + (get_or text i 0 - 48)) most ≡ min (digits_value 10 (take (i + 1) text)) most
  number_more most number tens so ten this =
      let more : digits_value 10 (take (i + 1) text) ≡ digits_value 10 (take i text) * 10 + digit_value (get_or text i 0) = digits_value_more 10 text i within in
      let digit : digit_value (get_or text i 0) ≡ get_or text i 0 - 48 = digit_of (get_or text i 0) this in
      omega arith
