-- Laws of the definitions, each the whole contract of a function of `laws`.
use Rattle.std.specs.Prelude.{◌≡◌, ℕ, ◌^◌, ◌<◌, ◌≤◌, true, List, length, ℤ, decimal, Some, Ok}
use Rattle.std.specs.Fmt.{signed_decimal}
use Rattle.decimal_scale.specs.Real.{DecimalNumber, IsNormal, read_real, real_text}
use Rattle.decimal_scale.specs.Whole.{plain_value, fits_64_bits, whole_value}

-- what is written of a number in normal form is read again as that number
abbrev pub WrittenIsRead : Type 0
WrittenIsRead = (number : DecimalNumber) → IsNormal number → read_real (real_text number) ≡ Ok number

-- what is read is in normal form
abbrev pub ReadIsNormal : Type 0
ReadIsNormal = (text : List ℕ) (number : DecimalNumber) → read_real text ≡ Ok number → IsNormal number

-- the text of a number in normal form has at most 26 bytes
abbrev pub WrittenIsShort : Type 0
WrittenIsShort = (number : DecimalNumber) → IsNormal number → length (real_text number) ≤ 26

-- what is written of a whole number of 64 bits is read again as that number
abbrev pub WholeIsRead : Type 0
WholeIsRead = (n : ℤ) → fits_64_bits n ≡ true → whole_value (signed_decimal n) ≡ Some n

-- a number below 2^64 in plain decimals is read as that number, and nothing else is read as a number
pub record PlainIsRead : Type 0 where
  pub written : (n : ℕ) → n < 2 ^ 64 → plain_value (decimal n) ≡ Some n
  pub read : (text : List ℕ) (n : ℕ) → plain_value text ≡ Some n → (text ≡ decimal n) × (n < 2 ^ 64)
