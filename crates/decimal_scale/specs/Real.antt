-- Real numbers in decimal text, as the cards of a FITS header write them (FITS 4.0, section 4.2.4). This project's profile
-- also takes the small letters `e` and `d`. The normal form is this project's own. Texts are lists of bytes.
use Rattle.std.specs.Prelude.{◌≡◌, ℕ, ◌-◌, ◌%◌, ◌^◌, ◌<◌, Bool, not, ◌&&◌, ◌||◌, ◌==◌, nat_lt, nat_le, if◌then◌else◌, List, [], ◌∷◌, ◌++◌, length, reverse, filter, count_by, codes, ℤ, pos, negsuc, neg_ℤ, ◌+ℤ◌, ◌-ℤ◌, ◌≤ℤ◌, int_lt, unsigned_abs, Result, Ok, Err}
use Rattle.std.specs.List.{list_all, list_any, before_first, after_first}
use Rattle.std.specs.Fmt.{signed_decimal}
use Rattle.std.specs.Str.Parse.{digits_value, signed_digits_value, starts_with_minus, without_leading_sign}
use Rattle.decimal_scale.specs.declared.fault.BadReal.{BadReal}
use Rattle.decimal_scale.specs.declared.fault.BadReal.TheVariants.{NotANumber, TooLong, Exponent}

-- ---- the number

-- mantissa · 10 ^ exp
pub record DecimalNumber : Type 0 where
  pub mantissa : ℤ
  pub exp : ℤ

-- the normal form: at most 18 digits, the last of which is 0 in the number 0 alone, and an exponent from -400 to 400, which
-- is 0 in the number 0
pub record IsNormal (number : DecimalNumber) : Type 0 where
  pub digits : unsigned_abs number.mantissa < 10 ^ 18
  pub last_digit : unsigned_abs number.mantissa % 10 ≡ 0 → (number.mantissa ≡ pos 0) × (number.exp ≡ pos 0)
  pub least_exp : negsuc 399 ≤ℤ number.exp
  pub greatest_exp : number.exp ≤ℤ pos 400

-- ---- the text

-- `0` to `9`
abbrev pub is_digit : ℕ → Bool
is_digit byte = nat_le 48 byte && nat_le byte 57

abbrev pub is_zero : ℕ → Bool
is_zero byte = byte == 48

abbrev pub is_point : ℕ → Bool
is_point byte = byte == 46

-- `E`, `D`, `e` or `d`
abbrev pub is_exponent_letter : ℕ → Bool
is_exponent_letter byte = byte == 69 || byte == 68 || byte == 101 || byte == 100

-- digits with at most one point before, among or after them, and at least one digit
unfoldable pub is_fixed_point : List ℕ → Bool
is_fixed_point text = list_all (λ byte. is_digit byte || is_point byte) text && nat_le (count_by is_point text) 1 && list_any is_digit text

-- one or more digits
unfoldable pub is_whole : List ℕ → Bool
is_whole text = list_all is_digit text && nat_lt 0 (length text)

-- what stands before the first exponent letter, or the whole text where there is none
unfoldable pub before_letter : List ℕ → List ℕ
before_letter text = before_first is_exponent_letter text

-- what stands after the first exponent letter, or nothing where there is none
unfoldable pub after_letter : List ℕ → List ℕ
after_letter text = after_first is_exponent_letter text

-- an optional sign and a number with at most one point, and then optionally an exponent letter, an optional sign and a
-- whole number
unfoldable pub is_real : List ℕ → Bool
is_real text = is_fixed_point (without_leading_sign (before_letter text))
    && (not (list_any is_exponent_letter text) || is_whole (without_leading_sign (after_letter text)))

-- ---- the digits of a number with at most one point

abbrev pub without_leading_zeros : List ℕ → List ℕ
without_leading_zeros [] = []
without_leading_zeros (digit ∷ digits) = if is_zero digit then without_leading_zeros digits else digit ∷ digits

abbrev pub without_trailing_zeros : List ℕ → List ℕ
without_trailing_zeros digits = reverse (without_leading_zeros (reverse digits))

-- the digits in order, without the point and without leading zeros
unfoldable pub led_digits : List ℕ → List ℕ
led_digits number = without_leading_zeros (filter is_digit number)

-- the significant part: the digits in order, without the point and without leading and trailing zeros
unfoldable pub significant : List ℕ → List ℕ
significant number = without_trailing_zeros (led_digits number)

-- how many trailing zeros were dropped
unfoldable pub zeros_dropped : List ℕ → ℕ
zeros_dropped number = length (led_digits number) - length (significant number)

-- how many digits stand after the point
unfoldable pub digits_after_point : List ℕ → ℕ
digits_after_point number = length (after_first is_point number)

-- ---- reading and writing

-- the exponent of ten that belongs to the significant part: the written one, less the number of digits after the point,
-- plus the number of trailing zeros dropped
unfoldable pub exponent : List ℕ → ℤ → ℤ
exponent number written = written -ℤ pos (digits_after_point number) +ℤ pos (zeros_dropped number)

abbrev pub signed : Bool → ℕ → ℤ
signed negative n = if negative then neg_ℤ (pos n) else pos n

-- the normal form of a number with at most one point times ten to the written exponent, or why it has none; no significant
-- digit is the number 0, whatever the sign and the exponent
unfoldable pub normal_form : Bool → List ℕ → ℤ → Result DecimalNumber BadReal
normal_form negative number written =
    if nat_lt 18 (length (significant number)) then Err TooLong
    else (if length (significant number) == 0 then Ok (record { mantissa = pos 0; exp = pos 0 })
    else (if int_lt (exponent number written) (negsuc 399) || int_lt (pos 400) (exponent number written) then Err Exponent
    else Ok (record { mantissa = signed negative (digits_value 10 (significant number)); exp = exponent number written })))

-- the number of a text, or why it has none; the written exponent is 0 where there is none
unfoldable pub read_real : List ℕ → Result DecimalNumber BadReal
read_real text =
    if is_real text
    then normal_form (starts_with_minus (before_letter text)) (without_leading_sign (before_letter text)) (signed_digits_value 10 (after_letter text))
    else Err NotANumber

-- the text that is written of a number
unfoldable pub real_text : DecimalNumber → List ℕ
real_text number = signed_decimal number.mantissa ++ codes ".0E" ++ signed_decimal number.exp
