-- What the digits that were read so far say of the text that they stand in.
use Rattle.std.specs.Prelude.{◌≡◌, ℕ, ◌+◌, ◌≤◌, min, Bool, true, false, cond, ◌||◌, nat_lt, List, ◌++◌, length, count_by, replicate, ℤ}
use Rattle.std.specs.List.{list_all, list_any, position_or_len}
use Rattle.std.specs.Str.Parse.{digits_value, starts_with_minus, without_leading_sign}
use Rattle.decimal_scale.specs.Real.{is_digit, is_point, is_fixed_point, is_whole, led_digits, significant, zeros_dropped, digits_after_point, signed}
use Rattle.decimal_scale.specs.declared.digits.Digits.{Digits}
use Rattle.decimal_scale.specs.declared.fault.BadReal.{BadReal}
use Rattle.decimal_scale.specs.declared.fault.BadReal.TheVariants.{NotANumber}

-- the front of a number with at most one point: whether it has the point and a digit, and how many digits follow the point
pub record HasShape (text : List ℕ) (has_point has_digit : Bool) (after : ℕ) : Type 0 where
  pub allowed : list_all (λ byte. is_digit byte || is_point byte) text ≡ true
  pub points : count_by is_point text ≡ cond has_point 1 0
  pub found : nat_lt (position_or_len is_point text) (length text) ≡ has_point
  pub some : list_any is_digit text ≡ has_digit
  pub after_point : digits_after_point text ≡ after
  pub room : after ≤ length text

-- the significant digits of the front of a number with at most one point: what they write, how many they are, and how many zeros follow them
pub record HasDigits (text : List ℕ) (value count zeros : ℕ) : Type 0 where
  pub counted : length (significant text) ≡ count
  pub followed : led_digits text ≡ significant text ++ replicate zeros 48
  pub none : count ≡ 0 → zeros ≡ 0
  pub written : count ≤ 18 → value ≡ digits_value 10 (significant text)
  pub room : count + zeros ≤ length text

-- these are the digits of the front of a number with at most one point
pub record Scanned (text : List ℕ) (digits : Digits) : Type 0 where
  pub shape : HasShape text digits.has_point digits.has_digit digits.after_point
  pub number : HasDigits text digits.significand digits.significant digits.trailing_zeros

-- these are the digits of a whole number with at most one point
pub record AreDigitsOf (text : List ℕ) (digits : Digits) : Type 0 where
  pub is : is_fixed_point text ≡ true
  pub after : digits.after_point ≡ digits_after_point text
  pub count : digits.significant ≡ length (significant text)
  pub zeros : digits.trailing_zeros ≡ zeros_dropped text
  pub value : digits.significant ≤ 18 → digits.significand ≡ digits_value 10 (significant text)

-- the number of one or more digits, or the limit where it is greater
pub record IsCapped (limit : ℕ) (text : List ℕ) (n : ℕ) : Type 0 where
  pub is : is_whole text ≡ true
  pub value : n ≡ min (digits_value 10 text) limit

-- the number of an optional sign and one or more digits, cut off at the limit on both sides of 0
pub record IsCappedExponent (limit : ℕ) (text : List ℕ) (written : ℤ) : Type 0 where
  pub is : is_whole (without_leading_sign text) ≡ true
  pub value : written ≡ signed (starts_with_minus text) (min (digits_value 10 (without_leading_sign text)) limit)

-- why a text was refused where it isn't of the shape that is looked for
pub record IsRefused (shape : Bool) (fault : BadReal) : Type 0 where
  pub is : shape ≡ false
  pub cause : fault ≡ NotANumber
