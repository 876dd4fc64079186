-- Whole numbers in decimal text. Texts are lists of bytes.
use Rattle.std.specs.Prelude.{ℕ, ◌^◌, ◌-◌, Bool, ◌&&◌, nat_lt, if◌then◌else◌, List, decimal, ℤ, pos, negsuc, int_le, Option, Some, None}
use Rattle.std.specs.Str.{bytes_eq}
use Rattle.std.specs.Str.Parse.{digits_value, signed_digits_value, without_leading_sign}
use Rattle.decimal_scale.specs.Real.{is_whole}

-- the number below 2^64 that the text is in plain decimals: digits, with no sign and no leading zero
unfoldable pub plain_value : List ℕ → Option ℕ
plain_value text =
    if nat_lt (digits_value 10 text) (2 ^ 64) && bytes_eq text (decimal (digits_value 10 text))
    then Some (digits_value 10 text) else None

-- from -2^63 to 2^63 - 1
abbrev pub fits_64_bits : ℤ → Bool
fits_64_bits n = int_le (negsuc (2 ^ 63 - 1)) n && int_le n (pos (2 ^ 63 - 1))

-- the number of 64 bits that the text is with an optional sign and one or more digits (FITS 4.0, section 4.2.3)
unfoldable pub whole_value : List ℕ → Option ℤ
whole_value text =
    if is_whole (without_leading_sign text) && fits_64_bits (signed_digits_value 10 text)
    then Some (signed_digits_value 10 text) else None
