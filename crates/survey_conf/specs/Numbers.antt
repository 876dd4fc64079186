-- What a value stands for where its key asks for a number or for one of some words: this project's profile.
use Rattle.std.specs.Prelude.{ℕ, ◌^◌, Bool, not, ◌&&◌, ◌==◌, nat_le, if◌then◌else◌, List, length, ℤ, pos, negsuc, Option, Some, None, find, codes}
use Rattle.std.specs.List.{range_with_len}
use Rattle.std.specs.Option.{option_and_then}
use Rattle.std.specs.Ordering.{int_eq}
use Rattle.std.specs.Result.{result_ok}
use Rattle.std.specs.Str.{bytes_eq}
use Rattle.std.specs.Str.Parse.{without_leading_sign}
use Rattle.decimal_scale.specs.Real.{DecimalNumber, read_real}
use Rattle.decimal_scale.specs.Whole.{whole_value}
use Rattle.parent_rule.specs.Depth.{is_bitpix}
use Rattle.parent_rule.specs.declared.combine.Combine.{Combine}
use Rattle.parent_rule.specs.declared.combine.Combine.TheVariants.{Mean, Median}

-- the whole number of 64 bits that a value spells, with an optional sign and 1 to 19 digits
unfoldable pub whole : List ℕ → Option ℤ
whole value = if nat_le (length (without_leading_sign value)) 19 then whole_value value else None

-- a whole number that is not negative
abbrev pub not_negative : ℤ → Option ℕ
not_negative (pos n) = Some n
not_negative (negsuc n) = None

unfoldable pub natural : List ℕ → Option ℕ
natural value = option_and_then not_negative (whole value)

-- a whole number that is not negative and passes a test
abbrev pub natural_that : (ℕ → Bool) → List ℕ → Option ℕ
natural_that test value = option_and_then (λ n. if test n then Some n else None) (natural value)

-- the order of the leaf tiles, the lowest order of a tile, a BITPIX of FITS, and the version of a description
abbrev pub order : List ℕ → Option ℕ
order = natural_that (λ n. nat_le 3 n && nat_le n 11)

abbrev pub lowest_order : List ℕ → Option ℕ
lowest_order = natural_that (λ n. nat_le n 3)

abbrev pub bitpix : List ℕ → Option ℕ
bitpix = natural_that is_bitpix

abbrev pub version : List ℕ → Option ℕ
version = natural_that (λ n. nat_le 1 n && nat_le n 2)

-- a width of tiles is 2^n, n from 1 to 9, and stands for n
abbrev pub width_exponent : List ℕ → Option ℕ
width_exponent value = option_and_then (λ width. find (λ n. width == 2 ^ n) (range_with_len 1 9)) (natural value)

-- a real number, and one that is not 0
abbrev pub real : List ℕ → Option DecimalNumber
real value = result_ok (read_real value)

abbrev pub not_zero : DecimalNumber → Bool
not_zero number = not (int_eq number.mantissa (pos 0))

abbrev pub scale : List ℕ → Option DecimalNumber
scale value = option_and_then (λ number. if not_zero number then Some number else None) (real value)

-- a way to combine the numbers of four pixels
abbrev pub combine : List ℕ → Option Combine
combine value = if bytes_eq value (codes "mean") then Some Mean
    else (if bytes_eq value (codes "median") then Some Median else None)
