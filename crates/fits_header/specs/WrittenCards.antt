-- Cards that are written: values in fixed format (FITS 4.0, sections 4.2.1.1, 4.2.2, 4.2.3 and 4.2.4), but a real of more
-- than 20 bytes begins in column 11 (free format). Bytes: 32 a space.
use Rattle.std.specs.Prelude.{ℕ, ◌-◌, Bool, ◌&&◌, ◌||◌, nat_le, if◌then◌else◌, List, ◌++◌, length, replicate, ℤ, codes}
use Rattle.std.specs.List.{list_all}
use Rattle.std.specs.Fmt.{signed_decimal}
use Rattle.decimal_scale.specs.Real.{DecimalNumber, real_text}

-- 1 to 8 of A to Z and 0 to 9: a keyword, and what a text card takes
abbrev pub is_word_byte : ℕ → Bool
is_word_byte byte = (nat_le 65 byte && nat_le byte 90) || (nat_le 48 byte && nat_le byte 57)

abbrev pub is_word : List ℕ → Bool
is_word text = nat_le 1 (length text) && nat_le (length text) 8 && list_all is_word_byte text

-- a text with spaces after it, and with spaces before it, up to a width
abbrev pub filled : ℕ → List ℕ → List ℕ
filled width text = text ++ replicate (width - length text) 32

abbrev pub set_right : ℕ → List ℕ → List ℕ
set_right width text = replicate (width - length text) 32 ++ text

-- columns 1 to 10: the keyword filled with spaces, and the value indicator
unfoldable pub keyword_columns : List ℕ → List ℕ
keyword_columns keyword = filled 8 keyword ++ codes "= "

-- a card: the keyword and the value indicator, the value from column 11 on, and spaces up to column 80
unfoldable pub value_card : List ℕ → List ℕ → List ℕ
value_card keyword value = filled 80 (keyword_columns keyword ++ value)

-- `T` or `F` in column 30
abbrev pub logical_card : List ℕ → Bool → List ℕ
logical_card keyword v = value_card keyword (set_right 20 (if v then codes "T" else codes "F"))

-- plain decimals that end in column 30
abbrev pub integer_card : List ℕ → ℤ → List ℕ
integer_card keyword v = value_card keyword (set_right 20 (signed_decimal v))

-- the number as `decimal_scale` writes it, ending in column 30, or beginning in column 11 where it has more than 20 bytes
abbrev pub real_card : List ℕ → DecimalNumber → List ℕ
real_card keyword v = value_card keyword (set_right 20 (real_text v))

-- a quote in column 11, the text filled to 8 characters, and a quote
abbrev pub text_card : List ℕ → List ℕ → List ℕ
text_card keyword v = value_card keyword (codes "'" ++ filled 8 v ++ codes "'")

-- `END` and 77 spaces
abbrev pub end_card : List ℕ
end_card = filled 80 (codes "END")
