-- Named cards and their values (FITS 4.0, sections 4.1.2, 4.2 and 4.4). Bytes: 32 a space, 47 `/`.
use Rattle.std.specs.Prelude.{ℕ, Bool, true, false, ◌||◌, ◌==◌, if◌then◌else◌, List, [], ◌∷◌, length, drop, Option, Some, None, is_some, nat_eq, codes}
use Rattle.std.specs.List.{before_first, prefix_len, starts_with}
use Rattle.std.specs.Option.{option_map_or}
use Rattle.std.specs.Result.{result_ok}
use Rattle.std.specs.Str.{bytes_eq}
use Rattle.decimal_scale.specs.Real.{DecimalNumber, read_real}
use Rattle.decimal_scale.specs.Whole.{whole_value}
use Rattle.fits_header.specs.declared.keyword.Keyword.{Keyword}
use Rattle.fits_header.specs.declared.keyword.Keyword.TheVariants.{Simple, Bitpix, Naxis, Naxis1, Naxis2, Bscale, Bzero, Blank}

-- ---- named cards

-- the keywords that are read
abbrev pub keywords : List Keyword
keywords = Simple ∷ Bitpix ∷ Naxis ∷ Naxis1 ∷ Naxis2 ∷ Bscale ∷ Bzero ∷ Blank ∷ []

-- columns 1 to 10 of a named card: the keyword filled with spaces, and the value indicator
abbrev pub columns : Keyword → List ℕ
columns Simple = codes "SIMPLE  = "
columns Bitpix = codes "BITPIX  = "
columns Naxis = codes "NAXIS   = "
columns Naxis1 = codes "NAXIS1  = "
columns Naxis2 = codes "NAXIS2  = "
columns Bscale = codes "BSCALE  = "
columns Bzero = codes "BZERO   = "
columns Blank = codes "BLANK   = "

-- the card is a named card of that keyword; all other cards are skipped, whatever they hold
abbrev pub is_named : Keyword → List ℕ → Bool
is_named keyword card = starts_with nat_eq card (columns keyword)

-- ---- value texts

abbrev pub is_space : ℕ → Bool
is_space byte = byte == 32

abbrev pub is_slash : ℕ → Bool
is_slash byte = byte == 47

abbrev pub without_leading_spaces : List ℕ → List ℕ
without_leading_spaces text = drop (prefix_len is_space text) text

-- what stands in columns 11 to 80, from the first byte on that is no space
unfoldable pub value_field : List ℕ → List ℕ
value_field card = without_leading_spaces (drop 10 card)

-- spaces, or spaces and then `/` with any comment
abbrev pub is_nothing_or_comment : List ℕ → Bool
is_nothing_or_comment [] = true
is_nothing_or_comment (byte ∷ _) = is_slash byte

abbrev pub may_follow_value : List ℕ → Bool
may_follow_value rest = is_nothing_or_comment (without_leading_spaces rest)

abbrev pub ends_value : ℕ → Bool
ends_value byte = is_space byte || is_slash byte

-- the text before the first space or `/` of the field
unfoldable pub field_text : List ℕ → List ℕ
field_text field = before_first ends_value field

-- the value text of a card, where what follows it may follow
unfoldable pub value_text : List ℕ → Option (List ℕ)
value_text card =
    let field = value_field card in
    if may_follow_value (drop (length (field_text field)) field) then Some (field_text field) else None

-- ---- values

-- `T` or `F`
unfoldable pub logical : List ℕ → Option Bool
logical text = if bytes_eq text (codes "T") then Some true
    else (if bytes_eq text (codes "F") then Some false else None)

-- a real number that `decimal_scale` accepts
unfoldable pub real : List ℕ → Option DecimalNumber
real text = result_ok (read_real text)

-- the text is a value of the kind that the keyword has
abbrev pub takes : Keyword → List ℕ → Bool
takes Simple text = is_some (logical text)
takes Bitpix text = is_some (whole_value text)
takes Naxis text = is_some (whole_value text)
takes Naxis1 text = is_some (whole_value text)
takes Naxis2 text = is_some (whole_value text)
takes Bscale text = is_some (real text)
takes Bzero text = is_some (real text)
takes Blank text = is_some (whole_value text)

-- the card has a value text of the kind that the keyword has
abbrev pub has_value : Keyword → List ℕ → Bool
has_value keyword card = option_map_or (takes keyword) (value_text card) false
