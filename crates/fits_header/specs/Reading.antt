-- Reading a header, over all its cards at once: the values of the named keywords, or the first refusal whose condition
-- stands. The order of the refusals is this project's.
use Rattle.std.specs.Prelude.{ℕ, ◌+◌, ◌*◌, Bool, not, ◌&&◌, nat_le, nat_lt, if◌then◌else◌, List, [], length, take, position, find, Option, Some, None, is_none, unwrap_or, slice_get, slice_index_or, Result, Ok, Err}
use Rattle.std.specs.List.{filter_map, list_any, range_with_len}
use Rattle.std.specs.Option.{option_map, option_map_or, option_and_then, option_or}
use Rattle.decimal_scale.specs.Whole.{whole_value}
use Rattle.fits_header.specs.Cards.{cards, cards_before_end, header_length}
use Rattle.fits_header.specs.Values.{keywords, is_named, value_text, logical, real, has_value}
use Rattle.fits_header.specs.declared.fault.HeaderFault.{HeaderFault}
use Rattle.fits_header.specs.declared.fault.HeaderFault.TheVariants.{Short, NotAscii, NoEnd, BadValue, Twice}
use Rattle.fits_header.specs.declared.header.Header.{Header}
use Rattle.fits_header.specs.declared.keyword.Keyword.{Keyword}
use Rattle.fits_header.specs.declared.keyword.Keyword.TheVariants.{Simple, Bitpix, Naxis, Naxis1, Naxis2, Bscale, Bzero, Blank}

-- ---- the values

-- what a card says of a keyword, read as a value of its kind
abbrev pub value_in : {A : Type 0} → (List ℕ → Option A) → Keyword → List ℕ → Option A
value_in kind keyword card = if is_named keyword card then option_and_then kind (value_text card) else None

-- the first value that the cards say of a keyword
abbrev pub value_of : {A : Type 0} → (List ℕ → Option A) → Keyword → List (List ℕ) → Option A
value_of kind keyword cards = slice_get (filter_map (value_in kind keyword) cards) 0

-- the values of the named keywords, where `first_simple` is known
unfoldable pub values : Bool → List (List ℕ) → Header
values first_simple cards = record {
  first_simple = first_simple;
  simple = value_of logical Simple cards;
  bitpix = value_of whole_value Bitpix cards;
  naxis = value_of whole_value Naxis cards;
  naxis1 = value_of whole_value Naxis1 cards;
  naxis2 = value_of whole_value Naxis2 cards;
  bscale = value_of real Bscale cards;
  bzero = value_of real Bzero cards;
  blank = value_of whole_value Blank cards;
}

-- card 1 is a named card SIMPLE
abbrev pub begins_simple : List (List ℕ) → Bool
begins_simple cards = list_any (is_named Simple) (take 1 cards)

abbrev pub header_of : List (List ℕ) → Header
header_of cards = values (begins_simple cards) cards

-- ---- the refusals

-- the cards before the end card; none where there is no end card
abbrev pub header_cards : List ℕ → List (List ℕ)
header_cards text = take (unwrap_or (cards_before_end text) 0) (cards text)

-- the greatest length of a header: 36 blocks
abbrev pub greatest_length : ℕ
greatest_length = 103680

-- the input is shorter than the header, or than the greatest header where there is no end card
abbrev pub is_short : List ℕ → Bool
is_short text = nat_lt (length text) (option_map_or header_length (cards_before_end text) greatest_length)

-- the bytes 0x20 to 0x7E
abbrev pub is_text_byte : ℕ → Bool
is_text_byte byte = nat_le 32 byte && nat_le byte 126

-- the bytes before the end card, or of the greatest header where there is no end card
abbrev pub read_bytes : List ℕ → List ℕ
read_bytes text = take (option_map_or (λ before. 80 * before) (cards_before_end text) greatest_length) text

-- where the first of these stands that is no text of ASCII
abbrev pub place_not_ascii : List ℕ → Option ℕ
place_not_ascii bytes = position (λ byte. not (is_text_byte byte)) bytes

-- a named card that has no value text of its kind
unfoldable pub is_bad : List ℕ → Bool
is_bad card = list_any (λ keyword. is_named keyword card && not (has_value keyword card)) keywords

-- the least bad card, counted from 1
abbrev pub bad_card : List (List ℕ) → Option ℕ
bad_card cards = option_map (λ i. i + 1) (position is_bad cards)

-- the card at place i, from 0, is a named card with the keyword of an earlier named card
unfoldable pub repeats : List (List ℕ) → ℕ → Bool
repeats cards i = list_any (λ keyword. is_named keyword (slice_index_or cards i []) && list_any (is_named keyword) (take i cards)) keywords

-- the least such card, counted from 1
abbrev pub repeated_card : List (List ℕ) → Option ℕ
repeated_card cards = option_map (λ i. i + 1) (find (repeats cards) (range_with_len 0 (length cards)))

-- the five refusals, each where its condition stands
abbrev pub short_fault : List ℕ → Option HeaderFault
short_fault text = if is_short text then Some Short else None

abbrev pub ascii_fault : List ℕ → Option HeaderFault
ascii_fault text = option_map (λ at. NotAscii at) (place_not_ascii (read_bytes text))

abbrev pub end_fault : List ℕ → Option HeaderFault
end_fault text = if is_none (cards_before_end text) then Some NoEnd else None

abbrev pub value_fault : List (List ℕ) → Option HeaderFault
value_fault cards = option_map (λ card. BadValue card) (bad_card cards)

abbrev pub twice_fault : List (List ℕ) → Option HeaderFault
twice_fault cards = option_map (λ card. Twice card) (repeated_card cards)

-- the first of the five refusals whose condition stands
unfoldable pub fault_of : List ℕ → Option HeaderFault
fault_of text = option_or (short_fault text) (option_or (ascii_fault text) (option_or (end_fault text)
    (option_or (value_fault (header_cards text)) (twice_fault (header_cards text)))))

-- what is read: the values and the length of the header, or the first refusal
unfoldable pub read_header : List ℕ → Result (Header × ℕ) HeaderFault
read_header text = option_map_or (λ fault. Err fault)
    (fault_of text)
    (Ok (header_of (header_cards text), header_length (unwrap_or (cards_before_end text) 0)))
