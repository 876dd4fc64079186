-- Laws of the definitions, each the whole contract of a function of `laws`.
use Rattle.std.specs.Prelude.{◌≡◌, ℕ, ◌<◌, Bool, true, false, ℤ, List, [], ◌∷◌, ◌++◌, length, Some, Result, Ok, Err}
use Rattle.std.specs.List.{AllByRecursion, list_all}
use Rattle.std.specs.Option.{option_and_then, option_map_or, option_or}
use Rattle.decimal_scale.specs.Real.{DecimalNumber, IsNormal}
use Rattle.decimal_scale.specs.Whole.{fits_64_bits, whole_value}
use Rattle.fits_header.specs.Cards.{header_length, is_end_card}
use Rattle.fits_header.specs.Values.{value_text, logical, real}
use Rattle.fits_header.specs.Reading.{header_of, is_text_byte, read_header, value_fault, twice_fault}
use Rattle.fits_header.specs.WrittenCards.{is_word, logical_card, integer_card, real_card, text_card, end_card}
use Rattle.fits_header.specs.FitsFile.{header_text}
use Rattle.fits_header.specs.declared.fault.HeaderFault.{HeaderFault}
use Rattle.fits_header.specs.declared.header.Header.{Header}

-- 80 bytes of printable ASCII
pub record IsCard (card : List ℕ) : Type 0 where
  pub len : length card ≡ 80
  pub bytes : list_all is_text_byte card ≡ true

-- a card that is no end card, as those before the end of a header
pub record IsInnerCard (card : List ℕ) : Type 0 where
  pub is : IsCard card
  pub inner : is_end_card card ≡ false

-- what the makers of cards make
pub record MadeCardsAreCards : Type 0 where
  pub of_logical : (keyword : List ℕ) (v : Bool) → is_word keyword ≡ true → IsCard (logical_card keyword v)
  pub of_integer : (keyword : List ℕ) (v : ℤ) → is_word keyword ≡ true → fits_64_bits v ≡ true → IsCard (integer_card keyword v)
  pub of_real : (keyword : List ℕ) (v : DecimalNumber) → is_word keyword ≡ true → IsNormal v → IsCard (real_card keyword v)
  pub of_text : (keyword v : List ℕ) → is_word keyword ≡ true → is_word v ≡ true → IsCard (text_card keyword v)
  pub of_end : IsCard end_card

-- the value that is written is read again
pub record WrittenValuesAreRead : Type 0 where
  pub of_logical : (keyword : List ℕ) (v : Bool) → is_word keyword ≡ true → option_and_then logical (value_text (logical_card keyword v)) ≡ Some v
  pub of_integer : (keyword : List ℕ) (v : ℤ) → is_word keyword ≡ true → fits_64_bits v ≡ true → option_and_then whole_value (value_text (integer_card keyword v)) ≡ Some v
  pub of_real : (keyword : List ℕ) (v : DecimalNumber) → is_word keyword ≡ true → IsNormal v → option_and_then real (value_text (real_card keyword v)) ≡ Some v

-- a header that is written is read by its cards, whatever follows it
abbrev pub WrittenHeadersAreRead : Type 0
WrittenHeadersAreRead = (cards : List (List ℕ)) (rest : List ℕ) → AllByRecursion IsInnerCard cards → length cards < 1296 →
    read_header (header_text (cards ++ end_card ∷ []) ++ rest)
    ≡ option_map_or {U = Result (Header × ℕ) HeaderFault} (λ fault. Err fault) (option_or (value_fault cards) (twice_fault cards)) (Ok (header_of cards, header_length (length cards)))
