-- What one pass over the cards of a header gives, and what it knows after some of them.
use Rattle.std.specs.Prelude.{ℕ, Bool, List, None, is_some, Result, Ok, Err}
use Rattle.std.specs.Option.{option_map_or, option_or}
use Rattle.decimal_scale.specs.Whole.{whole_value}
use Rattle.fits_header.specs.Values.{logical, real}
use Rattle.fits_header.specs.Reading.{header_of, value_fault, twice_fault}
use Rattle.fits_header.specs.declared.fault.HeaderFault.{HeaderFault}
use Rattle.fits_header.specs.declared.header.Header.{Header}
use Rattle.fits_header.specs.declared.keyword.Keyword.{Keyword}
use Rattle.fits_header.specs.declared.keyword.Keyword.TheVariants.{Simple, Bitpix, Naxis, Naxis1, Naxis2, Bscale, Bzero, Blank}

-- the values of the cards before the end card, or what is wrong with these cards
unfoldable pub read_cards : List (List ℕ) → Result Header HeaderFault
read_cards cards = option_map_or (λ fault. Err fault) (option_or (value_fault cards) (twice_fault cards)) (Ok (header_of cards))

-- a header that no card has said anything of
abbrev pub no_values : Bool → Header
no_values first_simple = record {
  first_simple = first_simple;
  simple = None;
  bitpix = None;
  naxis = None;
  naxis1 = None;
  naxis2 = None;
  bscale = None;
  bzero = None;
  blank = None;
}

-- the keyword has a value
abbrev pub has_keyword : Keyword → Header → Bool
has_keyword Simple header = is_some header.simple
has_keyword Bitpix header = is_some header.bitpix
has_keyword Naxis header = is_some header.naxis
has_keyword Naxis1 header = is_some header.naxis1
has_keyword Naxis2 header = is_some header.naxis2
has_keyword Bscale header = is_some header.bscale
has_keyword Bzero header = is_some header.bzero
has_keyword Blank header = is_some header.blank

-- the header where the keyword has the value of the text, unless it had one
abbrev pub with_value : Keyword → List ℕ → Header → Header
with_value Simple text header = record header { simple = option_or header.simple (logical text) }
with_value Bitpix text header = record header { bitpix = option_or header.bitpix (whole_value text) }
with_value Naxis text header = record header { naxis = option_or header.naxis (whole_value text) }
with_value Naxis1 text header = record header { naxis1 = option_or header.naxis1 (whole_value text) }
with_value Naxis2 text header = record header { naxis2 = option_or header.naxis2 (whole_value text) }
with_value Bscale text header = record header { bscale = option_or header.bscale (real text) }
with_value Bzero text header = record header { bzero = option_or header.bzero (real text) }
with_value Blank text header = record header { blank = option_or header.blank (whole_value text) }
