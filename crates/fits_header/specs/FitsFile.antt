-- A file of one header and its data (FITS 4.0, section 3.1): each part fills whole blocks of 2,880 bytes.
use Rattle.std.specs.Prelude.{ℕ, ◌-◌, List, ◌++◌, length, replicate}
use Rattle.std.specs.List.{concat}
use Rattle.fits_header.specs.Cards.{whole_blocks}

-- the bytes, and then one byte again and again up to the end of the block
abbrev pub in_blocks : ℕ → List ℕ → List ℕ
in_blocks byte bytes = bytes ++ replicate (whole_blocks (length bytes) - length bytes) byte

-- cards and then spaces
unfoldable pub header_text : List (List ℕ) → List ℕ
header_text cards = in_blocks 32 (concat cards)

-- cards, spaces, data and zero bytes; no data need none
abbrev pub fits_file : List (List ℕ) → List ℕ → List ℕ
fits_file cards data_bytes = header_text cards ++ in_blocks 0 data_bytes
