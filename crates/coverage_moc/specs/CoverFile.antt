-- The coverage file: a primary header without data and a binary table of one column of 64-bit whole numbers (FITS 4.0,
-- sections 3.1 and 7.3; MOC 1.1, section 2.3.2). Which cards there are, and their order, is this project's profile.
use Rattle.std.specs.Prelude.{◌≡◌, ℕ, ◌<◌, ◌^◌, drop, slice_index, true, List, [], ◌∷◌, ◌++◌, length, flat_map, pos, codes}
use Rattle.byteorder.specs.Endian.{big_bytes}
use Rattle.fits_header.specs.WrittenCards.{logical_card, integer_card, text_card, end_card}
use Rattle.fits_header.specs.FitsFile.{header_text, fits_file}
use Rattle.coverage_moc.specs.Cover.{cover}

-- there are no data before the table
unfoldable pub primary_cards : List (List ℕ)
primary_cards =
    logical_card (codes "SIMPLE") true
    ∷ integer_card (codes "BITPIX") (pos 8)
    ∷ integer_card (codes "NAXIS") (pos 0)
    ∷ logical_card (codes "EXTEND") true
    ∷ end_card ∷ []

-- a table of so many rows of 8 bytes, each the number of a cell of order at most `top`; C are equatorial coordinates
unfoldable pub table_cards : ℕ → ℕ → List (List ℕ)
table_cards top count =
    text_card (codes "XTENSION") (codes "BINTABLE")
    ∷ integer_card (codes "BITPIX") (pos 8)
    ∷ integer_card (codes "NAXIS") (pos 2)
    ∷ integer_card (codes "NAXIS1") (pos 8)
    ∷ integer_card (codes "NAXIS2") (pos count)
    ∷ integer_card (codes "PCOUNT") (pos 0)
    ∷ integer_card (codes "GCOUNT") (pos 1)
    ∷ integer_card (codes "TFIELDS") (pos 1)
    ∷ text_card (codes "TTYPE1") (codes "UNIQ")
    ∷ text_card (codes "TFORM1") (codes "1K")
    ∷ text_card (codes "PIXTYPE") (codes "HEALPIX")
    ∷ text_card (codes "ORDERING") (codes "NUNIQ")
    ∷ text_card (codes "COORDSYS") (codes "C")
    ∷ integer_card (codes "MOCORDER") (pos top)
    ∷ end_card ∷ []

-- the rows as 64-bit numbers, the highest byte first
abbrev pub row_bytes : List ℕ → List ℕ
row_bytes rows = flat_map (big_bytes 8) rows

-- the file of these rows
unfoldable pub moc_file : ℕ → List ℕ → List ℕ
moc_file top rows = header_text primary_cards ++ fits_file (table_cards top (length rows)) (row_bytes rows)

-- a number that a row may have: of 64 bits, and not 0
abbrev pub IsRow : ℕ → Type 0
IsRow row = (0 < row) × (row < 2 ^ 64)

-- behind the two headers stand these rows, and after them nothing but zero bytes
abbrev pub HoldsRows : List ℕ → List ℕ → Type 0
HoldsRows bytes rows = (rest : List ℕ) × (drop 5760 bytes ≡ row_bytes rows ++ rest) × ((i : ℕ) → slice_index rest i ≡ 0)

-- the bytes are the coverage file of some leaves
abbrev pub IsCoverFile : ℕ → List ℕ → Type 0
IsCoverFile top bytes = (leaves : List ℕ) × (moc_file top (cover top leaves) ≡ bytes)
