-- The files that are written: of a tile and of an image (FITS 4.0, sections 3.1, 4.4.1 and 4.4.2.5). The cards, their order
-- and the keywords ORDER and NPIX are this project's profile.
use Rattle.std.specs.Prelude.{ℕ, ◌*◌, ◌/◌, ◌^◌, true, List, [], ◌∷◌, ◌++◌, ℤ, pos, codes}
use Rattle.fits_header.specs.WrittenCards.{logical_card, integer_card, real_card, end_card}
use Rattle.fits_header.specs.FitsFile.{fits_file}
use Rattle.pyramid_model.specs.Shape.{PyramidShape}
use Rattle.survey_conf.specs.Description.{Description}
use Rattle.tile_pixels.specs.Stored.{stored_bytes}

-- the length of a tile's stored numbers in bytes
abbrev pub data_len : PyramidShape → ℕ
data_len shape = 4 ^ shape.n * (shape.depth.bitpix / 8)

-- what the numbers are, and how many columns and lines of them there are
unfoldable pub image_cards : Description → ℕ → ℕ → List (List ℕ)
image_cards d width height =
    logical_card (codes "SIMPLE") true
    ∷ integer_card (codes "BITPIX") (pos d.shape.depth.bitpix)
    ∷ integer_card (codes "NAXIS") (pos 2)
    ∷ integer_card (codes "NAXIS1") (pos width)
    ∷ integer_card (codes "NAXIS2") (pos height)
    ∷ real_card (codes "BSCALE") d.bscale
    ∷ real_card (codes "BZERO") d.bzero
    ∷ integer_card (codes "BLANK") d.shape.depth.blank
    ∷ []

-- which cell it is: p of order k
unfoldable pub cell_cards : ℕ → ℕ → List (List ℕ)
cell_cards k p = integer_card (codes "ORDER") (pos k) ∷ integer_card (codes "NPIX") (pos p) ∷ []

-- the cards of the tile of cell p of order k, before the end card
abbrev pub tile_cards : Description → ℕ → ℕ → List (List ℕ)
tile_cards d k p = image_cards d (2 ^ d.shape.n) (2 ^ d.shape.n) ++ cell_cards k p

-- the file of a tile with these stored numbers, bottom line first
abbrev pub tile_file : Description → ℕ → ℕ → List ℤ → List ℕ
tile_file d k p numbers = fits_file (tile_cards d k p ++ end_card ∷ []) (stored_bytes d.shape.depth.bitpix numbers)

-- the file of an image with these stored numbers, bottom line first
abbrev pub image_file : Description → ℕ → ℕ → List ℤ → List ℕ
image_file d width height numbers = fits_file (image_cards d width height ++ end_card ∷ []) (stored_bytes d.shape.depth.bitpix numbers)
