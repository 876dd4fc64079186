-- Reading a tile file: its stored numbers, or the first fault whose condition stands in its bytes (FITS 4.0, sections 4.4.1
-- and 4.4.2.5). Which files are taken, and the order of the faults, are this project's profile.
use Rattle.std.specs.Prelude.{ℕ, ◌-◌, ◌^◌, Bool, false, not, ◌&&◌, nat_lt, if◌then◌else◌, List, length, take, drop, ℤ, pos, Option, Some, None, unwrap_or, Result, Ok, Err}
use Rattle.std.specs.Option.{option_eq, option_map_or, option_or}
use Rattle.std.specs.Ordering.{int_eq}
use Rattle.decimal_scale.specs.Real.{DecimalNumber}
use Rattle.fits_header.specs.Cards.{whole_blocks}
use Rattle.fits_header.specs.Reading.{read_header}
use Rattle.fits_header.specs.declared.fault.HeaderFault.{HeaderFault}
use Rattle.fits_header.specs.declared.header.Header.{Header}
use Rattle.parent_rule.specs.Depth.{PixelDepth}
use Rattle.pyramid_model.specs.Shape.{PyramidShape}
use Rattle.survey_conf.specs.Description.{Description, real_one, real_zero}
use Rattle.tile_pixels.specs.Stored.{numbers_from}
use Rattle.fits_tile.specs.TileFile.{data_len}
use Rattle.fits_tile.specs.declared.fault.TileFault.{TileFault}
use Rattle.fits_tile.specs.declared.fault.TileFault.TheVariants.{Header as OfHeader, NotSimple, Bitpix, Naxis, Width, Scale, Zero, Blank, Truncated, Trailing}

-- a keyword has another value than the one wanted, or none
abbrev pub is_other : ℤ → Option ℤ → Bool
is_other wanted found = not (option_eq int_eq found (Some wanted))

-- two real numbers in normal form are one number
abbrev pub is_same : DecimalNumber → DecimalNumber → Bool
is_same x y = int_eq x.mantissa y.mantissa && int_eq x.exp y.exp

-- ---- the faults of the header's values, each where its condition stands

-- card 1 is not SIMPLE, or its value is F
abbrev pub simple_fault : Header → Option TileFault
simple_fault header = if header.first_simple && unwrap_or header.simple false then None else Some NotSimple

abbrev pub bitpix_fault : Description → Header → Option TileFault
bitpix_fault d header = if is_other (pos d.shape.depth.bitpix) header.bitpix then Some (Bitpix header.bitpix) else None

abbrev pub naxis_fault : Header → Option TileFault
naxis_fault header = if is_other (pos 2) header.naxis then Some (Naxis header.naxis) else None

-- the length of axis 1 or 2 is not that of a tile's side
abbrev pub width_fault : Description → ℕ → Option ℤ → Option TileFault
width_fault d axis found = if is_other (pos (2 ^ d.shape.n)) found then Some (Width axis found) else None

-- where there is no BSCALE it is 1, and where there is no BZERO it is 0
abbrev pub scale_fault : Description → Header → Option TileFault
scale_fault d header = if is_same (unwrap_or header.bscale real_one) d.bscale then None else Some Scale

abbrev pub zero_fault : Description → Header → Option TileFault
zero_fault d header = if is_same (unwrap_or header.bzero real_zero) d.bzero then None else Some Zero

-- BLANK need not be there
abbrev pub blank_fault : PixelDepth → Option ℤ → Option TileFault
blank_fault depth None = None
blank_fault depth (Some found) = if int_eq found depth.blank then None else Some (Blank found)

-- the first fault of the header's values
unfoldable pub header_fault : Description → Header → Option TileFault
header_fault d header =
    option_or (simple_fault header)
    (option_or (bitpix_fault d header)
    (option_or (naxis_fault header)
    (option_or (width_fault d 1 header.naxis1)
    (option_or (width_fault d 2 header.naxis2)
    (option_or (scale_fault d header)
    (option_or (zero_fault d header)
    (blank_fault d.shape.depth header.blank)))))))

-- ---- the faults of the data, where so many bytes follow the header

-- fewer than the stored numbers take, or more than these filled up to whole blocks
unfoldable pub data_fault : PyramidShape → ℕ → Option TileFault
data_fault shape count =
    if nat_lt count (data_len shape) then Some (Truncated (data_len shape - count))
    else (if nat_lt (whole_blocks (data_len shape)) count then Some (Trailing (count - whole_blocks (data_len shape))) else None)

-- ---- the whole file

-- the stored numbers in the bytes that follow the header
abbrev pub numbers_in : Description → List ℕ → List ℤ
numbers_in d rest = numbers_from d.shape.depth.bitpix (4 ^ d.shape.n) (take (data_len d.shape) rest)

abbrev pub reads_after : Description → Header → List ℕ → Result (List ℤ) TileFault
reads_after d header rest = option_map_or (λ fault. Err fault)
    (option_or (header_fault d header) (data_fault d.shape (length rest)))
    (Ok (numbers_in d rest))

-- the header was refused, or it has these values and this length
abbrev pub reads_with : Description → List ℕ → Result (Header × ℕ) HeaderFault → Result (List ℤ) TileFault
reads_with d bytes (Err fault) = Err (OfHeader fault)
reads_with d bytes (Ok read) = reads_after d read.0 (drop read.1 bytes)

-- the stored numbers of a tile file, or its first fault
abbrev pub reads : Description → List ℕ → Result (List ℤ) TileFault
reads d bytes = reads_with d bytes (read_header bytes)
