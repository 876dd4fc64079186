-- The texts of the faults and refusals of a tile file. A fault is a number from 1, what it is about, and what was found, as
-- in `5 width 1 4`. Where a card is absent, `none` was found. This project's profile.
use Rattle.std.specs.Prelude.{ℕ, List, ◌++◌, ℤ, Option, Some, None, codes, decimal}
use Rattle.std.specs.Fmt.{signed_decimal}
use Rattle.fits_header.specs.Faults.{fault_text as header_fault_text}
use Rattle.fits_tile.specs.declared.fault.TileFault.{TileFault}
use Rattle.fits_tile.specs.declared.fault.TileFault.TheVariants.{Header, NotSimple, Bitpix, Naxis, Width, Scale, Zero, Blank, Truncated, Trailing}
use Rattle.fits_tile.specs.declared.fault.TileRefusal.{TileRefusal}
use Rattle.fits_tile.specs.declared.fault.TileRefusal.TheVariants.{Fault, OutOfMemory}

abbrev pub found_text : Option ℤ → List ℕ
found_text None = codes "none"
found_text (Some number) = signed_decimal number

abbrev pub fault_text : TileFault → List ℕ
fault_text (Header fault) = codes "1 header " ++ header_fault_text fault
fault_text NotSimple = codes "2 simple"
fault_text (Bitpix found) = codes "3 bitpix " ++ found_text found
fault_text (Naxis found) = codes "4 naxis " ++ found_text found
fault_text (Width axis found) = codes "5 width " ++ decimal axis ++ codes " " ++ found_text found
fault_text Scale = codes "6 scale"
fault_text Zero = codes "7 zero"
fault_text (Blank found) = codes "8 blank " ++ signed_decimal found
fault_text (Truncated missing) = codes "9 truncated " ++ decimal missing
fault_text (Trailing extra) = codes "10 trailing " ++ decimal extra

abbrev pub refusal_text : TileRefusal → List ℕ
refusal_text (Fault fault) = fault_text fault
refusal_text OutOfMemory = codes "out of memory"
