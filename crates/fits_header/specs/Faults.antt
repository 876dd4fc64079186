-- The texts of the refusals: a number from 1, and where it is, as in `2 7`.
use Rattle.std.specs.Prelude.{ℕ, List, ◌++◌, codes, decimal}
use Rattle.fits_header.specs.declared.fault.HeaderFault.{HeaderFault}
use Rattle.fits_header.specs.declared.fault.HeaderFault.TheVariants.{Short, NotAscii, NoEnd, BadValue, Twice}

abbrev pub fault_text : HeaderFault → List ℕ
fault_text Short = codes "1"
fault_text (NotAscii at) = codes "2 " ++ decimal at
fault_text NoEnd = codes "3"
fault_text (BadValue card) = codes "4 " ++ decimal card
fault_text (Twice card) = codes "5 " ++ decimal card
