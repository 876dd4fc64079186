-- The numbers and the texts of the faults of a row, and of the refusals. This project's profile.
use Rattle.std.specs.Prelude.{ℕ, List, codes}
use Rattle.hips_catalog.specs.declared.fault.RowFault.{RowFault}
use Rattle.hips_catalog.specs.declared.fault.RowFault.TheVariants.{Fields, Rank, Npix, Id, Rest}
use Rattle.hips_catalog.specs.declared.fault.RowRefusal.{RowRefusal}
use Rattle.hips_catalog.specs.declared.fault.RowRefusal.TheVariants.{Fault, OutOfMemory}
use Rattle.hips_catalog.specs.declared.refusal.InsertRefusal.{InsertRefusal}
use Rattle.hips_catalog.specs.declared.refusal.InsertRefusal.TheVariants.{Twice, Full, OutOfMemory as NoMemory}

abbrev pub fault_number : RowFault → ℕ
fault_number Fields = 1
fault_number Rank = 2
fault_number Npix = 3
fault_number Id = 4
fault_number Rest = 5

abbrev pub fault_words : RowFault → List ℕ
fault_words Fields = codes "a row has four fields with one TAB between each two"
fault_words Rank = codes "the rank is a number below 2^64 without a sign or leading zeros"
fault_words Npix = codes "the second field is the number of a cell of the deepest order"
fault_words Id = codes "an id is 1 to 64 characters of ASCII without blanks"
fault_words Rest = codes "the last field is at most 256 bytes without control characters"

abbrev pub refusal_words : RowRefusal → List ℕ
refusal_words (Fault fault) = fault_words fault
refusal_words OutOfMemory = codes "out of memory"

abbrev pub insert_refusal_words : InsertRefusal → List ℕ
insert_refusal_words Twice = codes "the id is there already"
insert_refusal_words Full = codes "there are 1000000 rows"
insert_refusal_words NoMemory = codes "out of memory"
