-- The texts of the faults of a batch body, and of the refusals. This project's profile.
use Rattle.std.specs.Prelude.{ℕ, List, ◌++◌, codes, decimal}
use Rattle.fits_tile.specs.Faults.{fault_text}
use Rattle.survey_core.specs.declared.fault.EntryFault.{EntryFault}
use Rattle.survey_core.specs.declared.fault.EntryFault.TheVariants.{Many, Line, Short, Tile}
use Rattle.survey_core.specs.declared.fault.BatchRead.{BatchRead}
use Rattle.survey_core.specs.declared.fault.BatchRead.TheVariants.{Entry, OutOfMemory}
use Rattle.survey_core.specs.declared.refusal.InstallRefusal.{InstallRefusal}
use Rattle.survey_core.specs.declared.refusal.InstallRefusal.TheVariants.{Already, OutOfMemory as NoState}

abbrev pub entry_fault_text : EntryFault → List ℕ
entry_fault_text Many = codes "many"
entry_fault_text Line = codes "line"
entry_fault_text Short = codes "short"
entry_fault_text (Tile fault) = fault_text fault

-- the place of the entry before its fault
abbrev pub batch_read_text : BatchRead → List ℕ
batch_read_text (Entry place fault) = decimal place ++ codes " " ++ entry_fault_text fault
batch_read_text OutOfMemory = codes "out of memory"

-- how many edits are published
abbrev pub install_refusal_text : InstallRefusal → List ℕ
install_refusal_text (Already tip) = decimal tip ++ codes " edits are published already"
install_refusal_text NoState = codes "out of memory"
