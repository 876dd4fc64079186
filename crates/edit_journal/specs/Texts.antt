-- The texts of the faults and refusals. This project's profile.
use Rattle.std.specs.Prelude.{ℕ, List, ◌++◌, codes, decimal}
use Rattle.edit_journal.specs.declared.fault.EditFault.{EditFault}
use Rattle.edit_journal.specs.declared.fault.EditFault.TheVariants.{Exists, Absent, Edits, Bytes}
use Rattle.edit_journal.specs.declared.fault.EditRefusal.{EditRefusal}
use Rattle.edit_journal.specs.declared.fault.EditRefusal.TheVariants.{Fault, OutOfMemory}
use Rattle.edit_journal.specs.declared.fault.BatchFault.{BatchFault}
use Rattle.edit_journal.specs.declared.fault.BatchRefusal.{BatchRefusal}
use Rattle.edit_journal.specs.declared.fault.BatchRefusal.TheVariants.{Fault as Faulty, OutOfMemory as NoBatch}
use Rattle.edit_journal.specs.declared.fault.StartRefusal.{StartRefusal}
use Rattle.edit_journal.specs.declared.fault.StartRefusal.TheVariants.{TooMany, OutOfMemory as NoJournal}

abbrev pub out_of_memory : List ℕ
out_of_memory = codes "out of memory"

abbrev pub edit_fault_text : EditFault → List ℕ
edit_fault_text Exists = codes "the leaf is there"
edit_fault_text Absent = codes "the leaf is not there"
edit_fault_text Edits = codes "too many edits"
edit_fault_text Bytes = codes "too many bytes"

abbrev pub edit_refusal_text : EditRefusal → List ℕ
edit_refusal_text (Fault fault) = edit_fault_text fault
edit_refusal_text OutOfMemory = out_of_memory

-- the place of the edit before its fault
abbrev pub batch_fault_text : BatchFault → List ℕ
batch_fault_text fault = codes "edit " ++ decimal fault.at ++ codes ": " ++ edit_fault_text fault.fault

abbrev pub batch_refusal_text : BatchRefusal → List ℕ
batch_refusal_text (Faulty fault) = batch_fault_text fault
batch_refusal_text NoBatch = out_of_memory

abbrev pub start_refusal_text : StartRefusal → List ℕ
start_refusal_text (TooMany leaves) = decimal leaves ++ codes " leaves are too many"
start_refusal_text NoJournal = out_of_memory
