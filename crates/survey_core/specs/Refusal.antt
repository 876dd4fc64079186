-- What refusals say.
use Rattle.std.specs.Prelude.{◌≡◌, ℕ, ◌<◌, ◌≤◌, [], length, Some, Result, Err}
use Rattle.std.specs.Result.{IsOk}
use Rattle.edit_journal.specs.Leaves.{LeafTiles, charge_of}
use Rattle.edit_journal.specs.Faults.{most_charge}
use Rattle.edit_journal.specs.declared.fault.StartRefusal.{StartRefusal}
use Rattle.edit_journal.specs.declared.fault.StartRefusal.TheVariants.{TooMany, OutOfMemory as NoJournal}
use Rattle.survey_core.specs.declared.refusal.InstallRefusal.{InstallRefusal}
use Rattle.survey_core.specs.declared.refusal.InstallRefusal.TheVariants.{Already, OutOfMemory}
use Rattle.survey_core.specs.declared.fault.BatchRead.{BatchRead}
use Rattle.survey_core.specs.declared.fault.BatchRead.TheVariants.{Entry, OutOfMemory as NoMemory}
use Rattle.survey_core.specs.declared.fault.EntryFault.{EntryFault}
use Rattle.survey_core.specs.declared.fault.EntryRefusal.{EntryRefusal}
use Rattle.survey_core.specs.declared.fault.EntryRefusal.TheVariants.{Fault, OutOfMemory as NoTile}
use Rattle.survey_core.specs.BatchBody.{BatchEntries}

-- of a survey with these opening leaves: their charge is too great, and the refusal says how many there are; memory may run
-- out before they are counted
abbrev pub TellsTooMany : LeafTiles → StartRefusal → Type 0
TellsTooMany leaves (TooMany count) = (most_charge < charge_of leaves []) × (count ≡ length leaves)
TellsTooMany leaves NoJournal = Unit {0}

-- of a generation with this prefix, at a state with this tip: it is published already, and the refusal gives the tip; memory
-- runs out only where it isn't
abbrev pub TellsInstallRefusal : ℕ → ℕ → InstallRefusal → Type 0
TellsInstallRefusal prefix tip (Already told) = (prefix ≤ tip) × (told ≡ tip)
TellsInstallRefusal prefix tip OutOfMemory = tip < prefix

-- of an entry, or the tile of one: the refusal gives its fault; or it has none, and memory ran out
abbrev pub TellsEntryRefusal : {X : Type 0} → Result X EntryFault → EntryRefusal → Type 0
TellsEntryRefusal read (Fault fault) = read ≡ Err fault
TellsEntryRefusal read NoTile = IsOk read

-- of a body with these entries: the place of the first entry with a fault, which is how many were read before it, and that
-- fault; memory may run out at any entry
abbrev pub TellsBatchRead : BatchEntries → BatchRead → Type 0
TellsBatchRead entries (Entry place fault) = (length entries.edits ≡ place) × (entries.fault ≡ Some fault)
TellsBatchRead entries NoMemory = Unit {0}
