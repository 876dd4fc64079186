-- Why no journal is begun.
use Rattle.std.specs.Prelude.{◌≡◌, ◌<◌, ◌≤◌, [], length}
use Rattle.edit_journal.specs.declared.fault.StartRefusal.{StartRefusal}
use Rattle.edit_journal.specs.declared.fault.StartRefusal.TheVariants.{TooMany, OutOfMemory}
use Rattle.edit_journal.specs.Leaves.{LeafTiles, charge_of}
use Rattle.edit_journal.specs.Faults.{most_charge}

-- the charge is too great, and the refusal has the number of leaves; memory may run out only where it isn't
abbrev pub TellsStartRefusal : LeafTiles → StartRefusal → Type 0
TellsStartRefusal leaves (TooMany count) = (most_charge < charge_of leaves []) × (count ≡ length leaves)
TellsStartRefusal leaves OutOfMemory = charge_of leaves [] ≤ most_charge
