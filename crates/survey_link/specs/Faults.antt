-- The texts of the faults.
use Rattle.std.specs.Prelude.{ℕ, List, codes}
use Rattle.survey_link.specs.declared.faults.LinkFault.{LinkFault}
use Rattle.survey_link.specs.declared.faults.LinkFault.TheVariants as Link
use Rattle.survey_link.specs.declared.faults.DoorFault.{DoorFault}
use Rattle.survey_link.specs.declared.faults.DoorFault.TheVariants as Door

-- why a call on a shelf was refused
abbrev pub link_fault_text : LinkFault → List ℕ
link_fault_text Link.Failed = codes "the shelf failed"
link_fault_text Link.OutOfMemory = codes "out of memory"

-- why no connection was accepted
abbrev pub door_fault_text : DoorFault → List ℕ
door_fault_text Door.Failed = codes "the door failed"
door_fault_text Door.OutOfMemory = codes "out of memory"
