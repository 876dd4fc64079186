-- What a refusal of a lower call is for the call that loads a shelf, and which refusal says that the shelf failed.
use Rattle.std.specs.Prelude.{Bool, true, false, Result, Err}
use Rattle.survey_link.specs.declared.faults.LinkFault.{LinkFault}
use Rattle.survey_link.specs.declared.faults.LinkFault.TheVariants.{Failed, OutOfMemory as NoMemory}
use Rattle.survey_conf.specs.declared.fault.ConfRefusal.{ConfRefusal}
use Rattle.survey_conf.specs.declared.fault.ConfRefusal.TheVariants.{Fault, OutOfMemory as NoRoom}
use Rattle.shelf_io.specs.declared.refusal.LoadRefusal.{LoadRefusal}
use Rattle.shelf_io.specs.declared.refusal.LoadRefusal.TheVariants.{Conf, ShelfFault, OutOfMemory}

abbrev pub of_link : LinkFault → LoadRefusal
of_link Failed = ShelfFault
of_link NoMemory = OutOfMemory

abbrev pub of_conf : ConfRefusal → LoadRefusal
of_conf (Fault fault) = Conf fault
of_conf NoRoom = OutOfMemory

-- a call was refused since the shelf failed
abbrev pub at_shelf : {A : Type 0} → Result A LoadRefusal → Bool
at_shelf (Err ShelfFault) = true
at_shelf _ = false
