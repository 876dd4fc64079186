-- What refusals of the layers below say here.
use Rattle.std.specs.Prelude.{◌≡◌, Result, Err, Bool, true, false}
use Rattle.survey_link.specs.declared.faults.LinkFault.{LinkFault}
use Rattle.survey_link.specs.declared.faults.LinkFault.TheVariants.{Failed, OutOfMemory as NoMemory}
use Rattle.hips_catalog.specs.Catalogue.{Catalogue}
use Rattle.catalog_command.specs.declared.refusal.CatalogRefusal.{CatalogRefusal}
use Rattle.catalog_command.specs.declared.refusal.CatalogRefusal.TheVariants.{Cut, Line, ReadFault, ShelfFault, OutOfMemory}

-- a fault of the shelf
abbrev pub of_link : LinkFault → CatalogRefusal
of_link Failed = ShelfFault
of_link NoMemory = OutOfMemory

-- why the input wasn't read: what stops it, or the source failed, or there was no memory
abbrev pub TellsStop : Result Catalogue CatalogRefusal → CatalogRefusal → Type 0
TellsStop made Cut = made ≡ Err Cut
TellsStop made (Line bad) = made ≡ Err (Line bad)
TellsStop made ReadFault = Unit {0}
TellsStop made OutOfMemory = Unit {0}
TellsStop made ShelfFault = ⊥

-- a stop of reading: the shelf isn't touched
abbrev pub IsReading : CatalogRefusal → Type 0
IsReading ShelfFault = ⊥
IsReading _ = Unit {0}

-- the source failed
abbrev pub read_failed : {A : Type 0} → Result A CatalogRefusal → Bool
read_failed (Err ReadFault) = true
read_failed _ = false

-- the work stopped since the shelf failed
abbrev pub stopped_at_shelf : {A : Type 0} → Result A CatalogRefusal → Bool
stopped_at_shelf (Err ShelfFault) = true
stopped_at_shelf _ = false
