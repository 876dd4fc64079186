-- What a refusal of a tile file says.
use Rattle.std.specs.Prelude.{◌≡◌, ℕ, List, ℤ, Result, Err}
use Rattle.std.specs.Result.{IsOk}
use Rattle.fits_tile.specs.declared.fault.TileFault.{TileFault}
use Rattle.fits_tile.specs.declared.fault.TileRefusal.{TileRefusal}
use Rattle.fits_tile.specs.declared.fault.TileRefusal.TheVariants.{Fault, OutOfMemory}

-- a refusal is for the fault of the file; or the file has none, and memory ran out
abbrev pub IsRefusedBy : Result (List ℤ) TileFault → TileRefusal → Type 0
IsRefusedBy read (Fault fault) = read ≡ Err fault
IsRefusedBy read OutOfMemory = IsOk read

-- a fault is no step
abbrev pub KeepsSteps : ℕ → ℕ → TileRefusal → Type 0
KeepsSteps before after (Fault _) = after ≡ before
KeepsSteps before after OutOfMemory = Unit {0}
