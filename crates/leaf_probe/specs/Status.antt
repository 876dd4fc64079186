-- The status of a fault, by which a program over `probe` ends, and which faults are those of the source and of the sink. This
-- project's profile.
use Rattle.std.specs.Prelude.{ℕ, Bool, true, false, Result, Err}
use Rattle.leaf_probe.specs.declared.fault.ProbeFault.{ProbeFault}
use Rattle.leaf_probe.specs.declared.fault.ProbeFault.TheVariants.{Cut, Read, Write, NoLeaf, OutOfMemory, TooMany, OutOfRange}

abbrev pub status_of : ProbeFault → ℕ
status_of Cut = 4
status_of Read = 5
status_of Write = 6
status_of NoLeaf = 10
status_of OutOfMemory = 11
status_of TooMany = 12
status_of OutOfRange = 13

-- a call was refused since the source failed
abbrev pub read_failed : {A : Type 0} → Result A ProbeFault → Bool
read_failed (Err Read) = true
read_failed _ = false

-- or since the sink failed
abbrev pub write_failed : {A : Type 0} → Result A ProbeFault → Bool
write_failed (Err Write) = true
write_failed _ = false
