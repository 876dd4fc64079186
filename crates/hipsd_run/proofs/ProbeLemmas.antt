-- What the status of a fault of `probe` says.
use Rattle.std.proofs.Common.{◌≡◌, ◌≢◌, ℕ, inl, inr, refl, sym, arith}
use Rattle.leaf_probe.specs.declared.fault.ProbeFault.{ProbeFault}
use Rattle.leaf_probe.specs.declared.fault.ProbeFault.TheVariants.{Cut, Read, Write, NoLeaf, OutOfMemory, TooMany, OutOfRange}
use Rattle.leaf_probe.specs.Status.{status_of}
use Rattle.leaf_probe.specs.Reading.{StandsFor}
use Rattle.command_output.specs.Status.{IsAmong}
use Rattle.hipsd_run.specs.Probe.{EndsBy, probe_statuses}

-- it is that of the answer, unless an end failed or there was no memory
pub ends_by : (fault : ProbeFault) (status : ℕ) → StandsFor fault status → EndsBy status (status_of fault)
ends_by Read status stands = inr (inl refl)
ends_by Write status stands = inr (inr (inl refl))
ends_by OutOfMemory status stands = inr (inr (inr refl))
ends_by Cut status stands = inl (sym stands)
ends_by NoLeaf status stands = inl (sym stands)
ends_by TooMany status stands = inl (sym stands)
ends_by OutOfRange status stands = inl (sym stands)

pub never_0 : (fault : ProbeFault) → status_of fault ≢ 0
never_0 Cut e = absurd (omega arith)
never_0 Read e = absurd (omega arith)
never_0 Write e = absurd (omega arith)
never_0 NoLeaf e = absurd (omega arith)
never_0 OutOfMemory e = absurd (omega arith)
never_0 TooMany e = absurd (omega arith)
never_0 OutOfRange e = absurd (omega arith)

pub is_write : (fault : ProbeFault) → status_of fault ≡ 6 → fault ≡ Write
is_write Write e = refl
is_write Cut e = absurd (omega arith)
is_write Read e = absurd (omega arith)
is_write NoLeaf e = absurd (omega arith)
is_write OutOfMemory e = absurd (omega arith)
is_write TooMany e = absurd (omega arith)
is_write OutOfRange e = absurd (omega arith)

-- it is one that `probe` can end by
pub among : (fault : ProbeFault) → IsAmong probe_statuses (status_of fault)
among Cut = refl
among Read = refl
among Write = refl
among NoLeaf = refl
among OutOfMemory = refl
among TooMany = refl
among OutOfRange = refl
