use Rattle.std.proofs.Common.{◌≡◌, None, replicate}
use Rattle.tcp_link.proofs.tcp_door.patient_doors.Given as goal

abbrev pub invariant-loop-at : goal.invariant-loop-at
invariant-loop-at g l = l.doors.items ≡ replicate l.at (record { faults = 0; memory_faults = 0; refusal = None })
