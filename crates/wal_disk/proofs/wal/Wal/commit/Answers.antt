use Rattle.wal_disk.proofs.wal.Wal.commit.Goals as goal

pub returns-in-Ok-clause-kept : goal.returns-in-Ok-clause-kept
returns-in-Ok-clause-kept g c = λ front body staged. c.open_gate.ensures.kept front body (c.in-Ok.ensures.closed front body staged)

pub returns-in-Ok-clause-stopped : goal.returns-in-Ok-clause-stopped
returns-in-Ok-clause-stopped g c = λ front body staged. c.open_gate.ensures.stopped front body (c.in-Ok.ensures.closed front body staged)
