use Rattle.std.proofs.Common.{arith}
use Rattle.wal_disk.proofs.Gates.{nothing_staged}
use Rattle.wal_disk.proofs.wal.Wal.discard.Goals as goal

pub returns-clause-dropped : goal.returns-clause-dropped
returns-clause-dropped g c = λ front body staged. record {
  end = staged.end;
  next = omega (arith, staged.end);
  each = staged.each;
  there = nothing_staged front _ staged.there.shut;
}
