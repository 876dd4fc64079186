use Rattle.wal_frame.proofs.Wals.{wals_are_one}
use Rattle.wal_frame.proofs.laws.wals_are_one.Goals as goal

pub returns : goal.returns
returns c = wals_are_one
