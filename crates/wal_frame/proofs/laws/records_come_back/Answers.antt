use Rattle.wal_frame.proofs.Wals.{records_come_back}
use Rattle.wal_frame.proofs.laws.records_come_back.Goals as goal

pub returns : goal.returns
returns c = records_come_back
