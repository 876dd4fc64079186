use Rattle.wal_frame.proofs.Alone.{records_stand_alone}
use Rattle.wal_frame.proofs.laws.records_stand_alone.Goals as goal

pub returns : goal.returns
returns c = records_stand_alone
