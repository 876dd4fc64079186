use Rattle.past_frame.proofs.Records.{records_stand}
use Rattle.past_frame.proofs.laws.records_stand.Goals as goal

pub returns : goal.returns
returns c = records_stand
