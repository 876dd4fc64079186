use Rattle.dirty_plan.proofs.LawLemmas.{work_le}
use Rattle.dirty_plan.proofs.laws.more_touched_is_more_work.Goals as goal

pub returns : goal.returns
returns c = work_le
