use Rattle.std.proofs.Common.{vec_len}
use Rattle.dirty_plan.proofs.worklist.Level.spend.Given as goal

abbrev pub decreases-loop-permit : goal.decreases-loop-permit
decreases-loop-permit l = vec_len l.permits
