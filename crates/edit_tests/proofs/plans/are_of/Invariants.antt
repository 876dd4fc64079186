use Rattle.std.proofs.Common.{vec_len}
use Rattle.edit_tests.proofs.plans.are_of.Given as goal

abbrev pub decreases-loop-permit : goal.decreases-loop-permit
decreases-loop-permit l = vec_len l.permits
