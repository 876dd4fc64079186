use Rattle.std.specs.VecDeque.{deque_len}
use Rattle.dirty_plan.proofs.worklist.Worklist.drop.Given as goal

abbrev pub decreases-loop-level : goal.decreases-loop-level
decreases-loop-level l = deque_len l.levels
