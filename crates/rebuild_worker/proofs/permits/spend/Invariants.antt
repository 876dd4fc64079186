use Rattle.std.specs.VecDeque.{deque_len}
use Rattle.rebuild_worker.proofs.permits.spend.Given as goal

abbrev pub decreases-loop-permit : goal.decreases-loop-permit
decreases-loop-permit l = deque_len l.left
