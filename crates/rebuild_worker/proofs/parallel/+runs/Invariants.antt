use Rattle.std.proofs.Common.{◌+◌, ◌*◌}
use Rattle.rebuild_worker.proofs.parallel.+runs.Given as goal

abbrev pub decreases-back : goal.decreases-back
decreases-back g l = 2 * l.far + 1

abbrev pub decreases-front : goal.decreases-front
decreases-front g l = 2 * l.near + 1

abbrev pub decreases-merge_by : goal.decreases-merge_by
decreases-merge_by g l = 2 * l.run.workers
