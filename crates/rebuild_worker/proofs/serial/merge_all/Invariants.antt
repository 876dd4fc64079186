use Rattle.std.proofs.Common.{◌≡◌, ◌++◌, All, length}
use Rattle.rebuild_worker.specs.Level.{merges_of, IsAboveLeaves}
use Rattle.rebuild_worker.specs.Shown.{all_shown}
use Rattle.rebuild_worker.proofs.serial.merge_all.Given as goal

-- what was made and what is owed are what is owed at first
abbrev pub invariant-loop-permit : goal.invariant-loop-permit
invariant-loop-permit g l = (all_shown l.level.items ++ merges_of l.shape l.sources.children.now l.todo ≡ merges_of l.shape l.sources.children.now l.initial.todo) × All (IsAboveLeaves l.shape) l.todo

abbrev pub decreases-loop-permit : goal.decreases-loop-permit
decreases-loop-permit g l = length l.todo
