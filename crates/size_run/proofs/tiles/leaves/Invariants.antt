use Rattle.edit_journal.specs.Leaves.{FitsLeaves}
use Rattle.size_run.proofs.tiles.leaves.Given as goal

abbrev pub invariant-loop-i : goal.invariant-loop-i
invariant-loop-i l = FitsLeaves l.shape l.store
