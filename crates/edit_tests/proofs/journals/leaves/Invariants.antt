use Rattle.edit_journal.specs.Leaves.{FitsLeaves}
use Rattle.edit_tests.proofs.journals.leaves.Given as goal

abbrev pub invariant-loop-leaf : goal.invariant-loop-leaf
invariant-loop-leaf l = FitsLeaves l.shape l.leaves
