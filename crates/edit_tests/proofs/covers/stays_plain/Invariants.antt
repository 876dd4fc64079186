use Rattle.std.proofs.Common.{◌≡◌}
use Rattle.edit_tests.proofs.covers.stays_plain.Given as goal

abbrev pub invariant-loop-leaf : goal.invariant-loop-leaf
invariant-loop-leaf l = l.cover.top ≡ l.top
