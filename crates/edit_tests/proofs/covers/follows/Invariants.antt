use Rattle.std.proofs.Common.{◌≡◌}
use Rattle.edit_tests.proofs.covers.follows.Given as goal

abbrev pub invariant-loop-more : goal.invariant-loop-more
invariant-loop-more l = l.cover.top ≡ l.top
