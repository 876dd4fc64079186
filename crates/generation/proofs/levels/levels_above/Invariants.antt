use Rattle.std.proofs.Common.{length}
use Rattle.generation.specs.Files.{leaf_map}
use Rattle.generation.proofs.Chain.{Partly}
use Rattle.generation.proofs.levels.levels_above.Given as goal

abbrev pub invariant-loop-order : goal.invariant-loop-order
invariant-loop-order g l = Partly l.shape (leaf_map l.edited.leaves.now) l.edited.touched.now l.levels.items l.left

abbrev pub decreases-loop-order : goal.decreases-loop-order
decreases-loop-order g l = length l.left
