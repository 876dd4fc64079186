use Rattle.std.proofs.Common.{◌≡◌, ◌+◌, drop}
use Rattle.leaf_store.proofs.LookUps.{sum_of_counts}
use Rattle.leaf_store.proofs.level.LevelChunk.len.Given as goal

abbrev pub invariant-loop-slot : goal.invariant-loop-slot
invariant-loop-slot g l = l.len + sum_of_counts (drop l.slot-index l.self.slots.items) ≡ sum_of_counts l.self.slots.items
