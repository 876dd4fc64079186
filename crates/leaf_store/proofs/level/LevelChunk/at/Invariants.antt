use Rattle.std.proofs.Common.{◌≡◌, drop}
use Rattle.std.specs.Prelude.{slice_get}
use Rattle.leaf_store.specs.Chunks.{slots_pairs}
use Rattle.leaf_store.proofs.level.LevelChunk.at.Given as goal

abbrev pub invariant-loop-slot : goal.invariant-loop-slot
invariant-loop-slot g l = slice_get (slots_pairs g.C.Chunk.pairs l.self.slots.items) l.fn.i ≡ slice_get (slots_pairs g.C.Chunk.pairs (drop l.slot-index l.self.slots.items)) l.left
