use Rattle.leaf_store.proofs.LookUps.{level_get}
use Rattle.leaf_store.proofs.level.LevelChunk.get.Goals as goal

pub returns : goal.returns
returns g c = level_get g.C.Chunk.pairs g.C.Chunk.IsSound c.args.key c.args.self.now.slots.items c.deref.result.now c.place.result c.index-slot.result.now c.deref-2.result.now _ c.deref.ensures.value c.place.ensures c.index-slot.ensures c.deref-2.ensures c.get.ensures
