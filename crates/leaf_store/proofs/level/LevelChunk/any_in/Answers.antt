use Rattle.std.proofs.Common.{rules, ◌≡◌, ◌+◌, ◌<◌, ◌≤◌, length, get_or, true, false, sym}
use Rattle.leaf_store.specs.Store.{any_key_in}
use Rattle.leaf_store.specs.Chunks.{IsSlotFor, slot_pairs}
use Rattle.leaf_store.proofs.LookUps.{any_here, any_next, any_last}
use Rattle.leaf_store.proofs.level.LevelChunk.any_in.Goals as goal

pub returns-then-any_in : goal.returns-then-any_in
returns-then-any_in g c =
    let place : IsSlotFor g.C.Chunk.pairs c.args.low c.args.self.now.slots.items c.place-i.result = search rules in
    let found : any_key_in c.args.low c.args.high (slot_pairs g.C.Chunk.pairs c.index-slot.result.now) ≡ true = search rules in
    sym (any_here g.C.Chunk.pairs g.C.Chunk.IsSound c.args.low c.args.high c.args.self.now.slots.items c.place-i.result c.index-slot.result.now c.requires.sound.ascending place c.index-slot.ensures found)

pub returns-in-Some : goal.returns-in-Some
returns-in-Some g c =
    let place : IsSlotFor g.C.Chunk.pairs c.args.low c.args.self.now.slots.items c.place-i.result = search rules in
    let missed : any_key_in c.args.low c.args.high (slot_pairs g.C.Chunk.pairs c.index-slot.result.now) ≡ false = search rules in
    let inside : c.place-i.result + 1 < length c.args.self.now.slots.items = search rules in
    let next : c.in-Some.next.now ≡ get_or c.args.self.now.slots.items (c.place-i.result + 1) c.in-Some.next.now = search rules in
    sym (any_next g.C.Chunk.pairs g.C.Chunk.IsSound c.args.low c.args.high c.args.self.now.slots.items c.place-i.result c.index-slot.result.now c.in-Some.next.now c.requires.sound.right c.requires.sound.ascending place c.index-slot.ensures missed inside next)

pub returns-in-None : goal.returns-in-None
returns-in-None g c =
    let place : IsSlotFor g.C.Chunk.pairs c.args.low c.args.self.now.slots.items c.place-i.result = search rules in
    let missed : any_key_in c.args.low c.args.high (slot_pairs g.C.Chunk.pairs c.index-slot.result.now) ≡ false = search rules in
    let past : length c.args.self.now.slots.items ≤ c.place-i.result + 1 = search rules in
    sym (any_last g.C.Chunk.pairs g.C.Chunk.IsSound c.args.low c.args.high c.args.self.now.slots.items c.place-i.result c.index-slot.result.now c.requires.sound.ascending place c.index-slot.ensures missed past)
