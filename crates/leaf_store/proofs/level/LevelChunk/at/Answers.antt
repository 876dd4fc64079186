use Rattle.std.proofs.Common.{◌≡◌, ◌<◌, length, get_or, sym, ◌∙◌, ap, arith}
use Rattle.std.specs.Prelude.{slice_get}
use Rattle.leaf_store.proofs.LookUps.{at_here, at_next}
use Rattle.leaf_store.proofs.level.LevelChunk.at.Goals as goal

pub returns-then-left-slot : goal.returns-then-left-slot
returns-then-left-slot g c =
    let same : length c.deref-slot-items.result.now ≡ length c.args.self.now.slots.items = ap length c.deref-slot-items.ensures.value in
    let inside : c.loop-slot.slot-index < length c.args.self.now.slots.items = omega (arith, same, c.loop-slot-test.true) in
    c.at.ensures ∙ ap (λ x. slice_get (g.C.Chunk.pairs x) c.loop-slot.left) c.deref.ensures
    ∙ sym (at_here g.C.Chunk.pairs g.C.Chunk.IsSound c.args.self.now.slots.items c.loop-slot.slot-index c.slot-item.result c.loop-slot.left c.requires.sound.right inside (c.slot-item.is ∙ ap (λ xs. get_or xs c.loop-slot.slot-index c.slot-item.result) c.deref-slot-items.ensures.value) c.if-left-slot.true)
    ∙ sym c.loop-slot.invariant

pub loop-slot-preserved : goal.loop-slot-preserved
loop-slot-preserved g c =
    let same : length c.deref-slot-items.result.now ≡ length c.args.self.now.slots.items = ap length c.deref-slot-items.ensures.value in
    let inside : c.loop-slot.slot-index < length c.args.self.now.slots.items = omega (arith, same, c.loop-slot-test.true) in
    c.loop-slot.invariant ∙ at_next g.C.Chunk.pairs g.C.Chunk.IsSound c.args.self.now.slots.items c.loop-slot.slot-index c.slot-item.result c.loop-slot.left c.requires.sound.right inside (c.slot-item.is ∙ ap (λ xs. get_or xs c.loop-slot.slot-index c.slot-item.result) c.deref-slot-items.ensures.value) c.if-left-slot.false
