use Rattle.std.proofs.Common.{rules, ◌≡◌, ◌+◌, ◌<◌, ◌≤◌, ◌^◌, length, get_or, drop, ◌∙◌, ap, arith}
use Rattle.std.proofs.lemmas.List.{drop_all}
use Rattle.leaf_store.specs.Chunks.{level_pairs}
use Rattle.leaf_store.proofs.LookUps.{sum_of_counts, counts_are, counts_step}
use Rattle.leaf_store.proofs.level.LevelChunk.len.Goals as goal

pub overflow_add-len : goal.overflow_add-len
overflow_add-len g c =
    let same : length c.deref-slot-items.result.now ≡ length c.args.self.now.slots.items = ap length c.deref-slot-items.ensures.value in
    let inside : c.loop-slot.slot-index < length c.args.self.now.slots.items = omega (arith, same, c.loop-slot-test.true) in
    let all : sum_of_counts c.args.self.now.slots.items ≡ length (level_pairs g.C.Chunk.pairs c.args.self.now) = counts_are g.C.Chunk.pairs g.C.Chunk.IsSound c.args.self.now.slots.items c.requires.sound.right in
    let step : sum_of_counts (drop c.loop-slot.slot-index c.args.self.now.slots.items) ≡ c.slot-item.result.count + sum_of_counts (drop (c.loop-slot.slot-index + 1) c.args.self.now.slots.items) = counts_step g.C.Chunk.pairs g.C.Chunk.IsSound c.args.self.now.slots.items c.loop-slot.slot-index c.slot-item.result inside (c.slot-item.is ∙ ap (λ xs. get_or xs c.loop-slot.slot-index c.slot-item.result) c.deref-slot-items.ensures.value) in
    let far : c.loop-slot.len + sum_of_counts (drop c.loop-slot.slot-index c.args.self.now.slots.items) ≡ sum_of_counts c.args.self.now.slots.items = c.loop-slot.invariant in
    let fits : length (level_pairs g.C.Chunk.pairs c.args.self.now) < 2 ^ 64 = c.requires.fits in
    let here : c.loop-slot.len + c.slot-item.result.count < 2 ^ 64 = omega arith in
    search rules

pub loop-slot-preserved : goal.loop-slot-preserved
loop-slot-preserved g c =
    let same : length c.deref-slot-items.result.now ≡ length c.args.self.now.slots.items = ap length c.deref-slot-items.ensures.value in
    let inside : c.loop-slot.slot-index < length c.args.self.now.slots.items = omega (arith, same, c.loop-slot-test.true) in
    let step : sum_of_counts (drop c.loop-slot.slot-index c.args.self.now.slots.items) ≡ c.slot-item.result.count + sum_of_counts (drop (c.loop-slot.slot-index + 1) c.args.self.now.slots.items) = counts_step g.C.Chunk.pairs g.C.Chunk.IsSound c.args.self.now.slots.items c.loop-slot.slot-index c.slot-item.result inside (c.slot-item.is ∙ ap (λ xs. get_or xs c.loop-slot.slot-index c.slot-item.result) c.deref-slot-items.ensures.value) in
    let far : c.loop-slot.len + sum_of_counts (drop c.loop-slot.slot-index c.args.self.now.slots.items) ≡ sum_of_counts c.args.self.now.slots.items = c.loop-slot.invariant in
    omega arith

pub returns : goal.returns
returns g c =
    let same : length c.deref-slot-items.result.now ≡ length c.args.self.now.slots.items = ap length c.deref-slot-items.ensures.value in
    let past : length c.args.self.now.slots.items ≤ c.loop-slot.slot-index = omega (arith, same, c.loop-slot-test.false) in
    let all : sum_of_counts c.args.self.now.slots.items ≡ length (level_pairs g.C.Chunk.pairs c.args.self.now) = counts_are g.C.Chunk.pairs g.C.Chunk.IsSound c.args.self.now.slots.items c.requires.sound.right in
    let far : c.loop-slot.len + sum_of_counts (drop c.loop-slot.slot-index c.args.self.now.slots.items) ≡ sum_of_counts c.args.self.now.slots.items = c.loop-slot.invariant in
    let end : sum_of_counts (drop c.loop-slot.slot-index c.args.self.now.slots.items) ≡ 0 = ap sum_of_counts (drop_all c.loop-slot.slot-index c.args.self.now.slots.items past) in
    omega arith
