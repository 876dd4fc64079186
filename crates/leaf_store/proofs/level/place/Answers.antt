use Rattle.std.proofs.Common.{rules, ℕ, sym, subst}
use Rattle.std.specs.Prelude.{nat_le}
use Rattle.std.proofs.lemmas.List.Sorted.{IsPartitionPoint-from_clause}
use Rattle.leaf_store.specs.Chunks.{IsSlotFor}
use Rattle.leaf_store.proofs.Slots.{place_found, firsts_part}
use Rattle.leaf_store.proofs.level.place.Goals as goal

pub returns : goal.returns
returns g c =
    let at = IsPartitionPoint-from_clause (λ slot. nat_le slot.first c.args.key) c.args.slots.now c.partition_point.result c.partition_point.ensures.partitioned (firsts_part g.C.Chunk.pairs g.C.Chunk.IsSound c.args.key c.args.slots.now c.requires.sound) (λ a r f called. search rules) in
    let P : ℕ → Type 0 = λ i. IsSlotFor g.C.Chunk.pairs c.args.key c.args.slots.now i in
    subst P (sym c.saturating_sub.ensures) (place_found g.C.Chunk.pairs g.C.Chunk.IsSound c.args.key c.args.slots.now c.partition_point.result c.requires.sound c.requires.some c.partition_point.ensures.bound at)
