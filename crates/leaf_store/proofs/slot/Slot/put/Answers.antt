use Rattle.std.proofs.Common.{rules, ◌≡◌, ◌+◌, sym, ◌∙◌, ap, subst, true, false, arith}
use Rattle.std.specs.Prelude.{is_some, if◌then◌else◌}
use Rattle.std.specs.Arc.{arc_value}
use Rattle.leaf_store.specs.Store.{IsAscending, value_at, with_value}
use Rattle.leaf_store.specs.Chunks.{slot_pairs}
use Rattle.leaf_store.proofs.Slots.{slot_after_put}
use Rattle.leaf_store.proofs.slot.Slot.put.Goals.{then-is_none, else-is_none}
use Rattle.leaf_store.proofs.slot.Slot.put.Goals as goal

pub returns-clause-right : goal.returns-clause-right
returns-clause-right g c =
    let ascends : IsAscending (slot_pairs g.C.Chunk.pairs c.args.self.now) = g.met.C.Chunk.ascends (arc_value c.args.self.now.chunk) c.requires.right.sound in
    let same : g.C.Chunk.pairs c.in_ok-chunk.chunk.now ≡ slot_pairs g.C.Chunk.pairs c.args.self.now = search rules in
    let after : arc_value (c.make_mut.follows.lender c.put.new.self) ≡ c.put.new.self = search rules in
    let put : g.C.Chunk.pairs c.put.new.self ≡ with_value c.args.key (arc_value c.args.value) (slot_pairs g.C.Chunk.pairs c.args.self.now) = search rules in
    let old : is_some c.in_ok-old.old ≡ is_some (value_at c.args.key (slot_pairs g.C.Chunk.pairs c.args.self.now)) = search rules in
    elim c.if-is_none.branch [
      | then-is_none w ↦
          let is : c.if-is_none.self ≡ record { first = c.min-self.result; count = c.args.self.now.count + 1; chunk = c.make_mut.follows.lender c.put.new.self } = w.self-is in
          let none : is_some c.in_ok-old.old ≡ false = search rules in
          slot_after_put g.C.Chunk.pairs g.C.Chunk.IsSound c.args.self.now c.if-is_none.self c.args.key (arc_value c.args.value) 1 c.requires.right ascends
          (ap (λ slot. slot.first) is ∙ c.min-self.ensures) (ap (λ slot. slot.count) is) (ap (λ b. (if b then 0 else 1)) (sym none ∙ old))
          (ap (λ slot. slot_pairs g.C.Chunk.pairs slot) is ∙ ap g.C.Chunk.pairs after ∙ put)
          (subst g.C.Chunk.IsSound (sym (ap (λ slot. arc_value slot.chunk) is ∙ after)) c.put.ensures.sound)
      | else-is_none w ↦
          let is : c.if-is_none.self ≡ record { first = c.min-self.result; count = c.args.self.now.count; chunk = c.make_mut.follows.lender c.put.new.self } = w.self-is in
          let some : is_some c.in_ok-old.old ≡ true = search rules in
          slot_after_put g.C.Chunk.pairs g.C.Chunk.IsSound c.args.self.now c.if-is_none.self c.args.key (arc_value c.args.value) 0 c.requires.right ascends
          (ap (λ slot. slot.first) is ∙ c.min-self.ensures) (ap (λ slot. slot.count) is ∙ omega arith) (ap (λ b. (if b then 0 else 1)) (sym some ∙ old))
          (ap (λ slot. slot_pairs g.C.Chunk.pairs slot) is ∙ ap g.C.Chunk.pairs after ∙ put)
          (subst g.C.Chunk.IsSound (sym (ap (λ slot. arc_value slot.chunk) is ∙ after)) c.put.ensures.sound)
    ]
