use Rattle.std.proofs.Common.{rules, ◌≡◌, ◌+◌, ◌-◌, ◌<◌, ℕ, length, sym, ◌∙◌, ap, subst, arith, true, false, Some}
use Rattle.std.specs.Prelude.{is_some, unwrap_or, if◌then◌else◌}
use Rattle.std.specs.Arc.{arc_value}
use Rattle.leaf_store.specs.Store.{value_at, without_key}
use Rattle.leaf_store.specs.Chunks.{first_key, slot_pairs}
use Rattle.leaf_store.proofs.Changed.{length-without}
use Rattle.leaf_store.proofs.Slots.{first-unwrapped}
use Rattle.leaf_store.proofs.slot.Slot.remove.Goals.{then-is_some, else-is_some}
use Rattle.leaf_store.proofs.slot.Slot.remove.Goals as goal

pub returns-clause-count : goal.returns-clause-count
returns-clause-count g c =
    let after : arc_value (c.make_mut.follows.lender c.remove.new.self) ≡ c.remove.new.self = search rules in
    let removed : g.C.Chunk.pairs c.remove.new.self ≡ without_key c.args.key (slot_pairs g.C.Chunk.pairs c.args.self.now) = search rules in
    let old : is_some c.in_ok-old.old ≡ is_some (value_at c.args.key (slot_pairs g.C.Chunk.pairs c.args.self.now)) = search rules in
    let fewer : length (g.C.Chunk.pairs c.remove.new.self) + (if is_some c.in_ok-old.old then 1 else 0) ≡ length (slot_pairs g.C.Chunk.pairs c.args.self.now) =
    ap (λ l. length l + (if is_some c.in_ok-old.old then 1 else 0)) removed ∙ ap (λ b. length (without_key c.args.key (slot_pairs g.C.Chunk.pairs c.args.self.now)) + (if b then 1 else 0)) old ∙ length-without c.args.key (slot_pairs g.C.Chunk.pairs c.args.self.now) in
    let count : c.args.self.now.count ≡ length (slot_pairs g.C.Chunk.pairs c.args.self.now) = c.requires.right.count in
    elim c.if-is_some.branch [
      | then-is_some w ↦
          let is : c.if-is_some.self ≡ record { first = c.unwrap_or-self.result; count = c.args.self.now.count - 1; chunk = c.make_mut.follows.lender c.remove.new.self } = w.self-is in
          let some : is_some c.in_ok-old.old ≡ true = search rules in
          let one : length (g.C.Chunk.pairs c.remove.new.self) + 1 ≡ length (slot_pairs g.C.Chunk.pairs c.args.self.now) = ap (λ b. length (g.C.Chunk.pairs c.remove.new.self) + (if b then 1 else 0)) (sym some) ∙ fewer in
          let less : c.args.self.now.count - 1 ≡ length (g.C.Chunk.pairs c.remove.new.self) = omega arith in
          ap (λ slot. slot.count) is ∙ less ∙ ap (λ chunk. length (g.C.Chunk.pairs chunk)) (sym (ap (λ slot. arc_value slot.chunk) is ∙ after))
      | else-is_some w ↦
          let is : c.if-is_some.self ≡ record { first = c.unwrap_or-self.result; count = c.args.self.now.count; chunk = c.make_mut.follows.lender c.remove.new.self } = w.self-is in
          let none : is_some c.in_ok-old.old ≡ false = search rules in
          let one : length (g.C.Chunk.pairs c.remove.new.self) + 0 ≡ length (slot_pairs g.C.Chunk.pairs c.args.self.now) = ap (λ b. length (g.C.Chunk.pairs c.remove.new.self) + (if b then 1 else 0)) (sym none) ∙ fewer in
          let less : c.args.self.now.count ≡ length (g.C.Chunk.pairs c.remove.new.self) = omega arith in
          ap (λ slot. slot.count) is ∙ less ∙ ap (λ chunk. length (g.C.Chunk.pairs chunk)) (sym (ap (λ slot. arc_value slot.chunk) is ∙ after))
    ]

pub returns-clause-right : goal.returns-clause-right
returns-clause-right g c = λ some.
    let after : arc_value (c.make_mut.follows.lender c.remove.new.self) ≡ c.remove.new.self = search rules in
    let chunk : arc_value c.if-is_some.self.chunk ≡ c.remove.new.self = elim c.if-is_some.branch [
      | then-is_some w ↦ ap (λ slot. arc_value slot.chunk) w.self-is ∙ after
      | else-is_some w ↦ ap (λ slot. arc_value slot.chunk) w.self-is ∙ after
    ] in
    let first : c.if-is_some.self.first ≡ c.unwrap_or-self.result = elim c.if-is_some.branch [
      | then-is_some w ↦ ap (λ slot. slot.first) w.self-is
      | else-is_some w ↦ ap (λ slot. slot.first) w.self-is
    ] in
    let count : c.if-is_some.self.count ≡ length (g.C.Chunk.pairs (arc_value c.if-is_some.self.chunk)) = returns-clause-count g c in
    let len : 0 < length (g.C.Chunk.pairs c.remove.new.self) = let P : ℕ → Type 0 = λ n. 0 < n in subst P (count ∙ ap (λ x. length (g.C.Chunk.pairs x)) chunk) some in
    let found : c.first.result ≡ first_key (g.C.Chunk.pairs c.remove.new.self) = c.first.ensures in
    record {
      first = ap (λ x. first_key (g.C.Chunk.pairs x)) chunk ∙ first-unwrapped (g.C.Chunk.pairs c.remove.new.self) c.args.self.now.first len
          ∙ ap Some (ap (λ r. unwrap_or r c.args.self.now.first) (sym found) ∙ sym c.unwrap_or-self.ensures ∙ sym first);
      count = count;
      sound = subst g.C.Chunk.IsSound (sym chunk) c.remove.ensures.sound;
    }
