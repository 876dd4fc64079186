use Rattle.std.proofs.Common.{rules, ◌≡◌, ◌+◌, ◌<◌, ◌≤◌, ℕ, List, ◌++◌, length, take, drop, get_or, set, sym, ◌∙◌, ap, subst, arith}
use Rattle.std.proofs.lemmas.List.Elements.{All-from_recursion}
use Rattle.leaf_store.specs.declared.slot.Slot.{Slot}
use Rattle.leaf_store.specs.Store.{IsAscending, value_at, without_key}
use Rattle.leaf_store.specs.Chunks.{slot_pairs, slot_places, level_pairs, slots_pairs, AreSlots, IsSlotFor}
use Rattle.leaf_store.proofs.Changed.{ascending-without}
use Rattle.leaf_store.proofs.Chunked.{value_at_place, without_at_place, same_at_place}
use Rattle.leaf_store.proofs.Cuts.{set_sound, removed_sound, emptied_pairs, set_removed, always_on_err}
use Rattle.leaf_store.proofs.level.LevelChanging.remove.Goals.{then-slot-eq0, else-slot-eq0}
use Rattle.leaf_store.proofs.level.LevelChanging.remove.Goals as goal

pub returns-in_err-old-clause-refused : goal.returns-in_err-old-clause-refused
returns-in_err-old-clause-refused g c =
    let place : IsSlotFor g.C.Chunk.pairs c.args.key c.args.self.now.slots.items c.place-i.result = search rules in
    always_on_err c.from_residual.result (same_at_place g.C.Chunk.pairs c.args.self.now.slots.items c.place-i.result c.index_mut-slot.result.now c.remove.new.self place.bound
    (c.in_err-old.ensures.refused.0 ∙ ap (slot_pairs g.C.Chunk.pairs) c.index_mut-slot.ensures.value))

pub returns-in_err-old-clause-sound : goal.returns-in_err-old-clause-sound
returns-in_err-old-clause-sound g c =
    let place : IsSlotFor g.C.Chunk.pairs c.args.key c.args.self.now.slots.items c.place-i.result = search rules in
    let was : slot_places g.C.Chunk.places (get_or c.args.self.now.slots.items c.place-i.result c.index_mut-slot.result.now) ≤ 64 =
    All-from_recursion (λ slot. slot_places g.C.Chunk.places slot ≤ 64) c.args.self.now.slots.items c.requires.sound.small c.place-i.result c.index_mut-slot.result.now place.bound in
    let is : slot_places g.C.Chunk.places c.index_mut-slot.result.now ≡ slot_places g.C.Chunk.places (get_or c.args.self.now.slots.items c.place-i.result c.index_mut-slot.result.now) = ap (slot_places g.C.Chunk.places) c.index_mut-slot.ensures.value in
    let fewer : slot_places g.C.Chunk.places c.remove.new.self ≤ slot_places g.C.Chunk.places c.index_mut-slot.result.now = c.remove.ensures.places in
    let small : slot_places g.C.Chunk.places c.remove.new.self ≤ 64 = omega arith in
    let P : List (ℕ × g.row.C-Value.Denot) → Type 0 = λ l. IsAscending l in
    let same : slots_pairs g.C.Chunk.pairs (set c.args.self.now.slots.items c.place-i.result c.remove.new.self) ≡ slots_pairs g.C.Chunk.pairs c.args.self.now.slots.items =
    same_at_place g.C.Chunk.pairs c.args.self.now.slots.items c.place-i.result c.index_mut-slot.result.now c.remove.new.self place.bound (c.in_err-old.ensures.refused.0 ∙ ap (slot_pairs g.C.Chunk.pairs) c.index_mut-slot.ensures.value) in
    set_sound g.C.Chunk.pairs g.C.Chunk.IsSound g.C.Chunk.places c.args.self.now.slots.items c.place-i.result c.remove.new.self c.index_mut-slot.result.now place.bound c.requires.sound c.in_err-old.ensures.refused.1 small (subst P (sym same) c.requires.sound.ascending)

pub returns-clause-old : goal.returns-clause-old
returns-clause-old g c =
    let place : IsSlotFor g.C.Chunk.pairs c.args.key c.args.self.now.slots.items c.place-i.result = search rules in
    c.in_ok-old.ensures.old ∙ ap (λ slot. value_at c.args.key (slot_pairs g.C.Chunk.pairs slot)) c.index_mut-slot.ensures.value
    ∙ sym (value_at_place g.C.Chunk.pairs c.args.key c.args.self.now.slots.items c.place-i.result c.index_mut-slot.result.now place)

pub returns-clause-removed : goal.returns-clause-removed
returns-clause-removed g c =
    let place : IsSlotFor g.C.Chunk.pairs c.args.key c.args.self.now.slots.items c.place-i.result = search rules in
    let all : slots_pairs g.C.Chunk.pairs (set c.args.self.now.slots.items c.place-i.result c.remove.new.self) ≡ without_key c.args.key (level_pairs g.C.Chunk.pairs c.args.self.now) =
    without_at_place g.C.Chunk.pairs c.args.key c.args.self.now.slots.items c.place-i.result c.index_mut-slot.result.now c.remove.new.self place
    (c.in_ok-old.ensures.removed ∙ ap (λ slot. without_key c.args.key (slot_pairs g.C.Chunk.pairs slot)) c.index_mut-slot.ensures.value) in
    elim c.if-slot-eq0.branch [
      | then-slot-eq0 w ↦
          let none : length (slot_pairs g.C.Chunk.pairs c.remove.new.self) ≡ 0 = sym c.remove.ensures.count ∙ w.if-slot-eq0.true in
          ap (level_pairs g.C.Chunk.pairs) w.self-is ∙ ap (slots_pairs g.C.Chunk.pairs) (w.remove-then-slot-eq0.ensures.by_index.2 ∙ set_removed c.args.self.now.slots.items c.place-i.result c.remove.new.self)
          ∙ emptied_pairs g.C.Chunk.pairs g.C.Chunk.IsSound c.args.self.now.slots.items c.place-i.result c.remove.new.self place.bound none ∙ all
      | else-slot-eq0 w ↦ ap (level_pairs g.C.Chunk.pairs) w.self-is ∙ all
    ]

pub returns-clause-sound : goal.returns-clause-sound
returns-clause-sound g c =
    let place : IsSlotFor g.C.Chunk.pairs c.args.key c.args.self.now.slots.items c.place-i.result = search rules in
    let P : List (ℕ × g.row.C-Value.Denot) → Type 0 = λ l. IsAscending l in
    let A : List (Slot g.row.C.Denot) → Type 0 = λ l. AreSlots g.C.Chunk.pairs g.C.Chunk.places g.C.Chunk.IsSound l in
    let ascends : IsAscending (slots_pairs g.C.Chunk.pairs c.if-slot-eq0.self.slots.items) = subst P (sym (returns-clause-removed g c)) (ascending-without c.args.key (level_pairs g.C.Chunk.pairs c.args.self.now) c.requires.sound.ascending) in
    elim c.if-slot-eq0.branch [
      | then-slot-eq0 w ↦
          let items : c.if-slot-eq0.self.slots.items ≡ take c.place-i.result c.args.self.now.slots.items ++ drop (c.place-i.result + 1) c.args.self.now.slots.items =
          ap (λ l. l.slots.items) w.self-is ∙ w.remove-then-slot-eq0.ensures.by_index.2 ∙ set_removed c.args.self.now.slots.items c.place-i.result c.remove.new.self in
          subst A (sym items) (removed_sound g.C.Chunk.pairs g.C.Chunk.IsSound g.C.Chunk.places c.args.self.now.slots.items c.place-i.result c.index_mut-slot.result.now place.bound c.requires.sound (subst P (ap (slots_pairs g.C.Chunk.pairs) items) ascends))
      | else-slot-eq0 w ↦
          let items : c.if-slot-eq0.self.slots.items ≡ set c.args.self.now.slots.items c.place-i.result c.remove.new.self = ap (λ l. l.slots.items) w.self-is in
          let was : slot_places g.C.Chunk.places (get_or c.args.self.now.slots.items c.place-i.result c.index_mut-slot.result.now) ≤ 64 =
          All-from_recursion (λ slot. slot_places g.C.Chunk.places slot ≤ 64) c.args.self.now.slots.items c.requires.sound.small c.place-i.result c.index_mut-slot.result.now place.bound in
          let is : slot_places g.C.Chunk.places c.index_mut-slot.result.now ≡ slot_places g.C.Chunk.places (get_or c.args.self.now.slots.items c.place-i.result c.index_mut-slot.result.now) = ap (slot_places g.C.Chunk.places) c.index_mut-slot.ensures.value in
          let fewer : slot_places g.C.Chunk.places c.remove.new.self ≤ slot_places g.C.Chunk.places c.index_mut-slot.result.now = c.remove.ensures.places in
          let small : slot_places g.C.Chunk.places c.remove.new.self ≤ 64 = omega arith in
          let some : 0 < c.remove.new.self.count = search rules in
          subst A (sym items) (set_sound g.C.Chunk.pairs g.C.Chunk.IsSound g.C.Chunk.places c.args.self.now.slots.items c.place-i.result c.remove.new.self c.index_mut-slot.result.now place.bound c.requires.sound (c.remove.ensures.right some) small (subst P (ap (slots_pairs g.C.Chunk.pairs) items) ascends))
    ]
