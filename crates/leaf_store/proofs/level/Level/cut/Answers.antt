use Rattle.std.proofs.Common.{rules, ◌≡◌, ◌+◌, ◌<◌, ◌≤◌, ◌^◌, ℕ, List, ◌++◌, length, get_or, set, sym, ◌∙◌, ap, subst, arith}
use Rattle.std.specs.Arc.{arc_value}
use Rattle.std.proofs.lemmas.List.{length-append}
use Rattle.leaf_store.specs.declared.slot.Slot.{Slot}
use Rattle.leaf_store.specs.Store.{IsAscending}
use Rattle.leaf_store.specs.Chunks.{slot_pairs, slot_places, level_pairs, slots_pairs, AreSlots, IsSlotFor}
use Rattle.leaf_store.proofs.Chunked.{part_ascends}
use Rattle.leaf_store.proofs.Cuts.{cut_slots, cut_is, cut_pairs, cut_sound, place_front, place_back, part_fits}
use Rattle.leaf_store.proofs.level.Level.cut.Goals.{then-i-len, else-i-len, then-back-key, else-back-key}
use Rattle.leaf_store.proofs.level.Level.cut.Goals as goal

pub new-requires-clause-fits : goal.new-requires-clause-fits
new-requires-clause-fits g c =
    let chunk : c.deref-2.result.now ≡ arc_value c.index-slot.result.now.chunk = c.deref-2.ensures in
    let both : length (g.C.Chunk.pairs c.in_ok-front.front ++ g.C.Chunk.pairs c.in_ok-front.back) ≡ length (slot_pairs g.C.Chunk.pairs c.index-slot.result.now) = ap length (c.in_ok-front.ensures.pairs ∙ ap g.C.Chunk.pairs chunk) in
    let len : length (g.C.Chunk.pairs c.in_ok-front.front ++ g.C.Chunk.pairs c.in_ok-front.back) ≡ length (g.C.Chunk.pairs c.in_ok-front.front) + length (g.C.Chunk.pairs c.in_ok-front.back) = length-append (g.C.Chunk.pairs c.in_ok-front.front) (g.C.Chunk.pairs c.in_ok-front.back) in
    let part : length (slot_pairs g.C.Chunk.pairs c.index-slot.result.now) ≤ length (level_pairs g.C.Chunk.pairs c.args.self.now) = part_fits g.C.Chunk.pairs g.C.Chunk.IsSound c.args.self.now.slots.items c.args.i c.index-slot.result.now c.requires.place.bound c.index-slot.ensures in
    let fits : length (level_pairs g.C.Chunk.pairs c.args.self.now) < 2 ^ 64 = c.requires.fits in
    omega arith

pub new-requires-2-clause-fits : goal.new-requires-2-clause-fits
new-requires-2-clause-fits g c =
    let chunk : c.deref-2.result.now ≡ arc_value c.index-slot.result.now.chunk = c.deref-2.ensures in
    let both : length (g.C.Chunk.pairs c.in_ok-front.front ++ g.C.Chunk.pairs c.in_ok-front.back) ≡ length (slot_pairs g.C.Chunk.pairs c.index-slot.result.now) = ap length (c.in_ok-front.ensures.pairs ∙ ap g.C.Chunk.pairs chunk) in
    let len : length (g.C.Chunk.pairs c.in_ok-front.front ++ g.C.Chunk.pairs c.in_ok-front.back) ≡ length (g.C.Chunk.pairs c.in_ok-front.front) + length (g.C.Chunk.pairs c.in_ok-front.back) = length-append (g.C.Chunk.pairs c.in_ok-front.front) (g.C.Chunk.pairs c.in_ok-front.back) in
    let part : length (slot_pairs g.C.Chunk.pairs c.index-slot.result.now) ≤ length (level_pairs g.C.Chunk.pairs c.args.self.now) = part_fits g.C.Chunk.pairs g.C.Chunk.IsSound c.args.self.now.slots.items c.args.i c.index-slot.result.now c.requires.place.bound c.index-slot.ensures in
    let fits : length (level_pairs g.C.Chunk.pairs c.args.self.now) < 2 ^ 64 = c.requires.fits in
    omega arith

pub returns-clause-same : goal.returns-clause-same
returns-clause-same g c =
    let cut : set c.insert.new.self.items (c.args.i + 1) c.in_ok-back.back ≡ cut_slots c.args.self.now.slots.items c.args.i c.in_ok-front-2.front c.in_ok-back.back =
    ap (λ l. set l (c.args.i + 1) c.in_ok-back.back) c.in_ok-insert.ensures.items ∙ cut_is g.C.Chunk.pairs g.C.Chunk.IsSound c.args.self.now.slots.items c.args.i c.in_ok-front-2.front c.in_ok-back.back c.requires.place.bound in
    let parts : slot_pairs g.C.Chunk.pairs c.in_ok-front-2.front ++ slot_pairs g.C.Chunk.pairs c.in_ok-back.back ≡ slot_pairs g.C.Chunk.pairs (get_or c.args.self.now.slots.items c.args.i c.index-slot.result.now) =
    ap (λ l. l ++ slot_pairs g.C.Chunk.pairs c.in_ok-back.back) c.in_ok-front-2.ensures.pairs ∙ ap (λ l. g.C.Chunk.pairs c.in_ok-front.front ++ l) c.in_ok-back.ensures.pairs
    ∙ c.in_ok-front.ensures.pairs ∙ ap g.C.Chunk.pairs c.deref-2.ensures ∙ ap (slot_pairs g.C.Chunk.pairs) c.index-slot.ensures in
    ap (slots_pairs g.C.Chunk.pairs) cut ∙ cut_pairs g.C.Chunk.pairs g.C.Chunk.IsSound c.args.self.now.slots.items c.args.i c.in_ok-front-2.front c.in_ok-back.back c.index-slot.result.now c.requires.place.bound parts

pub returns-clause-sound : goal.returns-clause-sound
returns-clause-sound g c =
    let cut : set c.insert.new.self.items (c.args.i + 1) c.in_ok-back.back ≡ cut_slots c.args.self.now.slots.items c.args.i c.in_ok-front-2.front c.in_ok-back.back =
    ap (λ l. set l (c.args.i + 1) c.in_ok-back.back) c.in_ok-insert.ensures.items ∙ cut_is g.C.Chunk.pairs g.C.Chunk.IsSound c.args.self.now.slots.items c.args.i c.in_ok-front-2.front c.in_ok-back.back c.requires.place.bound in
    let parts : slot_pairs g.C.Chunk.pairs c.in_ok-front-2.front ++ slot_pairs g.C.Chunk.pairs c.in_ok-back.back ≡ slot_pairs g.C.Chunk.pairs (get_or c.args.self.now.slots.items c.args.i c.index-slot.result.now) =
    ap (λ l. l ++ slot_pairs g.C.Chunk.pairs c.in_ok-back.back) c.in_ok-front-2.ensures.pairs ∙ ap (λ l. g.C.Chunk.pairs c.in_ok-front.front ++ l) c.in_ok-back.ensures.pairs
    ∙ c.in_ok-front.ensures.pairs ∙ ap g.C.Chunk.pairs c.deref-2.ensures ∙ ap (slot_pairs g.C.Chunk.pairs) c.index-slot.ensures in
    let P : List (Slot g.row.C.Denot) → Type 0 = λ l. AreSlots g.C.Chunk.pairs g.C.Chunk.places g.C.Chunk.IsSound l in
    let small : slot_places g.C.Chunk.places c.in_ok-front-2.front ≤ 64 = search rules in
    let tiny : slot_places g.C.Chunk.places c.in_ok-back.back ≤ 64 = search rules in
    subst P (sym cut) (cut_sound g.C.Chunk.pairs g.C.Chunk.IsSound g.C.Chunk.places c.args.self.now.slots.items c.args.i c.in_ok-front-2.front c.in_ok-back.back c.index-slot.result.now c.requires.place.bound c.requires.sound parts c.in_ok-front-2.ensures.right c.in_ok-back.ensures.right small tiny)

pub returns-clause-place : goal.returns-clause-place
returns-clause-place g c =
    let cut : set c.insert.new.self.items (c.args.i + 1) c.in_ok-back.back ≡ cut_slots c.args.self.now.slots.items c.args.i c.in_ok-front-2.front c.in_ok-back.back =
    ap (λ l. set l (c.args.i + 1) c.in_ok-back.back) c.in_ok-insert.ensures.items ∙ cut_is g.C.Chunk.pairs g.C.Chunk.IsSound c.args.self.now.slots.items c.args.i c.in_ok-front-2.front c.in_ok-back.back c.requires.place.bound in
    let parts : slot_pairs g.C.Chunk.pairs c.in_ok-front-2.front ++ slot_pairs g.C.Chunk.pairs c.in_ok-back.back ≡ slot_pairs g.C.Chunk.pairs (get_or c.args.self.now.slots.items c.args.i c.index-slot.result.now) =
    ap (λ l. l ++ slot_pairs g.C.Chunk.pairs c.in_ok-back.back) c.in_ok-front-2.ensures.pairs ∙ ap (λ l. g.C.Chunk.pairs c.in_ok-front.front ++ l) c.in_ok-back.ensures.pairs
    ∙ c.in_ok-front.ensures.pairs ∙ ap g.C.Chunk.pairs c.deref-2.ensures ∙ ap (slot_pairs g.C.Chunk.pairs) c.index-slot.ensures in
    let A : List (ℕ × g.row.C-Value.Denot) → Type 0 = λ l. IsAscending l in
    let ascends : IsAscending (slot_pairs g.C.Chunk.pairs c.in_ok-front-2.front ++ slot_pairs g.C.Chunk.pairs c.in_ok-back.back) =
    subst A (sym parts) (part_ascends g.C.Chunk.pairs c.args.self.now.slots.items c.args.i c.index-slot.result.now c.requires.place.bound c.requires.sound.ascending) in
    let P : List (Slot g.row.C.Denot) → Type 0 = λ l. IsSlotFor g.C.Chunk.pairs c.args.key l c.if-back-key.chosen in
    let N : ℕ → Type 0 = λ n. IsSlotFor g.C.Chunk.pairs c.args.key (cut_slots c.args.self.now.slots.items c.args.i c.in_ok-front-2.front c.in_ok-back.back) n in
    subst P (sym cut) (elim c.if-back-key.branch [
      | then-back-key w ↦ subst N (sym w.chosen-is) (place_back g.C.Chunk.pairs g.C.Chunk.IsSound c.args.key c.args.self.now.slots.items c.args.i c.in_ok-front-2.front c.in_ok-back.back c.requires.place c.in_ok-back.ensures.right ascends w.if-back-key.true)
      | else-back-key w ↦ subst N (sym w.chosen-is) (place_front g.C.Chunk.pairs g.C.Chunk.IsSound c.args.key c.args.self.now.slots.items c.args.i c.in_ok-front-2.front c.in_ok-back.back c.requires.place c.in_ok-back.ensures.right
          (g.met.C.Chunk.ascends (arc_value c.in_ok-back.back.chunk) c.in_ok-back.ensures.right.sound) w.if-back-key.false)
    ])
