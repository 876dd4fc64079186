use Rattle.std.proofs.Common.{◌≡◌, ◌+◌, ◌<◌, ◌≤◌, ◌^◌, length, get_or, set, sym, ◌∙◌, ap, arith}
use Rattle.std.specs.Prelude.{option_map}
use Rattle.std.specs.Arc.{arc_value}
use Rattle.std.proofs.Common.{Global}
use Rattle.std.proofs.lemmas.Result.{IfOk-weaker, on_ok_weaker, on_err_weaker}
use Rattle.leaf_store.specs.Store.{IsAscending, value_at, with_value}
use Rattle.leaf_store.specs.Chunks.{slot_pairs, slot_places, level_pairs, slots_pairs}
use Rattle.leaf_store.proofs.Changed.{ascending-with}
use Rattle.leaf_store.proofs.Chunked.{value_at_place, with_at_place, same_at_place}
use Rattle.leaf_store.proofs.Cuts.{part_fits, set_sound, either_ascends}
use Rattle.leaf_store.proofs.level.LevelChanging.put.Goals as goal

pub put-requires-clause-fits : goal.put-requires-clause-fits
put-requires-clause-fits g c =
    let part : length (slot_pairs g.C.Chunk.pairs c.index_mut-slot.result.now) ≤ length (level_pairs g.C.Chunk.pairs c.make_room.new.self) =
    part_fits g.C.Chunk.pairs g.C.Chunk.IsSound c.make_room.new.self.slots.items c.in_ok-i.i c.index_mut-slot.result.now c.in_ok-i.ensures.place.bound c.index_mut-slot.ensures.value in
    let same : length (level_pairs g.C.Chunk.pairs c.make_room.new.self) ≡ length (level_pairs g.C.Chunk.pairs c.args.self.now) = ap length c.in_ok-i.ensures.same in
    let fits : length (level_pairs g.C.Chunk.pairs c.args.self.now) + 1 < 2 ^ 64 = c.requires.fits in
    omega arith

pub returns-clause-old : goal.returns-clause-old
returns-clause-old g c =
    let there : value_at c.args.key (slot_pairs g.C.Chunk.pairs c.index_mut-slot.result.now) ≡ value_at c.args.key (level_pairs g.C.Chunk.pairs c.args.self.now) =
    ap (λ slot. value_at c.args.key (slot_pairs g.C.Chunk.pairs slot)) c.index_mut-slot.ensures.value
    ∙ sym (value_at_place g.C.Chunk.pairs c.args.key c.make_room.new.self.slots.items c.in_ok-i.i c.index_mut-slot.result.now c.in_ok-i.ensures.place)
    ∙ ap (value_at c.args.key) c.in_ok-i.ensures.same in
    IfOk-weaker c.put.result
    (λ old. option_map (arc_value {X = g.row.C-Value.Denot} {Z = Global}) old ≡ value_at c.args.key (slot_pairs g.C.Chunk.pairs c.index_mut-slot.result.now))
    (λ old. option_map (arc_value {X = g.row.C-Value.Denot} {Z = Global}) old ≡ value_at c.args.key (level_pairs g.C.Chunk.pairs c.args.self.now))
    (λ old e. e ∙ there) c.put.ensures.old

pub returns-clause-put : goal.returns-clause-put
returns-clause-put g c = on_ok_weaker c.put.result
    (λ e. with_at_place g.C.Chunk.pairs c.args.key (arc_value c.args.value) c.make_room.new.self.slots.items c.in_ok-i.i c.index_mut-slot.result.now c.put.new.self c.in_ok-i.ensures.place
    (e ∙ ap (λ slot. with_value c.args.key (arc_value c.args.value) (slot_pairs g.C.Chunk.pairs slot)) c.index_mut-slot.ensures.value)
    ∙ ap (with_value c.args.key (arc_value c.args.value)) c.in_ok-i.ensures.same)
    c.put.ensures.put

pub returns-clause-refused : goal.returns-clause-refused
returns-clause-refused g c = on_err_weaker c.put.result
    (λ e. same_at_place g.C.Chunk.pairs c.make_room.new.self.slots.items c.in_ok-i.i c.index_mut-slot.result.now c.put.new.self c.in_ok-i.ensures.place.bound
    (e ∙ ap (slot_pairs g.C.Chunk.pairs) c.index_mut-slot.ensures.value) ∙ c.in_ok-i.ensures.same)
    c.put.ensures.refused

pub returns-clause-sound : goal.returns-clause-sound
returns-clause-sound g c =
    let room : slot_places g.C.Chunk.places (get_or c.make_room.new.self.slots.items c.in_ok-i.i c.index_mut-slot.result.now) < 64 = c.in_ok-i.ensures.room c.index_mut-slot.result.now in
    let is : slot_places g.C.Chunk.places c.index_mut-slot.result.now ≡ slot_places g.C.Chunk.places (get_or c.make_room.new.self.slots.items c.in_ok-i.i c.index_mut-slot.result.now) = ap (slot_places g.C.Chunk.places) c.index_mut-slot.ensures.value in
    let more : slot_places g.C.Chunk.places c.put.new.self ≤ slot_places g.C.Chunk.places c.index_mut-slot.result.now + 1 = c.put.ensures.places in
    let small : slot_places g.C.Chunk.places c.put.new.self ≤ 64 = omega arith in
    let ascends : IsAscending (slots_pairs g.C.Chunk.pairs (set c.make_room.new.self.slots.items c.in_ok-i.i c.put.new.self)) =
    either_ascends c.put.result (slots_pairs g.C.Chunk.pairs (set c.make_room.new.self.slots.items c.in_ok-i.i c.put.new.self)) (with_value c.args.key (arc_value c.args.value) (level_pairs g.C.Chunk.pairs c.args.self.now)) (level_pairs g.C.Chunk.pairs c.args.self.now)
    (returns-clause-put g c) (returns-clause-refused g c) (ascending-with c.args.key (arc_value c.args.value) (level_pairs g.C.Chunk.pairs c.args.self.now) c.requires.sound.ascending) c.requires.sound.ascending in
    set_sound g.C.Chunk.pairs g.C.Chunk.IsSound g.C.Chunk.places c.make_room.new.self.slots.items c.in_ok-i.i c.put.new.self c.index_mut-slot.result.now c.in_ok-i.ensures.place.bound c.in_ok-i.ensures.sound c.put.ensures.right small ascends
