use Rattle.std.proofs.Common.{List, take, drop, ◌∙◌, ap, subst}
use Rattle.std.specs.List.{AllZip}
use Rattle.leaf_store.specs.declared.slot.Slot.{Slot}
use Rattle.leaf_store.proofs.Cuts.{IsSame, halves_pairs, halves_some, halves_sound}
use Rattle.leaf_store.proofs.level.LevelChanging.halves.Goals as goal

pub returns-clause-pairs : goal.returns-clause-pairs
returns-clause-pairs g c =
    let P : List (Slot g.row.C.Denot) → Type 0 = λ l. AllZip IsSame l c.in_ok-front.front.items in
    let Q : List (Slot g.row.C.Denot) → Type 0 = λ l. AllZip IsSame l c.in_ok-back.back.items in
    let front : AllZip IsSame (take c.args.middle c.args.self.now.slots.items) c.in_ok-front.front.items = subst P (c.split_at.ensures.front ∙ ap (take c.args.middle) c.deref.ensures.value) c.in_ok-front.ensures.items in
    let back : AllZip IsSame (drop c.args.middle c.args.self.now.slots.items) c.in_ok-back.back.items = subst Q (c.split_at.ensures.back ∙ ap (drop c.args.middle) c.deref.ensures.value) c.in_ok-back.ensures.items in
    halves_pairs g.C.Chunk.pairs g.C.Chunk.IsSound c.args.self.now.slots.items c.args.middle c.in_ok-front.front.items c.in_ok-back.back.items front back

pub returns-clause-some : goal.returns-clause-some
returns-clause-some g c =
    let P : List (Slot g.row.C.Denot) → Type 0 = λ l. AllZip IsSame l c.in_ok-front.front.items in
    let Q : List (Slot g.row.C.Denot) → Type 0 = λ l. AllZip IsSame l c.in_ok-back.back.items in
    let front : AllZip IsSame (take c.args.middle c.args.self.now.slots.items) c.in_ok-front.front.items = subst P (c.split_at.ensures.front ∙ ap (take c.args.middle) c.deref.ensures.value) c.in_ok-front.ensures.items in
    let back : AllZip IsSame (drop c.args.middle c.args.self.now.slots.items) c.in_ok-back.back.items = subst Q (c.split_at.ensures.back ∙ ap (drop c.args.middle) c.deref.ensures.value) c.in_ok-back.ensures.items in
    halves_some g.C.Chunk.pairs g.C.Chunk.IsSound g.C.Chunk.places c.args.self.now.slots.items c.args.middle c.in_ok-front.front.items c.in_ok-back.back.items front back c.requires.sound c.requires.front c.requires.back

pub returns-clause-sound : goal.returns-clause-sound
returns-clause-sound g c =
    let P : List (Slot g.row.C.Denot) → Type 0 = λ l. AllZip IsSame l c.in_ok-front.front.items in
    let Q : List (Slot g.row.C.Denot) → Type 0 = λ l. AllZip IsSame l c.in_ok-back.back.items in
    let front : AllZip IsSame (take c.args.middle c.args.self.now.slots.items) c.in_ok-front.front.items = subst P (c.split_at.ensures.front ∙ ap (take c.args.middle) c.deref.ensures.value) c.in_ok-front.ensures.items in
    let back : AllZip IsSame (drop c.args.middle c.args.self.now.slots.items) c.in_ok-back.back.items = subst Q (c.split_at.ensures.back ∙ ap (drop c.args.middle) c.deref.ensures.value) c.in_ok-back.ensures.items in
    halves_sound g.C.Chunk.pairs g.C.Chunk.IsSound g.C.Chunk.places c.args.self.now.slots.items c.args.middle c.in_ok-front.front.items c.in_ok-back.back.items front back c.requires.sound
