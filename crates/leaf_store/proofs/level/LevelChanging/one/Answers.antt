use Rattle.std.proofs.Common.{◌≡◌, List, [], ◌∷◌, ◌++◌, sym, ◌∙◌, ap, subst}
use Rattle.std.specs.Arc.{arc_value}
use Rattle.leaf_store.specs.declared.slot.Slot.{Slot}
use Rattle.leaf_store.specs.Chunks.{AreSlots}
use Rattle.leaf_store.proofs.Cuts.{one_slots}
use Rattle.leaf_store.proofs.level.LevelChanging.one.Goals as goal

pub returns-clause-sound : goal.returns-clause-sound
returns-clause-sound g c =
    let P : List (Slot g.row.C.Denot) → Type 0 = λ l. AreSlots g.C.Chunk.pairs g.C.Chunk.places g.C.Chunk.IsSound l in
    let items : c.push.new.self.items ≡ c.in_ok-one.field-0 ∷ [] = c.in_ok-push.ensures.items ∙ ap (λ l. l ++ c.in_ok-one.field-0 ∷ []) c.new-slots.ensures.items in
    subst P (sym items) (one_slots g.C.Chunk.pairs g.C.Chunk.IsSound g.C.Chunk.places c.in_ok-one.field-0 c.args.key (arc_value c.args.value) c.in_ok-one.ensures.right c.in_ok-one.ensures.places c.in_ok-one.ensures.pairs)
