use Rattle.std.proofs.Common.{sym}
use Rattle.std.proofs.lemmas.List.Elements.{length_all_zip}
use Rattle.leaf_store.proofs.Cuts.{IsSame, same_pairs, same_slots}
use Rattle.leaf_store.proofs.level.LevelClone.clone.Goals as goal

pub returns : goal.returns
returns g c = record {
  cases = (
    same_pairs g.C.Chunk.pairs g.C.Chunk.IsSound c.args.self.now.slots.items c.in_ok-clone.field-0.items c.in_ok-clone.ensures.cases.0,
    sym (length_all_zip IsSame c.args.self.now.slots.items c.in_ok-clone.field-0.items c.in_ok-clone.ensures.cases.0),
    λ sound. same_slots g.C.Chunk.pairs g.C.Chunk.IsSound g.C.Chunk.places c.args.self.now.slots.items c.in_ok-clone.field-0.items c.in_ok-clone.ensures.cases.0 sound,
  );
}
