use Rattle.std.proofs.Common.{◌∙◌, String, Global}
use Rattle.std.specs.Map.Iter.{deref}
use Rattle.std.proofs.lemmas.Map.Iter.{iter_end}
use Rattle.memory_link.proofs.Paths.{paths_listed}
use Rattle.memory_link.proofs.mem_shelf.paths.Goals as goal

pub returns : goal.returns
returns c =
    let whole = iter_end (deref {X = String Global}) _ c.loop-path.yielded _ _ _ _ (c.into_iter-path-iterator.ensures.into_iter_gives ∙ c.keys-path-items.ensures.rest) c.loop-path.yielded_by c.in-None.is c.next.ensures.steps in
    c.loop-path.invariant ∙ paths_listed c.loop-path.yielded c.args.files.now c.requires whole.0
