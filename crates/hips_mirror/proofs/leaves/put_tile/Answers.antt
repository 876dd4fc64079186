use Rattle.std.proofs.Common.{◌≡◌, ap, ◌∙◌, rules}
use Rattle.std.specs.Arc.{arc_value}
use Rattle.leaf_store.specs.Store.{with_value}
use Rattle.shelf_io.proofs.LeafLemmas.{put_last}
use Rattle.hips_mirror.proofs.leaves.put_tile.Goals as goal

pub returns-clause-put : goal.returns-clause-put
returns-clause-put c =
    let same : arc_value c.in_ok-new.field-0 ≡ c.args.tile = search rules in
    c.in_ok-put.ensures.put ∙ ap (λ tile. with_value c.args.leaf tile c.args.tiles.now) same ∙ put_last c.args.leaf c.args.tile c.args.tiles.now c.requires
