use Rattle.std.proofs.Common.{◌≡◌, sym, ap, rules}
use Rattle.leaf_probe.proofs.MergingLemmas.{merged_is, shows_children}
use Rattle.leaf_probe.proofs.merging.merge_cell.Goals as goal

pub returns-clause-shape : goal.returns-clause-shape
returns-clause-shape c = search rules

pub returns-clause-tile : goal.returns-clause-tile
returns-clause-tile c = λ leaves order above deep level under.
    let depth_is : c.args.shape.now.depth ≡ c.shape.inside.depth = ap (λ s. s.depth) (sym c.shape.view_is) in
    let n_is : c.args.shape.now.n ≡ c.shape.inside.n = ap (λ s. s.n) (sym c.shape.view_is) in
    merged_is c.args.shape.now leaves c.args.level c.args.npix c.merge.result (returns-clause-shape c)
    (c.merge.ensures.pixels c.args.shape.now leaves c.args.level c.args.npix depth_is n_is c.requires.level
    (shows_children c.args.shape.now leaves order above c.args.level c.args.npix c.args.children.now.entries c.get-c0.result c.get-c1.result c.get-c2.result c.get-c3.result
    deep under level c.get-c0.ensures.value c.get-c1.ensures.value c.get-c2.ensures.value c.get-c3.ensures.value))
