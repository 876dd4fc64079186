use Rattle.std.proofs.Common.{◌≤◌, ap, ◌∙◌, sym, arith, slice_get}
use Rattle.std.specs.Arc.{arc_value}
use Rattle.generation.specs.Files.{leaf_map}
use Rattle.generation.proofs.Paths.{cell_found, no_cell}
use Rattle.generation.proofs.pyramid.Pyramid.cell_of.Goals as goal

pub returns-in-Some-at : goal.returns-in-Some-at
returns-in-Some-at c =
    let top : c.args.self.now.shape.top ≤ 11 = c.in-Some.ensures.shape.greatest_top in
    let high : c.args.order ≤ c.args.self.now.shape.top = c.requires.high in
    cell_found c.args.self.now.shape (leaf_map c.args.self.now.leaves) c.args.order c.args.i c.in-Some-at.npix (arc_value c.in-Some-at.field-0-1.now) c.new.result (omega arith)
    (sym (c.in-Some-at.ensures.pair ∙ ap (λ tiles. slice_get tiles c.args.i) c.in-Some.ensures.tiles.2)) c.new.ensures.known.1 c.new.ensures.cell

pub returns-in-None-at : goal.returns-in-None-at
returns-in-None-at c =
    no_cell c.args.self.now.shape (leaf_map c.args.self.now.leaves) c.args.order c.args.i (sym (c.in-None-at.ensures.pair ∙ ap (λ tiles. slice_get tiles c.args.i) c.in-Some.ensures.tiles.2))
