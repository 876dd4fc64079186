use Rattle.std.proofs.Common.{◌∷◌, ◌<◌, take, ap, ◌∙◌, arith}
use Rattle.std.proofs.lemmas.List.Elements.{All-tail}
use Rattle.healpix_nested.specs.Cells.{cell_count}
use Rattle.coverage_moc.specs.Cover.{cover}
use Rattle.generation.specs.Presence.{all_as_in}
use Rattle.generation.proofs.Presence.{one_more_in}
use Rattle.generation.proofs.coverage.stepwise.Goals as goal

pub step-requires-in-loop-leaf-clause-cell : goal.step-requires-in-loop-leaf-clause-cell
step-requires-in-loop-leaf-clause-cell c = All-tail (λ leaf. leaf < cell_count c.args.top) c.args.first c.args.rest.now c.requires.cells c.loop-leaf.leaf-index 0 (omega arith)

pub loop-leaf-preserved : goal.loop-leaf-preserved
loop-leaf-preserved c = record {
  top = c.in_ok-made-2.ensures.top;
  rows = λ there is.
      c.in_ok-made-2.ensures.rows (all_as_in c.args.leaves.now there (c.args.first ∷ take c.loop-leaf.leaf-index c.args.rest.now)) (c.loop-leaf.invariant.rows there is)
      ∙ ap (cover c.args.top) (one_more_in c.args.leaves.now there c.args.rest.now c.args.first c.loop-leaf.leaf-index (omega arith));
}
