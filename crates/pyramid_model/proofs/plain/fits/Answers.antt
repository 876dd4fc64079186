use Rattle.pyramid_model.proofs.FitLemmas.{fits_from_leaves, each_leaf}
use Rattle.pyramid_model.proofs.plain.fits.Goals as goal

pub returns : goal.returns
returns c = (
  λ holds. fits_from_leaves c.args.shape.now c.args.leaves.now.entries c.each_is_leaf.ensures.ordered (c.each_is_leaf.ensures.leaves.0 holds),
  λ fits. c.each_is_leaf.ensures.leaves.1 (each_leaf c.args.shape.now c.args.leaves.now.entries fits.cells fits.lengths fits.numbers),
)
