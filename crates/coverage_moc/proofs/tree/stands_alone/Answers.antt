use Rattle.std.proofs.Common.{arith}
use Rattle.coverage_moc.proofs.CoverLemmas.{parent_of_order}
use Rattle.coverage_moc.proofs.tree.stands_alone.Goals as goal

pub covers-requires-clause-cell : goal.covers-requires-clause-cell
covers-requires-clause-cell c = parent_of_order c.args.order c.args.npix (omega arith) c.requires.cell
