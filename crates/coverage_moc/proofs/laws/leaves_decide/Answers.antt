use Rattle.coverage_moc.proofs.TreeLemmas.{cover-same}
use Rattle.coverage_moc.proofs.laws.leaves_decide.Goals as goal

pub returns : goal.returns
returns c = cover-same
