use Rattle.coverage_moc.proofs.WrittenLemmas.{from_there}
use Rattle.coverage_moc.proofs.written.behind_headers.Goals as goal

pub returns : goal.returns
returns c = from_there c.args.file.now c.min.result c.min.ensures
