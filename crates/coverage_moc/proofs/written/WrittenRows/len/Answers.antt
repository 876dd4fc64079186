use Rattle.std.proofs.Common.{◌∙◌, length, sym, ap}
use Rattle.coverage_moc.proofs.WrittenLemmas.{length-numbers}
use Rattle.coverage_moc.proofs.written.WrittenRows.len.Goals as goal

pub returns : goal.returns
returns c = sym (ap length (sym c.self.view_is) ∙ length-numbers c.self.inside.bytes.now)
