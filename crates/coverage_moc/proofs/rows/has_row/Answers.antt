use Rattle.std.proofs.Common.{◌∙◌}
use Rattle.coverage_moc.proofs.RowLemmas.{found}
use Rattle.coverage_moc.proofs.rows.has_row.Goals as goal

pub returns : goal.returns
returns c = c.is_ok.ensures.value ∙ found c.args.rows.now c.args.row c.binary_search.result c.requires c.binary_search.ensures.position
