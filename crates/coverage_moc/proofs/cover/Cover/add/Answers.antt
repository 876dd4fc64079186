use Rattle.coverage_moc.proofs.TreeLemmas.{is_cover}
use Rattle.coverage_moc.proofs.cover.Cover.add.Goals as goal

pub of_rows-requires-clause-rows : goal.of_rows-requires-clause-rows
of_rows-requires-clause-rows c = is_cover c.args.top c.in_ok-rows.rows.items _ c.in_ok-rows.ensures
