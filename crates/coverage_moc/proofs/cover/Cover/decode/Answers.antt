use Rattle.std.proofs.Common.{◌∙◌, sym, subst, IfOk, true≢false}
use Rattle.coverage_moc.proofs.TreeLemmas.{is_cover}
use Rattle.coverage_moc.proofs.cover.Cover.decode.Goals as goal

pub of_rows-requires-clause-rows : goal.of_rows-requires-clause-rows
of_rows-requires-clause-rows c =
    let file = c.is_cover_file-is_cover.ensures.0 c.if-not-is_cover.false in
    is_cover c.args.top c.in_ok-rows.rows.items file.0 (c.in_ok-rows.ensures file.0 file.1)
