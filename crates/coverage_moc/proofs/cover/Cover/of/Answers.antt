use Rattle.std.proofs.Common.{◌∙◌, ◌++◌, sym, ap, subst}
use Rattle.coverage_moc.specs.Cover.{IsAscending, cover}
use Rattle.coverage_moc.proofs.TreeLemmas.{is_cover}
use Rattle.coverage_moc.proofs.cover.Cover.of.Goals as goal

pub push_cover-requires-clause-ascending : goal.push_cover-requires-clause-ascending
push_cover-requires-clause-ascending c = subst IsAscending (sym (c.deref.ensures.value ∙ c.in_ok-full.ensures.keys)) c.in_ok-full.ensures.ascending

pub of_rows-requires-clause-rows : goal.of_rows-requires-clause-rows
of_rows-requires-clause-rows c =
    is_cover c.args.top c.push_cover.new.rows.items c.deref.result.now (c.in_ok-push_cover.ensures ∙ ap (λ rows. rows ++ cover c.args.top c.deref.result.now) c.new-rows.ensures.items)
