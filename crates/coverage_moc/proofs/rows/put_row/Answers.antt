use Rattle.std.proofs.Common.{◌∙◌, ℕ, List, sym, ap, subst, nat_cmp}
use Rattle.std.specs.List.Sorted.{IsBinarySearchResult}
use Rattle.coverage_moc.specs.Cover.{has, IsAscending}
use Rattle.coverage_moc.proofs.RowLemmas.{put-ascending, put-members, put_again}
use Rattle.coverage_moc.proofs.rows.put_row.Goals as goal

pub returns-in-Ok-clause-put : goal.returns-in-Ok-clause-put
returns-in-Ok-clause-put c =
    let at = subst (λ zs. IsBinarySearchResult (λ y. nat_cmp y c.args.row) zs c.binary_search.result) c.deref.ensures.value c.binary_search.ensures.position in
    put_again c.args.rows.now.items c.args.row c.in-Ok._place c.binary_search.result c.in-Ok.is c.requires at

pub returns-in_ok-insert-in-Err-clause-ascending : goal.returns-in_ok-insert-in-Err-clause-ascending
returns-in_ok-insert-in-Err-clause-ascending c =
    let at = subst (λ zs. IsBinarySearchResult (λ y. nat_cmp y c.args.row) zs c.binary_search.result) c.deref.ensures.value c.binary_search.ensures.position in
    subst IsAscending (sym c.in_ok-insert-in-Err.ensures.items)
    (put-ascending c.args.rows.now.items c.args.row c.in-Err.place c.binary_search.result c.in-Err.is c.requires at)

pub returns-in_ok-insert-in-Err-clause-put : goal.returns-in_ok-insert-in-Err-clause-put
returns-in_ok-insert-in-Err-clause-put c = λ x.
    ap (λ (zs : List ℕ). has zs x) c.in_ok-insert-in-Err.ensures.items
    ∙ put-members c.args.rows.now.items c.args.row c.in-Err.place x
