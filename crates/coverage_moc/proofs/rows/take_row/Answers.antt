use Rattle.std.proofs.Common.{◌∙◌, ◌<◌, ℕ, List, length, sym, ap, subst, nat_cmp, is_ok}
use Rattle.std.specs.List.Sorted.{IsBinarySearchResult}
use Rattle.coverage_moc.specs.Cover.{has, IsAscending}
use Rattle.coverage_moc.proofs.RowLemmas.{found, take-ascending, take-members, take_none}
use Rattle.coverage_moc.proofs.rows.take_row.Goals as goal

pub returns-in-Ok-clause-was : goal.returns-in-Ok-clause-was
returns-in-Ok-clause-was c =
    let at = subst (λ zs. IsBinarySearchResult (λ y. nat_cmp y c.args.row) zs c.binary_search.result) c.deref.ensures.value c.binary_search.ensures.position in
    ap is_ok (sym c.in-Ok.is) ∙ found c.args.rows.now.items c.args.row c.binary_search.result c.requires at

pub returns-in-Ok-clause-ascending : goal.returns-in-Ok-clause-ascending
returns-in-Ok-clause-ascending c =
    let within : c.in-Ok.place < length c.args.rows.now.items = subst (λ (zs : List ℕ). c.in-Ok.place < length zs) c.deref.ensures.value c.in-Ok.ensures.bound in
    subst IsAscending (sym c.remove.ensures.items) (take-ascending c.args.rows.now.items c.in-Ok.place within c.requires)

pub returns-in-Ok-clause-taken : goal.returns-in-Ok-clause-taken
returns-in-Ok-clause-taken c =
    let at = subst (λ zs. IsBinarySearchResult (λ y. nat_cmp y c.args.row) zs c.binary_search.result) c.deref.ensures.value c.binary_search.ensures.position in
    λ x. ap (λ (zs : List ℕ). has zs x) c.remove.ensures.items
    ∙ take-members c.args.rows.now.items c.args.row c.in-Ok.place c.binary_search.result c.in-Ok.is c.requires at x

pub returns-in-Err-clause-was : goal.returns-in-Err-clause-was
returns-in-Err-clause-was c =
    let at = subst (λ zs. IsBinarySearchResult (λ y. nat_cmp y c.args.row) zs c.binary_search.result) c.deref.ensures.value c.binary_search.ensures.position in
    ap is_ok (sym c.in-Err.is) ∙ found c.args.rows.now.items c.args.row c.binary_search.result c.requires at

pub returns-in-Err-clause-taken : goal.returns-in-Err-clause-taken
returns-in-Err-clause-taken c =
    let at = subst (λ zs. IsBinarySearchResult (λ y. nat_cmp y c.args.row) zs c.binary_search.result) c.deref.ensures.value c.binary_search.ensures.position in
    take_none c.args.rows.now.items c.args.row c.in-Err._place c.binary_search.result c.in-Err.is c.requires at
