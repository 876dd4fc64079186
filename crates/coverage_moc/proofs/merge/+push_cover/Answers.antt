use Rattle.std.proofs.Common.{◌∙◌, ◌-◌, ◌<◌, ◌++◌, ℕ, List, All, sym, ap, subst, arith, append_assoc}
use Rattle.std.proofs.lemmas.Result.{IfOk-equal}
use Rattle.healpix_nested.specs.Cells.{cell_count}
use Rattle.coverage_moc.specs.Cover.{IsAscending, cover}
use Rattle.coverage_moc.proofs.MergeLemmas.{own_rows, found_above, up-found, found_below, cover_by_orders, cover_of_first}
use Rattle.coverage_moc.proofs.merge.+push_cover.Goals as goal

pub push_cover-requires : goal.push_cover-requires
push_cover-requires t c =
    let some : 0 < c.args.order = omega arith in
    let found = c.deref.ensures.value ∙ c.in_ok-above.ensures in (
      omega arith,
      (
        omega arith,
        (
          subst IsAscending (sym found) (up-found c.args.order c.args.full.now some c.requires.ascending c.requires.cells),
          subst (λ (zs : List ℕ). All (λ p. p < cell_count (c.args.order - 1)) zs) (sym found) (found_below c.args.order c.args.full.now some c.requires.ascending c.requires.cells),
        ),
      ),
    )

pub returns-then-order-eq0 : goal.returns-then-order-eq0
returns-then-order-eq0 t c =
    IfOk-equal c.push_rows.result c.push_rows.new.rows.items (c.args.rows.now.items ++ own_rows c.args.order c.args.full.now) (c.args.rows.now.items ++ cover c.args.order c.args.full.now) c.push_rows.ensures
    (ap (λ zs. c.args.rows.now.items ++ zs) (cover_of_first c.args.order c.args.full.now c.if-order-eq0.true c.requires.ascending c.requires.cells))

pub returns : goal.returns
returns t c =
    let some : 0 < c.args.order = omega arith in
    let found = c.deref.ensures.value ∙ c.in_ok-above.ensures in
    let low = c.in_ok-push_cover.ensures ∙ ap (λ (zs : List ℕ). c.args.rows.now.items ++ cover (c.args.order - 1) zs) found in
    IfOk-equal c.push_rows-2.result c.push_rows-2.new.rows.items (c.push_cover.new.rows.items ++ own_rows c.args.order c.args.full.now) (c.args.rows.now.items ++ cover c.args.order c.args.full.now) c.push_rows-2.ensures
    (ap (λ zs. zs ++ own_rows c.args.order c.args.full.now) low
    ∙ append_assoc c.args.rows.now.items (cover (c.args.order - 1) (found_above c.args.full.now)) (own_rows c.args.order c.args.full.now)
    ∙ ap (λ zs. c.args.rows.now.items ++ zs) (cover_by_orders c.args.order c.args.full.now some c.requires.ascending c.requires.cells))
