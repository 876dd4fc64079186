use Rattle.std.proofs.Common.{◌∙◌, refl, sym, ap₂, arith, true≢false, leb-true}
use Rattle.coverage_moc.specs.Rows.{is_alone}
use Rattle.coverage_moc.proofs.CanonLemmas.{maximal_test, not_maximal, no_cell}
use Rattle.coverage_moc.proofs.tree.is_maximal.Goals as goal

pub returns-then-order-top : goal.returns-then-order-top
returns-then-order-top c =
    let order = c.order.ensures.order in
    maximal_test c.args.top c.args.rows.now c.args.row c.in-Some.cell.order c.in-Some.cell.npix c.stands_alone.result c.requires.top c.npix.ensures.known (omega arith) c.in-Some.ensures.cell
    (c.stands_alone.ensures ∙ ap₂ (is_alone c.args.rows.now) c.order-then-order-top.ensures.order c.npix.ensures.npix)

pub returns-else-order-top : goal.returns-else-order-top
returns-else-order-top c =
    let order = c.order.ensures.order in (
      λ h. let within = leb-true c.order.result c.args.top h in absurd (omega arith),
      λ m. absurd (not_maximal c.args.top c.args.rows.now c.args.row c.in-Some.cell.order c.in-Some.cell.npix c.requires.top c.order.ensures.known (omega arith) c.in-Some.ensures.cell m),
    )

pub returns-in-None : goal.returns-in-None
returns-in-None c = (λ h. absurd (true≢false (sym h)), λ m. absurd (no_cell c.args.top c.args.rows.now c.args.row c.requires.top (c.in-None.ensures.none refl) m))
