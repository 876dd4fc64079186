use Rattle.std.proofs.Common.{◌≡◌, ℕ, suc, ◌+◌, ◌-◌, ◌/◌, ◌^◌, ◌<◌, ◌≤◌, refl, ap, ◌∙◌, arith}
use Rattle.std.proofs.lemmas.Option.{slice_get_within}
use Rattle.hips_catalog.specs.Held.{held}
use Rattle.hips_catalog.specs.Tiles.{rows_at}
use Rattle.hips_catalog.proofs.Sunk.{begin_with, at_cell, next_order}
use Rattle.hips_catalog.proofs.Found.{starts, located, seek_on, not_there, at_top, located_top}
use Rattle.hips_catalog.proofs.rise.locate.Goals as goal

top_is : (order top : ℕ) → order ≤ top → top ≤ order → top ≡ order
top_is order top a b = omega (arith, a, b)

below : (order top k : ℕ) → k ≡ order → order < top → k < top
below order top k e h = omega (arith, e, h)

after : (k order : ℕ) → k ≡ order → order + 1 ≡ suc k
after k order e = omega (arith, e)

pub loop-order-init : goal.loop-order-init
loop-order-init c = record { seeking = λ n few many t d. begin_with c.args.top n few many (λ j q. held c.args.top n few j q) c.args.row.now (λ j q. refl) d.more }

pub returns-then-is_there : goal.returns-then-is_there
returns-then-is_there c n few many t d =
    let yes = c.seek-i.ensures.yes c.if-is_there.true in
    let s = (at_cell c.args.top n few many (λ j q. held c.args.top n few j q) c.loop-order.order (c.args.row.now.npix / 4 ^ (c.args.top - c.loop-order.order)) c.cell_of-cell.result.order c.cell_of-cell.result.npix c.args.row.now c.cell_of-cell.ensures.order c.cell_of-cell.ensures.npix (c.loop-order.invariant.seeking n few many t d)) in
    starts c.args.top n few many (λ k p. rows_at c.args.tiles.now k p) c.cell_of-cell.result.order c.cell_of-cell.result.npix c.seek-i.result.0 c.args.row.now t s (slice_get_within (rows_at c.args.tiles.now c.cell_of-cell.result.order c.cell_of-cell.result.npix) c.seek-i.result.0 yes.0 yes.1)
    (located c.args.top n few many (rows_at c.args.tiles.now c.cell_of-cell.result.order c.cell_of-cell.result.npix) c.cell_of-cell.result.order c.cell_of-cell.result.npix c.seek-i.result.0 c.args.row.now yes.0 (below c.loop-order.order c.args.top c.cell_of-cell.result.order c.cell_of-cell.ensures.order c.loop-order-test.true) d.ordered s.more (t c.cell_of-cell.result.order c.cell_of-cell.result.npix) yes.1 yes.2 yes.3)

pub loop-order-preserved : goal.loop-order-preserved
loop-order-preserved c = record {
  seeking = λ n few many t d.
      next_order c.args.top n few many (λ j q. held c.args.top n few j q) c.cell_of-cell.result.order (c.loop-order.order + 1) c.args.row.now (after c.cell_of-cell.result.order c.loop-order.order c.cell_of-cell.ensures.order)
      (seek_on c.args.top n few many c.cell_of-cell.result.order c.cell_of-cell.result.npix c.args.row.now (below c.loop-order.order c.args.top c.cell_of-cell.result.order c.cell_of-cell.ensures.order c.loop-order-test.true) d.ordered (at_cell c.args.top n few many (λ j q. held c.args.top n few j q) c.loop-order.order (c.args.row.now.npix / 4 ^ (c.args.top - c.loop-order.order)) c.cell_of-cell.result.order c.cell_of-cell.result.npix c.args.row.now c.cell_of-cell.ensures.order c.cell_of-cell.ensures.npix (c.loop-order.invariant.seeking n few many t d))
      (not_there c.args.top n many (rows_at c.args.tiles.now c.cell_of-cell.result.order c.cell_of-cell.result.npix) c.cell_of-cell.result.order c.cell_of-cell.result.npix c.seek-i.result.0 c.args.row.now d.ordered (t c.cell_of-cell.result.order c.cell_of-cell.result.npix) c.seek-i.ensures.place (c.seek-i.ensures.no c.if-is_there.false)));
}

pub returns : goal.returns
returns c n few many t d =
    let s = (at_cell c.args.top n few many (λ j q. held c.args.top n few j q) c.loop-order.order (c.args.row.now.npix / 4 ^ (c.args.top - c.loop-order.order)) c.cell_of-cell-2.result.order c.cell_of-cell-2.result.npix c.args.row.now (c.cell_of-cell-2.ensures.order ∙ top_is c.loop-order.order c.args.top c.loop-order.auto.order-end c.loop-order-test.false) (c.cell_of-cell-2.ensures.npix ∙ ap (λ (m : ℕ). c.args.row.now.npix / 4 ^ (c.args.top - m)) (top_is c.loop-order.order c.args.top c.loop-order.auto.order-end c.loop-order-test.false)) (c.loop-order.invariant.seeking n few many t d)) in
    let e = at_top c.args.top n few many (rows_at c.args.tiles.now c.cell_of-cell-2.result.order c.cell_of-cell-2.result.npix) c.cell_of-cell-2.result.order c.cell_of-cell-2.result.npix c.seek-i-2.result.0 c.args.row.now c.cell_of-cell-2.ensures.order d.ordered s.more (t c.cell_of-cell-2.result.order c.cell_of-cell-2.result.npix) c.seek-i-2.ensures.place in
    starts c.args.top n few many (λ k p. rows_at c.args.tiles.now k p) c.cell_of-cell-2.result.order c.cell_of-cell-2.result.npix c.seek-i-2.result.0 c.args.row.now t s (slice_get_within (rows_at c.args.tiles.now c.cell_of-cell-2.result.order c.cell_of-cell-2.result.npix) c.seek-i-2.result.0 c.args.row.now e)
    (located_top c.args.top n many (rows_at c.args.tiles.now c.cell_of-cell-2.result.order c.cell_of-cell-2.result.npix) c.cell_of-cell-2.result.order c.cell_of-cell-2.result.npix c.seek-i-2.result.0 c.args.row.now (t c.cell_of-cell-2.result.order c.cell_of-cell-2.result.npix) e)
