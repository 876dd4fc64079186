use Rattle.std.proofs.Common.{◌≡◌, ℕ, suc, ◌+◌, ◌-◌, ◌/◌, ◌^◌, ◌<◌, ◌≤◌, ap, ◌∙◌, arith, rules}
use Rattle.std.specs.Arc.{arc_value}
use Rattle.healpix_nested.specs.Cells.{IsCell}
use Rattle.hips_catalog.specs.Rows.{Source}
use Rattle.hips_catalog.specs.Tiles.{rows_at}
use Rattle.hips_catalog.proofs.OneMore.{more_has}
use Rattle.hips_catalog.proofs.Sunk.{begin, at_cell, first_ok, short_ok, goes_on, ends, ends_deepest, next_order}
use Rattle.hips_catalog.proofs.sink.sink.Goals as goal

top_is : (order top : ℕ) → order ≤ top → top ≤ order → top ≡ order
top_is order top a b = omega (arith, a, b)

below : (order top k : ℕ) → k ≡ order → order < top → k < top
below order top k e h = omega (arith, e, h)

fits : (ss : ℕ) → ss + 1 < 9223372036854775809 → ss + 1 < 18446744073709551616
fits ss h = omega (arith, h)

roomy : (ss : ℕ) → ss + 1 < 9223372036854775809 → ss ≤ 18446744073709551615
roomy ss h = omega (arith, h)

after : (k order : ℕ) → k ≡ order → order + 1 ≡ suc k
after k order e = omega (arith, e)

pub loop-order-init : goal.loop-order-init
loop-order-init c = record {
  listed = c.requires.listed;
  spare_left = search rules;
  full = λ h. h;
  cell = more_has (λ (s : Source). IsCell c.args.top s.npix) c.requires.tiles.3.more c.requires.tiles.3.of_cells;
  sinking = λ few many t d. begin c.args.top c.args.room few many c.args.tiles.now (arc_value c.args.row) t d.more;
}

pub offer-requires-clause-in_order : goal.offer-requires-clause-in_order
offer-requires-clause-in_order c =
    first_ok c.args.top c.args.room c.requires.tiles.0 c.requires.tiles.1 (λ k p. rows_at c.loop-order.tiles k p) c.cell_of-cell.result.order c.cell_of-cell.result.npix (arc_value c.loop-order.row) (arc_value c.args.row) (at_cell c.args.top c.args.room c.requires.tiles.0 c.requires.tiles.1 (λ k p. rows_at c.loop-order.tiles k p) c.loop-order.order ((arc_value c.loop-order.row).npix / 4 ^ (c.args.top - c.loop-order.order)) c.cell_of-cell.result.order c.cell_of-cell.result.npix (arc_value c.loop-order.row) c.cell_of-cell.ensures.order (c.cell_of-cell.ensures.npix ∙ ap (λ (r : Source). r.npix / 4 ^ (c.args.top - c.loop-order.order)) (c.row.ensures ∙ ap arc_value c.item.ensures)) (c.loop-order.invariant.sinking c.requires.tiles.0 c.requires.tiles.1 c.requires.tiles.2 c.requires.tiles.3)) c.requires.tiles.3 (arc_value c.loop-order.row)

pub offer-requires-clause-fits : goal.offer-requires-clause-fits
offer-requires-clause-fits c =
    fits _ (short_ok c.args.top c.args.room c.requires.tiles.0 c.requires.tiles.1 (λ k p. rows_at c.loop-order.tiles k p) c.cell_of-cell.result.order c.cell_of-cell.result.npix (arc_value c.args.row) (arc_value c.loop-order.row) (at_cell c.args.top c.args.room c.requires.tiles.0 c.requires.tiles.1 (λ k p. rows_at c.loop-order.tiles k p) c.loop-order.order ((arc_value c.loop-order.row).npix / 4 ^ (c.args.top - c.loop-order.order)) c.cell_of-cell.result.order c.cell_of-cell.result.npix (arc_value c.loop-order.row) c.cell_of-cell.ensures.order (c.cell_of-cell.ensures.npix ∙ ap (λ (r : Source). r.npix / 4 ^ (c.args.top - c.loop-order.order)) (c.row.ensures ∙ ap arc_value c.item.ensures)) (c.loop-order.invariant.sinking c.requires.tiles.0 c.requires.tiles.1 c.requires.tiles.2 c.requires.tiles.3)) c.requires.tiles.3)

pub returns-in-None-clause-tiles : goal.returns-in-None-clause-tiles
returns-in-None-clause-tiles c few many t d =
    ends c.args.top c.args.room few many (λ k p. rows_at c.loop-order.tiles k p) (λ k p. rows_at c.offer.new.tiles k p) c.cell_of-cell.result.order c.cell_of-cell.result.npix (arc_value c.loop-order.row) (arc_value c.args.row)
    (below c.loop-order.order c.args.top c.cell_of-cell.result.order c.cell_of-cell.ensures.order c.loop-order-test.true) d (at_cell c.args.top c.args.room few many (λ k p. rows_at c.loop-order.tiles k p) c.loop-order.order ((arc_value c.loop-order.row).npix / 4 ^ (c.args.top - c.loop-order.order)) c.cell_of-cell.result.order c.cell_of-cell.result.npix (arc_value c.loop-order.row) c.cell_of-cell.ensures.order (c.cell_of-cell.ensures.npix ∙ ap (λ (r : Source). r.npix / 4 ^ (c.args.top - c.loop-order.order)) (c.row.ensures ∙ ap arc_value c.item.ensures)) (c.loop-order.invariant.sinking few many t d))
    c.offer.ensures.rows c.offer.ensures.others c.in-None.ensures.out

pub loop-order-preserved : goal.loop-order-preserved
loop-order-preserved c = record {
  listed = c.offer.ensures.listed;
  spare_left = c.in-Some.ensures.spare;
  full = λ h. c.offer.ensures.full (c.loop-order.invariant.full h);
  cell = (goes_on c.args.top c.args.room c.requires.tiles.0 c.requires.tiles.1 (λ k p. rows_at c.loop-order.tiles k p) (λ k p. rows_at c.offer.new.tiles k p) c.cell_of-cell.result.order c.cell_of-cell.result.npix (arc_value c.loop-order.row) (arc_value c.args.row) (arc_value c.in-Some.last)
      (below c.loop-order.order c.args.top c.cell_of-cell.result.order c.cell_of-cell.ensures.order c.loop-order-test.true) c.requires.tiles.3 (at_cell c.args.top c.args.room c.requires.tiles.0 c.requires.tiles.1 (λ k p. rows_at c.loop-order.tiles k p) c.loop-order.order ((arc_value c.loop-order.row).npix / 4 ^ (c.args.top - c.loop-order.order)) c.cell_of-cell.result.order c.cell_of-cell.result.npix (arc_value c.loop-order.row) c.cell_of-cell.ensures.order (c.cell_of-cell.ensures.npix ∙ ap (λ (r : Source). r.npix / 4 ^ (c.args.top - c.loop-order.order)) (c.row.ensures ∙ ap arc_value c.item.ensures)) (c.loop-order.invariant.sinking c.requires.tiles.0 c.requires.tiles.1 c.requires.tiles.2 c.requires.tiles.3))
      c.offer.ensures.rows c.offer.ensures.others c.in-Some.ensures.out).cell;
  sinking = λ few many t d.
      next_order c.args.top c.args.room few many (λ k p. rows_at c.offer.new.tiles k p) c.cell_of-cell.result.order (c.loop-order.order + 1) (arc_value c.in-Some.last)
      (after c.cell_of-cell.result.order c.loop-order.order c.cell_of-cell.ensures.order)
      (goes_on c.args.top c.args.room few many (λ k p. rows_at c.loop-order.tiles k p) (λ k p. rows_at c.offer.new.tiles k p) c.cell_of-cell.result.order c.cell_of-cell.result.npix (arc_value c.loop-order.row) (arc_value c.args.row) (arc_value c.in-Some.last)
      (below c.loop-order.order c.args.top c.cell_of-cell.result.order c.cell_of-cell.ensures.order c.loop-order-test.true) d (at_cell c.args.top c.args.room few many (λ k p. rows_at c.loop-order.tiles k p) c.loop-order.order ((arc_value c.loop-order.row).npix / 4 ^ (c.args.top - c.loop-order.order)) c.cell_of-cell.result.order c.cell_of-cell.result.npix (arc_value c.loop-order.row) c.cell_of-cell.ensures.order (c.cell_of-cell.ensures.npix ∙ ap (λ (r : Source). r.npix / 4 ^ (c.args.top - c.loop-order.order)) (c.row.ensures ∙ ap arc_value c.item.ensures)) (c.loop-order.invariant.sinking few many t d))
      c.offer.ensures.rows c.offer.ensures.others c.in-Some.ensures.out).sinking;
}

pub offer-none-requires-clause-in_order : goal.offer-none-requires-clause-in_order
offer-none-requires-clause-in_order c =
    first_ok c.args.top c.args.room c.requires.tiles.0 c.requires.tiles.1 (λ k p. rows_at c.loop-order.tiles k p) c.cell_of-cell-2.result.order c.cell_of-cell-2.result.npix (arc_value c.loop-order.row) (arc_value c.args.row) (at_cell c.args.top c.args.room c.requires.tiles.0 c.requires.tiles.1 (λ k p. rows_at c.loop-order.tiles k p) c.loop-order.order ((arc_value c.loop-order.row).npix / 4 ^ (c.args.top - c.loop-order.order)) c.cell_of-cell-2.result.order c.cell_of-cell-2.result.npix (arc_value c.loop-order.row) (c.cell_of-cell-2.ensures.order ∙ top_is c.loop-order.order c.args.top c.loop-order.auto.order-end c.loop-order-test.false) (c.cell_of-cell-2.ensures.npix ∙ ap (λ (r : Source). r.npix / 4 ^ (c.args.top - c.args.top)) (c.row-2.ensures ∙ ap arc_value c.item-2.ensures) ∙ ap (λ (m : ℕ). (arc_value c.loop-order.row).npix / 4 ^ (c.args.top - m)) (top_is c.loop-order.order c.args.top c.loop-order.auto.order-end c.loop-order-test.false)) (c.loop-order.invariant.sinking c.requires.tiles.0 c.requires.tiles.1 c.requires.tiles.2 c.requires.tiles.3)) c.requires.tiles.3 (arc_value c.loop-order.row)

pub offer-none-requires-clause-room : goal.offer-none-requires-clause-room
offer-none-requires-clause-room c =
    roomy _ (short_ok c.args.top c.args.room c.requires.tiles.0 c.requires.tiles.1 (λ k p. rows_at c.loop-order.tiles k p) c.cell_of-cell-2.result.order c.cell_of-cell-2.result.npix (arc_value c.args.row) (arc_value c.loop-order.row) (at_cell c.args.top c.args.room c.requires.tiles.0 c.requires.tiles.1 (λ k p. rows_at c.loop-order.tiles k p) c.loop-order.order ((arc_value c.loop-order.row).npix / 4 ^ (c.args.top - c.loop-order.order)) c.cell_of-cell-2.result.order c.cell_of-cell-2.result.npix (arc_value c.loop-order.row) (c.cell_of-cell-2.ensures.order ∙ top_is c.loop-order.order c.args.top c.loop-order.auto.order-end c.loop-order-test.false) (c.cell_of-cell-2.ensures.npix ∙ ap (λ (r : Source). r.npix / 4 ^ (c.args.top - c.args.top)) (c.row-2.ensures ∙ ap arc_value c.item-2.ensures) ∙ ap (λ (m : ℕ). (arc_value c.loop-order.row).npix / 4 ^ (c.args.top - m)) (top_is c.loop-order.order c.args.top c.loop-order.auto.order-end c.loop-order-test.false)) (c.loop-order.invariant.sinking c.requires.tiles.0 c.requires.tiles.1 c.requires.tiles.2 c.requires.tiles.3)) c.requires.tiles.3)

pub offer-none-requires-clause-fits : goal.offer-none-requires-clause-fits
offer-none-requires-clause-fits c =
    fits _ (short_ok c.args.top c.args.room c.requires.tiles.0 c.requires.tiles.1 (λ k p. rows_at c.loop-order.tiles k p) c.cell_of-cell-2.result.order c.cell_of-cell-2.result.npix (arc_value c.args.row) (arc_value c.loop-order.row) (at_cell c.args.top c.args.room c.requires.tiles.0 c.requires.tiles.1 (λ k p. rows_at c.loop-order.tiles k p) c.loop-order.order ((arc_value c.loop-order.row).npix / 4 ^ (c.args.top - c.loop-order.order)) c.cell_of-cell-2.result.order c.cell_of-cell-2.result.npix (arc_value c.loop-order.row) (c.cell_of-cell-2.ensures.order ∙ top_is c.loop-order.order c.args.top c.loop-order.auto.order-end c.loop-order-test.false) (c.cell_of-cell-2.ensures.npix ∙ ap (λ (r : Source). r.npix / 4 ^ (c.args.top - c.args.top)) (c.row-2.ensures ∙ ap arc_value c.item-2.ensures) ∙ ap (λ (m : ℕ). (arc_value c.loop-order.row).npix / 4 ^ (c.args.top - m)) (top_is c.loop-order.order c.args.top c.loop-order.auto.order-end c.loop-order-test.false)) (c.loop-order.invariant.sinking c.requires.tiles.0 c.requires.tiles.1 c.requires.tiles.2 c.requires.tiles.3)) c.requires.tiles.3)

pub returns-clause-tiles : goal.returns-clause-tiles
returns-clause-tiles c few many t d =
    ends_deepest c.args.top c.args.room 18446744073709551615 few many (λ k p. rows_at c.loop-order.tiles k p) (λ k p. rows_at c.offer-none.new.tiles k p) c.cell_of-cell-2.result.order c.cell_of-cell-2.result.npix (arc_value c.loop-order.row) (arc_value c.args.row)
    c.cell_of-cell-2.ensures.order d (omega arith) (at_cell c.args.top c.args.room few many (λ k p. rows_at c.loop-order.tiles k p) c.loop-order.order ((arc_value c.loop-order.row).npix / 4 ^ (c.args.top - c.loop-order.order)) c.cell_of-cell-2.result.order c.cell_of-cell-2.result.npix (arc_value c.loop-order.row) (c.cell_of-cell-2.ensures.order ∙ top_is c.loop-order.order c.args.top c.loop-order.auto.order-end c.loop-order-test.false) (c.cell_of-cell-2.ensures.npix ∙ ap (λ (r : Source). r.npix / 4 ^ (c.args.top - c.args.top)) (c.row-2.ensures ∙ ap arc_value c.item-2.ensures) ∙ ap (λ (m : ℕ). (arc_value c.loop-order.row).npix / 4 ^ (c.args.top - m)) (top_is c.loop-order.order c.args.top c.loop-order.auto.order-end c.loop-order-test.false)) (c.loop-order.invariant.sinking few many t d)) c.offer-none.ensures.rows c.offer-none.ensures.others
