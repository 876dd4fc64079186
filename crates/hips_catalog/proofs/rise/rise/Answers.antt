use Rattle.std.proofs.Common.{◌≡◌, ℕ, suc, ◌+◌, ◌≤◌, ◌<◌, subst, sym, arith}
use Rattle.healpix_nested.specs.Cells.{IsCell}
use Rattle.hips_catalog.specs.Rows.{Source}
use Rattle.hips_catalog.specs.Tiles.{rows_at, IsBest}
use Rattle.hips_catalog.proofs.OneMore.{more_has}
use Rattle.hips_catalog.proofs.Found.{four_of, none_has, best_of, rests, rests_at_top, goes_up_child, reaches}
use Rattle.hips_catalog.proofs.rise.rise.Goals as goal

below : (order top k : ℕ) → k ≡ order → order < top → k < top
below order top k e h = omega (arith, e, h)

next_at : (k order o : ℕ) → o ≡ suc k → k ≡ order → o ≡ order + 1
next_at k order o e f = omega (arith, e, f)

top_at : (k order top : ℕ) → k ≡ order → top ≤ order → k ≤ top → k ≡ top
top_at k order top e h l = omega (arith, e, h, l)

pub locate-first-requires-clause-cell : goal.locate-first-requires-clause-cell
locate-first-requires-clause-cell c = more_has (λ (s : Source). IsCell c.args.top s.npix) c.requires.tiles.3.more c.requires.tiles.3.of_cells

pub loop-order-init : goal.loop-order-init
loop-order-init c = record {
  listed = c.requires.listed;
  full = λ h. h;
  at = sym c.order-order.ensures.order;
  rising = λ few many t d. (c.args.row.now, c.locate-first.ensures c.args.room few many t d);
}

pub returns-in-None-clause-tiles : goal.returns-in-None-clause-tiles
returns-in-None-clause-tiles c few many t d =
    let s = c.loop-order.invariant.rising few many t d in
    rests c.args.top c.args.room few many (λ k p. rows_at c.loop-order.tiles k p) (λ k p. rows_at c.take_out.new.tiles k p) c.loop-order.cell.order c.loop-order.cell.npix c.loop-order.i s.0 (below c.loop-order._order c.args.top c.loop-order.cell.order c.loop-order.invariant.at c.loop-order-test.true) c.requires.room d.ordered s.1
    (none_has c.loop-order.tiles c.loop-order.cell (subst (λ b. IsBest c.loop-order.tiles b (four_of c.loop-order.cell)) c.in-None.is c.best_child.ensures)) c.take_out.ensures.rows c.take_out.ensures.others

pub loop-order-preserved : goal.loop-order-preserved
loop-order-preserved c = record {
  listed = c.pull.ensures.listed;
  full = λ h. c.pull.ensures.full (c.loop-order.invariant.full h);
  at = next_at c.loop-order.cell.order c.loop-order._order c.in-Some.child.order (best_of c.loop-order.tiles c.loop-order.cell c.in-Some.child (subst (λ b. IsBest c.loop-order.tiles b (four_of c.loop-order.cell)) c.in-Some.is c.best_child.ensures)).1.order_is c.loop-order.invariant.at;
  rising = λ few many t d.
      let s = c.loop-order.invariant.rising few many t d in
      let b = (best_of c.loop-order.tiles c.loop-order.cell c.in-Some.child (subst (λ b. IsBest c.loop-order.tiles b (four_of c.loop-order.cell)) c.in-Some.is c.best_child.ensures)) in (
        b.0,
        goes_up_child c.args.top c.args.room few many (λ k p. rows_at c.loop-order.tiles k p) (λ k p. rows_at c.pull.new.tiles k p) c.loop-order.cell.order c.loop-order.cell.npix c.in-Some.child.npix c.in-Some.child.order c.loop-order.i s.0 b.0 c.pull.ensures.child.0
            b.1.order_is (below c.loop-order._order c.args.top c.loop-order.cell.order c.loop-order.invariant.at c.loop-order-test.true) c.requires.room d.ordered s.1 b.1.above b.1.first_is b.1.best c.pull.ensures.cell c.pull.ensures.child.1 c.pull.ensures.others,
      );
}

pub returns-clause-tiles : goal.returns-clause-tiles
returns-clause-tiles c few many t d =
    let s = c.loop-order.invariant.rising few many t d in
    rests_at_top c.args.top c.args.room few many (λ k p. rows_at c.loop-order.tiles k p) (λ k p. rows_at c.take_out-2.new.tiles k p) c.loop-order.cell.order c.loop-order.cell.npix c.loop-order.i s.0
    (top_at (c.loop-order.cell.order) c.loop-order._order c.args.top c.loop-order.invariant.at c.loop-order-test.false (reaches c.args.top c.args.room few many (λ k p. rows_at c.loop-order.tiles k p) c.loop-order.cell.order c.loop-order.cell.npix c.loop-order.i s.0 s.1)) d.ordered s.1 c.take_out-2.ensures.rows c.take_out-2.ensures.others
