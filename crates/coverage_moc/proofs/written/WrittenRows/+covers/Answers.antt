use Rattle.std.proofs.Common.{◌∙◌, ◌-◌, ◌/◌, ◌||◌, sym, ap, arith, le-ltb}
use Rattle.coverage_moc.specs.Cover.{has, is_under}
use Rattle.coverage_moc.proofs.TreeLemmas.{under_first, under_or, under_own}
use Rattle.coverage_moc.proofs.written.WrittenRows.+covers.Goals as goal

pub returns-then-has : goal.returns-then-has
returns-then-has t c =
    let row = ap (has c.args.self.now) (sym c.uniq.ensures) ∙ sym c.has.ensures ∙ c.if-has.true in
    c.if-has.true ∙ sym (under_own c.args.order c.args.self.now c.args.npix row)

pub returns-then-order-gt0 : goal.returns-then-order-gt0
returns-then-order-gt0 t c =
    let row = ap (has c.args.self.now) (sym c.uniq.ensures) ∙ sym c.has.ensures ∙ c.if-has.false in
    c.covers.ensures ∙ ap (λ b. b || is_under (c.args.order - 1) c.args.self.now (c.args.npix / 4)) (sym row) ∙ under_or c.args.order c.args.self.now c.args.npix c.if-order-gt0.true

pub returns-else-order-gt0 : goal.returns-else-order-gt0
returns-else-order-gt0 t c =
    let row = ap (has c.args.self.now) (sym c.uniq.ensures) ∙ sym c.has.ensures ∙ c.if-has.false in
    le-ltb 0 c.args.order c.if-order-gt0.false ∙ sym row ∙ under_first c.args.order c.args.self.now c.args.npix (omega arith)
