use Rattle.std.proofs.Common.{◌≡◌, ℕ, ◌+◌, List, ◌++◌, flat_map, ap, sym, ◌∙◌, arith}
use Rattle.std.specs.List.{range_with_len}
use Rattle.coverage_moc.specs.Cover.{rows_of_order, cover}
use Rattle.coverage_moc.proofs.PlainLemmas.{lists_more}
use Rattle.coverage_moc.proofs.plain.cover.Goals as goal

pub loop-order-preserved : goal.loop-order-preserved
loop-order-preserved c =
    let rows = rows_of_order c.args.top c.args.leaves.now in
    c.in_ok-push_rows.ensures ∙ ap (λ (xs : List ℕ). xs ++ rows c.loop-order.order) c.loop-order.invariant ∙ sym (lists_more rows c.loop-order.order)

pub returns : goal.returns
unfolding cover
returns c =
    let all : c.loop-order.order ≡ c.args.top + 1 = omega arith in
    c.loop-order.invariant ∙ ap (λ (k : ℕ). flat_map (rows_of_order c.args.top c.args.leaves.now) (range_with_len 0 k)) all
