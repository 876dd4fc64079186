use Rattle.std.proofs.Common.{◌∙◌, ◌-◌, ◌<◌, ◌^◌, ℕ, List, All, flat_map, sym, ap, subst, arith}
use Rattle.coverage_moc.specs.Cover.{IsAscending, leaves_under}
use Rattle.coverage_moc.specs.Rows.{four_cells}
use Rattle.coverage_moc.proofs.MemberLemmas.{up-nil}
use Rattle.coverage_moc.proofs.TreeLemmas.{up-leaves_under}
use Rattle.coverage_moc.proofs.LeafLemmas.{OwnUpTo, leaves_first, leaves_more, up-fours, parents_few}
use Rattle.coverage_moc.proofs.leaves.+cells_under.Goals as goal

pub put_own-requires-clause-ascending : goal.put_own-requires-clause-ascending
put_own-requires-clause-ascending t c = subst IsAscending (sym c.new-first.ensures.items) up-nil

pub returns-then-order-eq0 : goal.returns-then-order-eq0
returns-then-order-eq0 t c =
    leaves_first c.args.order c.args.rows.now c.put_own.new.under.items c.if-order-eq0.true c.in_ok-put_own.ensures.ascending
    (subst (λ (zs : List ℕ). OwnUpTo c.args.order c.args.rows.now zs c.put_own.new.under.items) c.new-first.ensures.items c.in_ok-put_own.ensures.own)

pub children_of-requires : goal.children_of-requires
children_of-requires t c = subst (λ (zs : List ℕ). All (λ p. p < 2 ^ 32) zs) (sym (c.deref.ensures.value ∙ c.in_ok-above.ensures)) (parents_few (c.args.order - 1) c.args.rows.now (omega arith))

pub put_own-requires-2-clause-ascending : goal.put_own-requires-2-clause-ascending
put_own-requires-2-clause-ascending t c =
    let under = c.in_ok-under.ensures ∙ ap (flat_map four_cells) (c.deref.ensures.value ∙ c.in_ok-above.ensures) in
    subst IsAscending (sym under) (up-fours (leaves_under (c.args.order - 1) c.args.rows.now) (up-leaves_under (c.args.order - 1) c.args.rows.now))

pub returns : goal.returns
returns t c =
    let under = c.in_ok-under.ensures ∙ ap (flat_map four_cells) (c.deref.ensures.value ∙ c.in_ok-above.ensures) in
    leaves_more c.args.order c.args.rows.now c.put_own-2.new.under.items (omega arith) c.in_ok-put_own-2.ensures.ascending
    (subst (λ (zs : List ℕ). OwnUpTo c.args.order c.args.rows.now zs c.put_own-2.new.under.items) under c.in_ok-put_own-2.ensures.own)
