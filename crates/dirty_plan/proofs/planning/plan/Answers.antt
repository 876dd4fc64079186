use Rattle.std.proofs.Common.{◌≡◌, ◌-◌, ◌≤◌, ◌<◌, sym, ap, ◌∙◌, subst, arith}
use Rattle.std.specs.List.{each_same}
use Rattle.dirty_plan.specs.Dirty.{dirty_cells, dirty, work, steps_after}
use Rattle.dirty_plan.proofs.Orders.{dirty_leaves, dirty_none, work_none, work_higher, steps_none, steps_mono, next_cells, next_list, next_steps, on_err_any}
use Rattle.dirty_plan.proofs.planning.plan.Goals as goal

pub loop-order-init : goal.loop-order-init
loop-order-init c = record {
  least = omega arith;
  cells = each_same _ _ c.in_ok-cells.ensures.ok ∙ sym (dirty_leaves c.args.top c.args.touched.now c.requires.ascending c.requires.leaves);
  list = c.new-list.ensures ∙ sym (dirty_none c.args.top c.args.touched.now);
  steps = sym (ap (steps_after c.args.steps.now) (work_none c.args.top c.args.touched.now) ∙ steps_none c.args.steps.now (omega arith));
}

pub loop-order-preserved : goal.loop-order-preserved
loop-order-preserved c =
    let some : 0 < c.loop-order.order = omega arith in
    let within : c.loop-order.order ≤ c.args.top = omega arith in
    let cells : c.climb.new.cells.items ≡ dirty_cells c.args.top c.args.touched.now (c.loop-order.order - 1) =
    next_cells c.args.top c.loop-order.order c.args.touched.now some within c.requires.ascending c.requires.leaves _ _ c.loop-order.invariant.cells c.climb.ensures in
    let lent : c.deref.result.now ≡ dirty_cells c.args.top c.args.touched.now (c.loop-order.order - 1) = c.deref.ensures.value ∙ cells in
    record {
      least = omega arith;
      cells = cells;
      list = next_list c.args.top c.loop-order.order c.args.touched.now some within c.requires.ascending c.requires.leaves c.deref.result.now _ _ lent c.loop-order.invariant.list c.in_ok-push.ensures.pushed;
      steps = next_steps c.args.top c.loop-order.order c.args.touched.now some within c.requires.ascending c.requires.leaves c.deref.result.now c.args.steps.now c.loop-order.steps c.push.new.steps lent c.loop-order.invariant.steps c.in_ok-push.ensures.counted;
    }

pub returns-in_err-push-clause-refused : goal.returns-in_err-push-clause-refused
returns-in_err-push-clause-refused c =
    let so_far : work c.args.top c.loop-order.order c.args.touched.now ≤ work c.args.top c.args.low c.args.touched.now =
    work_higher c.args.top c.args.low c.loop-order.order c.args.touched.now (omega arith) (omega arith) in
    let bound : steps_after c.args.steps.now (work c.args.top c.loop-order.order c.args.touched.now) ≤ steps_after c.args.steps.now (work c.args.top c.args.low c.args.touched.now) =
    steps_mono c.args.steps.now _ _ so_far in
    let stay : c.push.new.steps ≡ steps_after c.args.steps.now (work c.args.top c.loop-order.order c.args.touched.now) = c.in_err-push.ensures.refused ∙ c.loop-order.invariant.steps in
    on_err_any c.from_residual-in_err-push.result (subst (λ n. n ≤ steps_after c.args.steps.now (work c.args.top c.args.low c.args.touched.now)) (sym stay) bound)

pub returns-clause-planned : goal.returns-clause-planned
returns-clause-planned c =
    let end : c.loop-order.order ≡ c.args.low = omega arith in
    c.loop-order.invariant.list ∙ ap (λ k. dirty c.args.top k c.args.touched.now) end

pub returns-clause-counted : goal.returns-clause-counted
returns-clause-counted c =
    let end : c.loop-order.order ≡ c.args.low = omega arith in
    c.loop-order.invariant.steps ∙ ap (λ k. steps_after c.args.steps.now (work c.args.top k c.args.touched.now)) end
