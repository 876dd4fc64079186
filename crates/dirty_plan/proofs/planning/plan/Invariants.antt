use Rattle.std.proofs.Common.{◌≡◌, ◌≤◌}
use Rattle.dirty_plan.specs.Dirty.{dirty_cells, dirty, work, steps_after}
use Rattle.dirty_plan.proofs.planning.plan.Given as goal

abbrev pub invariant-loop-order : goal.invariant-loop-order
invariant-loop-order l = record {
  least : l.low ≤ l.order;
  cells : l.cells.items ≡ dirty_cells l.top l.touched l.order;
  list : l.list ≡ dirty l.top l.order l.touched;
  steps : l.steps ≡ steps_after l.initial.steps (work l.top l.order l.touched);
}
