use Rattle.std.proofs.Common.{◌≡◌, length, take, vec_len}
use Rattle.std.specs.Prelude.{vec_capacity}
use Rattle.dirty_plan.specs.Dirty.{permits_of, steps_after}
use Rattle.dirty_plan.proofs.worklist.issue.Given as goal

abbrev pub invariant-loop-cell : goal.invariant-loop-cell
invariant-loop-cell l = record {
  permits : l.permits.items ≡ permits_of l.order (take l.cell-index l.cells);
  count : vec_len l.permits ≡ l.cell-index;
  room : vec_capacity l.permits ≡ length l.cells;
  steps : l.steps ≡ steps_after l.initial.steps l.cell-index;
}
