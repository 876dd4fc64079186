use Rattle.std.proofs.Common.{◌≡◌, ◌++◌, ◌/◌, map, take, drop}
use Rattle.dirty_plan.proofs.planning.climb.Given as goal

abbrev pub invariant-loop-cell : goal.invariant-loop-cell
invariant-loop-cell l = l.cell-items ≡ map (λ cell. cell / 4) (take l.cell-index l.initial.cell-items) ++ drop l.cell-index l.initial.cell-items
