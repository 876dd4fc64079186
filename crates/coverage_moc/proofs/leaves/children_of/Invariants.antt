use Rattle.std.proofs.Common.{◌≡◌, take, flat_map}
use Rattle.coverage_moc.specs.Rows.{four_cells}
use Rattle.coverage_moc.proofs.leaves.children_of.Given as goal

abbrev pub invariant-loop-parent : goal.invariant-loop-parent
invariant-loop-parent l = l.cells.items ≡ flat_map four_cells (take l.parent-index l.parents)
