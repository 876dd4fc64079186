use Rattle.std.proofs.Common.{ℕ, ◌<◌, get_or}
use Rattle.coverage_moc.specs.Rows.{IsMaximalRow}
use Rattle.coverage_moc.proofs.tree.are_maximal.Given as goal

abbrev pub invariant-loop-i : goal.invariant-loop-i
invariant-loop-i l = (k : ℕ) → k < l.i → IsMaximalRow l.top l.rows (get_or l.rows k 0)
