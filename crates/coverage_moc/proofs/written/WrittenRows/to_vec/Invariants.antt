use Rattle.std.proofs.Common.{◌≡◌, ◌≤◌, length, take}
use Rattle.coverage_moc.proofs.written.WrittenRows.to_vec.Given as goal

abbrev pub invariant-loop-i : goal.invariant-loop-i
invariant-loop-i l = l.rows.items ≡ take l.i l.self
