use Rattle.std.proofs.Common.{◌++◌, take}
use Rattle.coverage_moc.specs.Cover.{IsAscending}
use Rattle.coverage_moc.specs.Rows.{SameMembers}
use Rattle.coverage_moc.proofs.rows.put_rows.Given as goal

abbrev pub invariant-loop-row : goal.invariant-loop-row
invariant-loop-row l = IsAscending l.rows.items × SameMembers l.rows.items (take l.row-index l.more ++ l.fn.rows.items)
