use Rattle.std.proofs.Common.{◌≡◌, ℕ, ◌&&◌, not, take}
use Rattle.coverage_moc.specs.Cover.{has, IsAscending}
use Rattle.coverage_moc.proofs.rows.take_rows.Given as goal

abbrev pub invariant-loop-row : goal.invariant-loop-row
invariant-loop-row l = IsAscending l.rows.items × ((x : ℕ) → has l.rows.items x ≡ (has l.fn.rows.items x && not (has (take l.row-index l.gone) x)))
