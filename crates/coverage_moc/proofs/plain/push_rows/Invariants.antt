use Rattle.std.proofs.Common.{◌≡◌, ◌++◌, map, filter}
use Rattle.std.specs.List.{range_with_len}
use Rattle.healpix_nested.specs.Cells.{uniq_number}
use Rattle.coverage_moc.specs.Cover.{is_row}
use Rattle.coverage_moc.proofs.plain.push_rows.Given as goal

abbrev pub invariant-loop-cell : goal.invariant-loop-cell
invariant-loop-cell l = l.rows.items ≡ l.initial.rows.items ++ map (uniq_number l.order) (filter (is_row l.top l.leaves l.order) (range_with_len 0 l.cell))
