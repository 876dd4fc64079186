use Rattle.std.proofs.Common.{◌≡◌, ◌/◌, ◌==◌, ◌||◌, ◌++◌, not, map, filter, take}
use Rattle.healpix_nested.specs.Cells.{uniq_number}
use Rattle.coverage_moc.specs.Cover.{has}
use Rattle.coverage_moc.specs.Rows.{four}
use Rattle.coverage_moc.proofs.merge.push_rows.Given as goal

abbrev pub invariant-loop-i : goal.invariant-loop-i
invariant-loop-i l = l.rows.items ≡ l.fn.rows.items ++ map (uniq_number l.order) (filter (λ p. (l.order == 0) || not (four (has l.full) (p / 4))) (take l.i l.full))
