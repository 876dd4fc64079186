use Rattle.std.proofs.Common.{◌≡◌, ◌/◌, ◌%◌, ◌==◌, ◌&&◌, map, filter, take}
use Rattle.coverage_moc.specs.Cover.{has}
use Rattle.coverage_moc.specs.Rows.{four}
use Rattle.coverage_moc.proofs.merge.full_above.Given as goal

abbrev pub invariant-loop-i : goal.invariant-loop-i
invariant-loop-i l = l.above.items ≡ map (λ p. p / 4) (filter (λ p. (p % 4 == 0) && four (has l.full) (p / 4)) (take l.i l.full))
