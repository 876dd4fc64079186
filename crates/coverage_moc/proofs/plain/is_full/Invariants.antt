use Rattle.std.proofs.Common.{◌≡◌, ℕ, ◌<◌, true}
use Rattle.healpix_nested.specs.Cells.{lies_under}
use Rattle.coverage_moc.specs.Cover.{has}
use Rattle.coverage_moc.proofs.plain.is_full.Given as goal

abbrev pub invariant-loop-leaf : goal.invariant-loop-leaf
invariant-loop-leaf l = (other : ℕ) → other < l.leaf → lies_under l.top other l.order l.cell ≡ true → has l.leaves other ≡ true
