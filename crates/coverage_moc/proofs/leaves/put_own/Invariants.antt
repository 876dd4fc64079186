use Rattle.std.proofs.Common.{◌≡◌, ℕ, ◌*◌, ◌^◌, ◌&&◌, ◌||◌, ltb, take}
use Rattle.healpix_nested.specs.Cells.{uniq_number}
use Rattle.coverage_moc.specs.Cover.{has, IsAscending}
use Rattle.coverage_moc.proofs.leaves.put_own.Given as goal

abbrev pub invariant-loop-row : goal.invariant-loop-row
invariant-loop-row l = IsAscending l.under.items
    × ((p : ℕ) → has l.under.items p ≡ (has l.fn.under.items p || (ltb p (12 * 4 ^ l.order) && has (take l.row-index l.rows) (uniq_number l.order p))))
