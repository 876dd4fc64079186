use Rattle.std.proofs.Common.{◌≡◌, flat_map}
use Rattle.std.specs.List.{range_with_len}
use Rattle.coverage_moc.specs.Cover.{rows_of_order}
use Rattle.coverage_moc.proofs.plain.cover.Given as goal

abbrev pub invariant-loop-order : goal.invariant-loop-order
invariant-loop-order l = l.rows.items ≡ flat_map (rows_of_order l.top l.leaves) (range_with_len 0 l.order)
