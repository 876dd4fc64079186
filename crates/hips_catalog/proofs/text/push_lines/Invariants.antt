use Rattle.std.proofs.Common.{◌≡◌, ◌++◌, take, flat_map}
use Rattle.std.specs.Arc.{arc_value}
use Rattle.hips_catalog.specs.TileText.{source_line}
use Rattle.hips_catalog.proofs.text.push_lines.Given as goal

abbrev pub invariant-loop-row : goal.invariant-loop-row
invariant-loop-row l = l.text.items ≡ l.fn.text.items ++ flat_map (λ row. source_line (arc_value row.now)) (take l.row-index l.rows)
