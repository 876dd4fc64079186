use Rattle.std.proofs.Common.{arith}
use Rattle.healpix_nested.specs.CellLaws.{parent_is_cell}
use Rattle.healpix_nested.proofs.cell.Cell.parent.Goals as goal

pub invariant_of-result : goal.invariant_of-result
invariant_of-result c = parent_is_cell c.self.inside.order c.self.inside.npix c.self.invariant (omega arith)
