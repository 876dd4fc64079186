use Rattle.std.proofs.Common.{◌^◌, ◌≤◌, ap, arith}
use Rattle.healpix_nested.specs.Cells.{NestedCell, uniq_number}
use Rattle.healpix_nested.specs.CellLaws.{known_power, shifted_four}
use Rattle.healpix_nested.proofs.cell.Cell.uniq.Goals as goal

pub overflow_add-result : goal.overflow_add-result
overflow_add-result c =
    let small : 4 ^ c.self.inside.order ≤ 2 ^ 40 = known_power c.self.inside.order c.self.invariant.known_order in
    rw (shifted_four c.self.inside.order c.self.invariant.known_order) (omega arith)

pub returns : goal.returns
returns c =
    rw (shifted_four c.self.inside.order c.self.invariant.known_order)
    (ap (λ (v : NestedCell). uniq_number v.order v.npix) c.self.view_is)
