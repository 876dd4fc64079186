use Rattle.std.proofs.Common.{◌^◌, ◌≤◌, arith}
use Rattle.healpix_nested.specs.CellLaws.{known_power}
use Rattle.healpix_nested.proofs.cell.Cell.child.Goals as goal

pub overflow_mul-result : goal.overflow_mul-result
overflow_mul-result c =
    let small : 4 ^ c.self.inside.order ≤ 2 ^ 40 = known_power c.self.inside.order c.self.invariant.known_order in
    omega arith

pub overflow_add-result-2 : goal.overflow_add-result-2
overflow_add-result-2 c =
    let small : 4 ^ c.self.inside.order ≤ 2 ^ 40 = known_power c.self.inside.order c.self.invariant.known_order in
    omega arith
