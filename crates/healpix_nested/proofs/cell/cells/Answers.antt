use Rattle.std.proofs.Common.{◌^◌, ◌≤◌, arith, mod-eq_of_lt}
use Rattle.healpix_nested.specs.CellLaws.{known_power, four_pow}
use Rattle.healpix_nested.proofs.cell.cells.Goals as goal

pub returns : goal.returns
returns c =
    let small : 4 ^ c.args.order ≤ 2 ^ 40 = known_power c.args.order c.requires in
    rw (four_pow c.args.order) (mod-eq_of_lt (omega arith))
