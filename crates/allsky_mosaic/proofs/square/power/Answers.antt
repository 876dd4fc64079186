use Rattle.std.proofs.Common.{◌≤◌, ◌^◌, arith}
use Rattle.std.proofs.Math.Nat.{pow-le-pow_right}
use Rattle.allsky_mosaic.proofs.square.power.Goals as goal

pub returns-clause-at_most : goal.returns-clause-at_most
returns-clause-at_most c =
    let power : 2 ^ c.args.levels ≤ 2 ^ 8 = pow-le-pow_right {n = 2} (omega arith) {i = c.args.levels} {j = 8} c.requires in
    omega arith
