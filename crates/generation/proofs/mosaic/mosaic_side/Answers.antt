use Rattle.std.proofs.Common.{◌^◌, ◌≤◌, arith}
use Rattle.std.proofs.Math.Nat.{pow-le-pow_right}
use Rattle.generation.proofs.mosaic.mosaic_side.Goals as goal

pub returns-clause-at_most : goal.returns-clause-at_most
returns-clause-at_most c =
    let few : c.min.result ≤ 6 = omega arith in
    let power : 2 ^ c.min.result ≤ 2 ^ 6 = pow-le-pow_right {n = 2} (omega arith) {i = c.min.result} {j = 6} few in
    omega arith
