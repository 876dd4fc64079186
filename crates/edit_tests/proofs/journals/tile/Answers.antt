use Rattle.std.proofs.Common.{◌≤◌, ◌*◌, ◌^◌, arith}
use Rattle.std.proofs.Math.Nat.{mul-le-mul}
use Rattle.healpix_nested.specs.CellLaws.{four_pow_mono}
use Rattle.edit_tests.proofs.journals.tile.Goals as goal

pub pow-requires : goal.pow-requires
pow-requires c =
    let n : c.from.result ≤ 9 = omega arith in
    let small : 4 ^ c.from.result ≤ 4 ^ 9 = four_pow_mono c.from.result 9 n in
    omega arith

pub overflow_mul-count : goal.overflow_mul-count
overflow_mul-count c =
    let n : c.from.result ≤ 9 = omega arith in
    let small : 4 ^ c.from.result ≤ 4 ^ 9 = four_pow_mono c.from.result 9 n in
    let count : c.pow.result ≤ 262144 = omega arith in
    let bytes : c.from-2.result ≤ 31 = omega arith in
    let all : c.pow.result * c.from-2.result ≤ 262144 * 31 = mul-le-mul count bytes in
    omega arith
