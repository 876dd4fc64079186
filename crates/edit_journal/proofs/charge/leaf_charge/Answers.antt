use Rattle.std.proofs.Common.{◌≤◌, ◌*◌, ◌^◌, arith}
use Rattle.std.proofs.Math.Nat.{mul-le-mul}
use Rattle.std.proofs.lemmas.Bool.Decides.{nat_tests}
use Rattle.healpix_nested.specs.CellLaws.{four_pow_mono}
use Rattle.edit_journal.proofs.charge.leaf_charge.Goals as goal

pub pow-numbers-requires : goal.pow-numbers-requires
pow-numbers-requires c =
    let n : c.from.result ≤ 9 = omega arith in
    let small : 4 ^ c.from.result ≤ 4 ^ 9 = four_pow_mono c.from.result 9 n in
    omega arith

pub overflow_mul-numbers : goal.overflow_mul-numbers
overflow_mul-numbers c =
    let n : c.from.result ≤ 9 = omega arith in
    let small : 4 ^ c.from.result ≤ 4 ^ 9 = four_pow_mono c.from.result 9 n in
    let count : c.pow-numbers.result ≤ 262144 = omega arith in
    let bytes : c.from-2.result ≤ 31 = omega arith in
    let all : c.pow-numbers.result * c.from-2.result ≤ 262144 * 31 = mul-le-mul count bytes in
    omega arith
