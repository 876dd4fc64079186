use Rattle.std.proofs.Common.{◌≡◌, ◌*◌, ◌^◌, ◌≤◌, ◌∙◌, ap, arith}
use Rattle.std.proofs.lemmas.Nat.{mul-le}
use Rattle.healpix_nested.specs.CellLaws.{four_pow_mono}
use Rattle.pixel_tests.proofs.squares.of_bytes.Goals as goal

pub pow-requires : goal.pow-requires
pow-requires c =
    let most : 4 ^ c.args.n ≤ 4 ^ 9 = four_pow_mono c.args.n 9 c.requires.greatest_n in rw c.from.ensures (omega arith)

pub overflow_mul-pow : goal.overflow_mul-pow
overflow_mul-pow c =
    let most : 4 ^ c.args.n ≤ 4 ^ 9 = four_pow_mono c.args.n 9 c.requires.greatest_n in
    let count_is : c.pow.result ≡ 4 ^ c.args.n = c.pow.ensures ∙ ap (λ k. 4 ^ k) c.from.ensures in
    let count : c.pow.result ≤ 4 ^ 9 = rw count_is most in
    let wide : c.bytes.result ≤ 32 = omega arith in
    let fits : c.pow.result * c.bytes.result ≤ 4 ^ 9 * 32 = mul-le c.pow.result c.bytes.result (4 ^ 9) 32 count wide in
    omega arith
