use Rattle.std.proofs.Common.{arith, rules, ◌≤◌, ◌*◌, ◌^◌}
use Rattle.healpix_nested.specs.CellLaws.{four_pow_mono}
use Rattle.wal_frame.proofs.Payloads.{tile_at_most}
use Rattle.wal_frame.proofs.survey.tile_length.Goals as goal

pub pow-requires : goal.pow-requires
pow-requires c =
    let few : 4 ^ c.shape.inside.n ≤ 4 ^ 9 = four_pow_mono c.shape.inside.n 9 c.shape.invariant.greatest_n in
    rw c.from.ensures (omega (arith, few))

pub overflow_mul-result : goal.overflow_mul-result
overflow_mul-result c =
    let most : c.pow.result * c.from-2.result ≤ 2 ^ 21 = rw (c.pow.ensures, c.from.ensures, c.from-2.ensures) (tile_at_most c.bitpix.result c.shape.inside.n c.bitpix.ensures.known c.shape.invariant.greatest_n) in
    search (rules, most)

pub returns-clause-at_most : goal.returns-clause-at_most
returns-clause-at_most c = rw (c.pow.ensures, c.from.ensures, c.from-2.ensures) (tile_at_most c.bitpix.result c.shape.inside.n c.bitpix.ensures.known c.shape.invariant.greatest_n)
