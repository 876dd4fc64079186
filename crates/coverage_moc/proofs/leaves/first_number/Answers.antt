use Rattle.std.proofs.Common.{◌^◌, ◌≤◌, arith}
use Rattle.healpix_nested.specs.CellLaws.{four_pow_mono}
use Rattle.coverage_moc.proofs.leaves.first_number.Goals as goal

pub returns-clause-at_most : goal.returns-clause-at_most
returns-clause-at_most c = let most : 4 ^ c.args.order ≤ 4 ^ 11 = four_pow_mono c.args.order 11 (omega arith) in omega arith
