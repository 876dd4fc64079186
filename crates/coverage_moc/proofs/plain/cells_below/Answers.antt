use Rattle.std.proofs.Common.{◌^◌, ◌<◌, arith}
use Rattle.healpix_nested.specs.CellLaws.{four_pow_pos}
use Rattle.coverage_moc.proofs.plain.cells_below.Goals as goal

pub returns-clause-some : goal.returns-clause-some
returns-clause-some c = let some : 0 < 4 ^ c.args.levels = four_pow_pos c.args.levels in omega arith
