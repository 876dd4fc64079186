use Rattle.std.proofs.Common.{◌^◌, ◌≤◌, arith}
use Rattle.healpix_nested.specs.CellLaws.{known_power}
use Rattle.coverage_moc.proofs.tree.children.Goals as goal

pub overflow_mul-first : goal.overflow_mul-first
overflow_mul-first c = let order : c.args.order ≤ 20 = omega arith in let small : 4 ^ c.args.order ≤ 2 ^ 40 = known_power c.args.order order in omega arith
