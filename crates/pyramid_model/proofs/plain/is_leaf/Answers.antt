use Rattle.std.proofs.Common.{◌^◌, ◌≤◌, arith}
use Rattle.healpix_nested.specs.CellLaws.{four_pow_mono}
use Rattle.pyramid_model.proofs.plain.is_leaf.Goals as goal

pub pow-requires : goal.pow-requires
pow-requires c = let most : 4 ^ c.shape.inside.n ≤ 4 ^ 9 = four_pow_mono c.shape.inside.n 9 (omega arith) in rw c.from.ensures (omega arith)
