use Rattle.std.proofs.Common.{◌≡◌, ◌*◌, ◌^◌, ◌<◌, ap, ◌∙◌, arith}
use Rattle.healpix_nested.specs.CellLaws.{four_pow_pos}
use Rattle.pyramid_model.proofs.Quads.{cells_fit}
use Rattle.pyramid_model.proofs.plain.cells_below.Goals as goal

pub pow-requires : goal.pow-requires
pow-requires c = let fits : 12 * 4 ^ c.args.levels < 2 ^ 64 = cells_fit c.args.levels c.requires in rw c.from.ensures (omega arith)

pub returns-clause-some : goal.returns-clause-some
returns-clause-some c = let power : c.pow.result ≡ 4 ^ c.args.levels = c.pow.ensures ∙ ap (λ n. 4 ^ n) c.from.ensures in rw power (four_pow_pos c.args.levels)
