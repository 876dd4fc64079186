use Rattle.std.proofs.Common.{◌≡◌, ◌*◌, ◌/◌, ◌^◌, ap, arith}
use Rattle.healpix_nested.specs.CellLaws.{four_pow}
use Rattle.rebuild_worker.specs.Workers.{merges_of_a_worker}
use Rattle.rebuild_worker.proofs.parallel.workers_on.Goals as goal

pub returns : goal.returns
returns c =
    let pixels : 65536 / 2 ^ (2 * c.args.n) ≡ 65536 / 4 ^ c.args.n = ap (λ k. 65536 / k) (four_pow c.args.n) in
    let each : c.max-each.result ≡ merges_of_a_worker c.args.n = omega (arith, pixels) in
    let repaid : c.args.merges / c.max-each.result ≡ c.args.merges / merges_of_a_worker c.args.n = ap (λ k. c.args.merges / k) each in
    omega (arith, repaid)
