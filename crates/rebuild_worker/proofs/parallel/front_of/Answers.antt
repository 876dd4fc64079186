use Rattle.std.proofs.Common.{◌≡◌, ◌%◌, ◌+◌, min, arith}
use Rattle.rebuild_worker.proofs.Shares.{halves}
use Rattle.rebuild_worker.proofs.parallel.front_of.Goals as goal

pub returns : goal.returns
returns c =
    let share : c.min.result ≡ min (c.args.permits % (c.args.near + c.args.far)) c.args.near = c.min.ensures in
    let both = halves c.args.permits c.args.near c.args.far c.requires.some in
    record { within = omega (arith, both.0); front = omega arith; back = omega (arith, both.1) }
