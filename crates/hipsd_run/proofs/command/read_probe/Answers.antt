use Rattle.std.proofs.Common.{arith, codes}
use Rattle.hipsd_run.proofs.CommandLemmas.{no_order}
use Rattle.hipsd_run.proofs.command.read_probe.Goals as goal

pub returns-in_err-order-clause-none : goal.returns-in_err-order-clause-none
returns-in_err-order-clause-none c =
    let top = c.in_ok-top.ensures in
    rw (c.from_residual-in_err-order.ensures, top.0)
    (no_order c.in_ok-top.top (omega arith) (codes "probe") c.args.n.now c.args.order.now c.args.npix.now
    c.in_err-order.ensures)
