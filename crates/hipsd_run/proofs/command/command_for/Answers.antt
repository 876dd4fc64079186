use Rattle.std.proofs.Common.{arith}
use Rattle.hipsd_run.proofs.CommandLemmas.{none_for, too_few}
use Rattle.hipsd_run.proofs.command.command_for.Goals as goal

pub returns-in_err-command-clause-none : goal.returns-in_err-command-clause-none
returns-in_err-command-clause-none c = rw c.from_residual.ensures (none_for _ _ c.in_err-command.ensures.none)

pub returns-else-doors-clause-none : goal.returns-else-doors-clause-none
returns-else-doors-clause-none c = too_few _ _ c.in_ok-command.command c.in_ok-command.ensures.asked (omega arith)
