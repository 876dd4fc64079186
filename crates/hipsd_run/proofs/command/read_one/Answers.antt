use Rattle.hipsd_run.proofs.CommandLemmas.{no_past_command}
use Rattle.hipsd_run.proofs.command.read_one.Goals as goal

pub returns-in-past-clause-none : goal.returns-in-past-clause-none
returns-in-past-clause-none c = rw c.in-past.is (no_past_command c.read_past.result c.args.word.now c.read_past.ensures.none)
