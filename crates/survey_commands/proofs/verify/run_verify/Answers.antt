use Rattle.std.proofs.Common.{refl, Ok}
use Rattle.survey_commands.proofs.verify.run_verify.Goals as goal

pub returns-in-Ok-clause-run : goal.returns-in-Ok-clause-run
returns-in-Ok-clause-run g c = (Ok c.in-Ok.verdict, (c.in-Ok.ensures.outcome, (rw c.verdict_status.ensures.status at c.say.ensures.said) _ refl))
