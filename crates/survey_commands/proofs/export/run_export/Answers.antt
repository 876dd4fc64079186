use Rattle.std.proofs.Common.{refl, Ok}
use Rattle.survey_commands.proofs.export.run_export.Goals as goal

pub returns-in-Ok-clause-run : goal.returns-in-Ok-clause-run
returns-in-Ok-clause-run g c = (Ok c.in-Ok.count, (c.in-Ok.ensures.outcome, c.say.ensures.said _ refl))
