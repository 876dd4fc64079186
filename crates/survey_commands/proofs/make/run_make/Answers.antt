use Rattle.std.proofs.Common.{refl, inl}
use Rattle.survey_commands.proofs.make.run_make.Goals as goal

pub returns-in-Ok-clause-run : goal.returns-in-Ok-clause-run
returns-in-Ok-clause-run g c = inl (c.in-Ok.summary, c.in-Ok.ensures.made, c.say.ensures.said _ refl)
