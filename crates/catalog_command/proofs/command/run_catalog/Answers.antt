use Rattle.std.proofs.Common.{refl, Ok, Err}
use Rattle.catalog_command.proofs.Outcomes.{runs}
use Rattle.catalog_command.proofs.command.run_catalog.Goals as goal

pub returns-in-Ok-clause-run : goal.returns-in-Ok-clause-run
returns-in-Ok-clause-run g c = runs _ _ _ _ _ _ (Ok c.in-Ok.counts) _ _ _ c.in-Ok.ensures.outcome (c.say.ensures.said _ refl)

pub returns-in-Err-clause-run : goal.returns-in-Err-clause-run
returns-in-Err-clause-run g c = runs _ _ _ _ _ _ (Err c.in-Err.stop) _ _ _ c.in-Err.ensures.outcome c.end_by.ensures.said
