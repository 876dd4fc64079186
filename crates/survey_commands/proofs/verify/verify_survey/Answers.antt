use Rattle.survey_commands.proofs.ShelfLemmas.{not_compared}
use Rattle.survey_commands.proofs.verify.verify_survey.Goals as goal

pub returns-clause-outcome : goal.returns-clause-outcome
returns-clause-outcome g c =
    rw c.from.ensures (not_compared (g.H.Shelf.files c.args.shelf.now) c.in-Err.fault)
