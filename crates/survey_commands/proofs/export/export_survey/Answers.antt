use Rattle.survey_commands.proofs.ShelfLemmas.{stopped}
use Rattle.survey_commands.proofs.export.export_survey.Goals as goal

pub returns-clause-outcome : goal.returns-clause-outcome
returns-clause-outcome g c =
    rw c.from.ensures
    (stopped (g.H.Shelf.files c.args.shelf.now) (g.H.Shelf.files c.export.new.shelf) c.in-Err.fault
    (rw c.load.ensures.kept at c.in-Err.ensures.refused))
