use Rattle.survey_core.proofs.EntryLemmas.{bodies_are_entries}
use Rattle.survey_core.proofs.laws.bodies_are_entries.Goals as goal

pub returns : goal.returns
returns c = bodies_are_entries c.plain_is_read.ensures
