use Rattle.survey_core.proofs.FaultyLemmas.{refusals_are_faults}
use Rattle.survey_core.proofs.laws.refusals_are_faults.Goals as goal

pub returns : goal.returns
returns c = refusals_are_faults c.plain_is_read.ensures
