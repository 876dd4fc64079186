use Rattle.survey_core.specs.HistoryLaws.{history_precedes, prefix_precedes}
use Rattle.survey_core.proofs.laws.states_stay.Goals as goal

pub returns : goal.returns
returns c = record { in_one = history_precedes; in_two = prefix_precedes }
