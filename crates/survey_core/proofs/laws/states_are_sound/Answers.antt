use Rattle.survey_core.specs.HistoryLaws.{history_sound}
use Rattle.survey_core.proofs.laws.states_are_sound.Goals as goal

pub returns : goal.returns
returns c = history_sound
