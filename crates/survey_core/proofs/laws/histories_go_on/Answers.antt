use Rattle.survey_core.specs.HistoryLaws.{history_more, history_prefix}
use Rattle.survey_core.proofs.laws.histories_go_on.Goals as goal

pub returns : goal.returns
returns c = record { step = history_more; prefix = history_prefix }
