use Rattle.std.proofs.Common.{rules, append_assoc}
use Rattle.survey_conf.proofs.properties.push_survey_keys.Goals as goal

pub returns : goal.returns
returns c = search (rules, append_assoc)
