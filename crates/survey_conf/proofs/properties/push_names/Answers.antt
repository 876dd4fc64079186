use Rattle.std.proofs.Common.{rules, append_assoc}
use Rattle.survey_conf.proofs.properties.push_names.Goals as goal

pub returns : goal.returns
returns c = search (rules, append_assoc)
