use Rattle.survey_conf.specs.Lines.{contents}
use Rattle.survey_conf.specs.EntriesView.{entries_view}
use Rattle.survey_conf.proofs.DescribedLemmas.{described-lines, fault_of-none, fault_of-together, fault_of-line}
use Rattle.survey_conf.proofs.conf.Conf.read.Goals as goal

pub returns-in-Err-clause-refused : goal.returns-in-Err-clause-refused
returns-in-Err-clause-refused c = fault_of-line c.args.text.now c.in-Err.refusal c.in-Err.ensures.refused

pub returns-in-Err-depth_of-clause-refused : goal.returns-in-Err-depth_of-clause-refused
returns-in-Err-depth_of-clause-refused c =
    fault_of-together c.args.text.now (entries_view c.in-Ok.entries.entries) c.in-Err-depth_of.fault c.in-Ok.ensures.read c.in-Ok.ensures.accepted c.in-Err-depth_of.ensures.refused

pub describe-requires-clause-kept : goal.describe-requires-clause-kept
describe-requires-clause-kept c =
    described-lines c.read_is_normal.ensures (contents c.args.text.now) (entries_view c.in-Ok.entries.entries) c.in-Ok.ensures.read c.in-Ok.ensures.accepted c.in-Ok-depth_of.ensures.accepted

pub returns-in-Ok-describe-clause-accepted : goal.returns-in-Ok-describe-clause-accepted
returns-in-Ok-describe-clause-accepted c =
    fault_of-none c.args.text.now (entries_view c.in-Ok.entries.entries) c.in-Ok.ensures.read c.in-Ok.ensures.accepted c.in-Ok-depth_of.ensures.accepted
