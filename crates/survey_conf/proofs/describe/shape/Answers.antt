use Rattle.survey_conf.specs.EntriesView.{entries_view}
use Rattle.survey_conf.proofs.DescribedLemmas.{shape-described}
use Rattle.survey_conf.proofs.describe.shape.Goals as goal

pub returns : goal.returns
returns c = shape-described (entries_view c.args.entries.now.entries) c.order.result c.lowest_order.result c.width_exponent.result c.args.depth c.order.ensures c.lowest_order.ensures c.width_exponent.ensures c.requires
