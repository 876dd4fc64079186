use Rattle.std.proofs.Common.{sym, ◌∙◌}
use Rattle.survey_conf.specs.Description.{extras_of}
use Rattle.survey_conf.specs.EntriesView.{entries_view}
use Rattle.survey_conf.specs.ConfView.{extras_view}
use Rattle.survey_conf.proofs.ExtraLemmas.{absent-extra}
use Rattle.survey_conf.proofs.describe.extras.Goals as goal

pub add_extra-requires : goal.add_extra-requires
add_extra-requires c =
    absent-extra (extras_of (entries_view c.args.entries.now.entries)) (extras_view c.loop-key.extras.entries) c.loop-key.key-iterator c.next.new.self (c.in-Some.key.now, c.in-Some.setting.now)
    c.requires c.loop-key.invariant c.in-Some.ensures.steps (sym c.is_extra_key.ensures ∙ c.if-is_extra_key.true)
