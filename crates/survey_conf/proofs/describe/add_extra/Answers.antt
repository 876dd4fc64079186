use Rattle.std.proofs.Common.{◌∙◌}
use Rattle.indexmap.proofs.CallerLemmas.{insert_entry-new}
use Rattle.survey_conf.proofs.ExtraLemmas.{absent-extras_view, extras_view-added}
use Rattle.survey_conf.proofs.describe.add_extra.Goals as goal

pub returns-in-Ok : goal.returns-in-Ok
returns-in-Ok c =
    let old = c.args.extras.now.entries in
    extras_view-added old c.insert.new.self.entries c.in_ok-key.key c.in_ok-value.value c.args.key.now c.args.value.now
    c.in_ok-key.ensures.items c.in_ok-value.ensures.items
    (c.in-Ok.ensures.entries ∙ insert_entry-new _ c.args.extras.now c.in_ok-key.key c.in_ok-value.value
    (absent-extras_view c.args.key.now c.in_ok-key.key old c.in_ok-key.ensures.items c.requires))
