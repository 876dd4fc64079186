use Rattle.std.proofs.Common.{sym, ap, ◌∙◌}
use Rattle.std.specs.Option.{option_map}
use Rattle.survey_conf.specs.EntriesView.{setting_view}
use Rattle.survey_conf.proofs.EntryLemmas.{lookup-entries_view}
use Rattle.survey_conf.proofs.entries.find.Goals as goal

pub returns : goal.returns
returns c = ap (option_map setting_view) (c.copied.ensures ∙ c.get.ensures.value) ∙ sym (lookup-entries_view c.args.key.now c.args.entries.now.entries)
