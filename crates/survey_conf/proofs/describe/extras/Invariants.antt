use Rattle.std.proofs.Common.{◌≡◌, ◌++◌}
use Rattle.survey_conf.specs.Description.{extras_of}
use Rattle.survey_conf.specs.EntriesView.{entries_view}
use Rattle.survey_conf.specs.ConfView.{extras_view}
use Rattle.survey_conf.proofs.describe.extras.Given as goal

abbrev pub invariant-loop-key : goal.invariant-loop-key
invariant-loop-key l = extras_view l.extras.entries ++ extras_of (entries_view l.key-iterator) ≡ extras_of (entries_view l.fn.entries.entries)
