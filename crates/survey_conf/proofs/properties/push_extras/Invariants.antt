use Rattle.std.proofs.Common.{◌≡◌, ◌++◌}
use Rattle.std.specs.List.{flat_map}
use Rattle.survey_conf.specs.Properties.{line}
use Rattle.survey_conf.specs.ConfView.{extras_view}
use Rattle.survey_conf.proofs.properties.push_extras.Given as goal

-- what is written so far and the lines of what is left are those of all
abbrev pub invariant-loop-key : goal.invariant-loop-key
invariant-loop-key l =
    l.text.items ++ flat_map line (extras_view l.key-iterator) ≡ l.fn.text.items ++ flat_map line (extras_view l.fn.extras.entries)
