use Rattle.std.proofs.Common.{◌≡◌, ◌++◌}
use Rattle.survey_make.specs.Script.{number_of, requests_to}
use Rattle.survey_make.proofs.making.push_edits.Given as goal

abbrev pub invariant-loop-before : goal.invariant-loop-before
invariant-loop-before l = record {
  made_so_far : l.script.items ≡ l.initial.script.items ++ requests_to l.number l.before;
  x_is : l.x ≡ number_of l.number l.before;
}
