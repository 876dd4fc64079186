use Rattle.std.proofs.Common.{map, take}
use Rattle.std.specs.Prelude.{All}
use Rattle.edit_journal.specs.Edit.{edit_of}
use Rattle.edit_journal.specs.Leaves.{FitsEdit}
use Rattle.small_survey.proofs.survey.all_fit.Given as goal

abbrev pub invariant-loop-edit : goal.invariant-loop-edit
invariant-loop-edit l = All (FitsEdit l.state.conf.shape) (map edit_of (take l.edit-index l.edits))
