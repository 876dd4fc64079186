use Rattle.std.proofs.Common.{◌<◌, map, length, sym, subst, arith}
use Rattle.std.proofs.lemmas.List.{length-map}
use Rattle.std.specs.Arc.{arc_value}
use Rattle.edit_journal.specs.Edit.{edit_of}
use Rattle.survey_core.specs.State.{IsKeptState}
use Rattle.survey_core.proofs.StateLemmas.{kept_batch}
use Rattle.survey_core.proofs.state.State.accept_all.Goals as goal

pub invariant_of-result : goal.invariant_of-result
invariant_of-result c =
    let some : 0 < length (map edit_of c.args.edits.items) = omega (arith, length-map c.args.edits.items edit_of, c.requires.some) in
    subst (IsKeptState c.in_ok-journal.journal) (sym c.in_ok-clone.ensures.cases)
    (kept_batch c.self.inside.journal c.in_ok-journal.journal (arc_value c.self.inside.generation) (map edit_of c.args.edits.items) c.self.invariant c.in_ok-journal.ensures.appended
    some c.in_ok-journal.ensures.accepted)
