use Rattle.std.proofs.Common.{[], ◌∷◌, sym, subst, arith}
use Rattle.std.specs.Arc.{arc_value}
use Rattle.edit_journal.specs.Edit.{edit_of}
use Rattle.edit_journal.specs.Journal.{journal_edits}
use Rattle.survey_core.specs.State.{IsKeptState}
use Rattle.survey_core.proofs.StateLemmas.{kept_batch, batch_fault-one, appends_one}
use Rattle.survey_core.proofs.state.State.accept.Goals as goal

pub invariant_of-result : goal.invariant_of-result
invariant_of-result c =
    let journal = c.self.inside.journal in
    subst (IsKeptState c.in_ok-journal.journal) (sym c.in_ok-clone.ensures.cases)
    (kept_batch journal c.in_ok-journal.journal (arc_value c.self.inside.generation) (edit_of c.args.edit ∷ []) c.self.invariant c.in_ok-journal.ensures.appended
    (omega arith) (batch_fault-one journal.opening (journal_edits journal) (edit_of c.args.edit) c.in_ok-journal.ensures.accepted))

pub returns-clause-step : goal.returns-clause-step
returns-clause-step c =
    appends_one c.args.self.now c.self.inside.journal c.in_ok-journal.journal (arc_value c.self.inside.generation) (arc_value c.in_ok-clone.field-0) (edit_of c.args.edit) c.self.view_is
    c.in_ok-journal.ensures.appended c.in_ok-clone.ensures.cases c.in_ok-journal.ensures.accepted
