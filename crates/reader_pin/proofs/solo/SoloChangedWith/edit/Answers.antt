use Rattle.std.proofs.Common.{rules, subst}
use Rattle.edit_journal.specs.Edit.{edit_of}
use Rattle.survey_core.specs.State.{StateContent}
use Rattle.reader_pin.specs.Next.{FollowsEdit, TellsRefusedEdit}
use Rattle.reader_pin.proofs.Errors.{always}
use Rattle.reader_pin.proofs.SoloLemmas.{stays, accepted-edit, refused-edit}
use Rattle.reader_pin.proofs.solo.SoloChangedWith.edit.Goals as goal

pub returns-in_ok-go_on-in-Ok-clause-accepted : goal.returns-in_ok-go_on-in-Ok-clause-accepted
returns-in_ok-go_on-in-Ok-clause-accepted g c =
    accepted-edit (edit_of c.args.edit) c.args.self.now c.go_on.new.self c.in-Ok.next c.in-Ok.accepted
    (subst (λ (last : StateContent). FollowsEdit (edit_of c.args.edit) last c.in-Ok.next c.in-Ok.accepted) c.last.ensures.last c.in-Ok.ensures.next)
    c.in_ok-go_on-in-Ok.ensures.went c.go_on.ensures.legal c.last-made.ensures.owned

pub returns-in-Err-clause-refused : goal.returns-in-Err-clause-refused
returns-in-Err-clause-refused g c =
    refused-edit (edit_of c.args.edit) c.args.self.now c.in-Err.refusal c.last.ensures.legal
    (subst (λ (last : StateContent). TellsRefusedEdit (edit_of c.args.edit) last c.in-Err.refusal) c.last.ensures.last c.in-Err.ensures.refused)

pub returns-in_err-go_on-in-Ok-clause-unchanged : goal.returns-in_err-go_on-in-Ok-clause-unchanged
returns-in_err-go_on-in-Ok-clause-unchanged g c = always c.from_residual.result (stays c.args.self.now c.go_on.new.self (search rules) c.last.ensures.legal c.last.ensures.owned)
