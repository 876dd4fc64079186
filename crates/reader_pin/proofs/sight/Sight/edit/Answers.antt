use Rattle.std.proofs.Common.{subst}
use Rattle.edit_journal.specs.Edit.{edit_of}
use Rattle.survey_core.specs.State.{StateContent}
use Rattle.reader_pin.specs.Next.{FollowsEdit, TellsRefusedEdit}
use Rattle.reader_pin.proofs.SoloLemmas.{accepted-edit, refused-edit}
use Rattle.reader_pin.proofs.SharedLemmas.{accepts_later, refused_later}
use Rattle.reader_pin.proofs.sight.Sight.edit.Goals as goal

pub returns-in_ok-happen-in-Ok-clause-accepted : goal.returns-in_ok-happen-in-Ok-clause-accepted
returns-in_ok-happen-in-Ok-clause-accepted g c =
    accepts_later (edit_of c.args.edit) c.args.self.now c.catch_up.new.self c.happen.new.self c.in-Ok.accepted c.catch_up.ensures.stays
    (accepted-edit (edit_of c.args.edit) c.catch_up.new.self c.happen.new.self c.in-Ok.next c.in-Ok.accepted
    (subst (λ (last : StateContent). FollowsEdit (edit_of c.args.edit) last c.in-Ok.next c.in-Ok.accepted) c.state.ensures.last c.in-Ok.ensures.next)
    c.in_ok-happen-in-Ok.ensures.went c.happen.ensures.legal c.state-made.ensures.owned)

pub returns-in-Err-clause-refused : goal.returns-in-Err-clause-refused
returns-in-Err-clause-refused g c =
    refused_later (edit_of c.args.edit) c.args.self.now c.catch_up.new.self c.in-Err.refusal c.catch_up.ensures.stays
    (refused-edit (edit_of c.args.edit) c.catch_up.new.self c.in-Err.refusal c.state.ensures.legal
    (subst (λ (last : StateContent). TellsRefusedEdit (edit_of c.args.edit) last c.in-Err.refusal) c.state.ensures.last c.in-Err.ensures.refused))
