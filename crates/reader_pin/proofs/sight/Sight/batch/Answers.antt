use Rattle.std.proofs.Common.{subst, map}
use Rattle.edit_journal.specs.Edit.{edit_of}
use Rattle.survey_core.specs.State.{StateContent}
use Rattle.reader_pin.specs.Next.{FollowsBatch, TellsRefusedBatch}
use Rattle.reader_pin.proofs.SoloLemmas.{accepted-batch, refused-batch}
use Rattle.reader_pin.proofs.SharedLemmas.{accepts_all_later, all_refused_later}
use Rattle.reader_pin.proofs.sight.Sight.batch.Goals as goal

pub returns-in_ok-happen-in-Ok-clause-accepted : goal.returns-in_ok-happen-in-Ok-clause-accepted
returns-in_ok-happen-in-Ok-clause-accepted g c =
    accepts_all_later (map edit_of c.args.edits.items) c.args.self.now c.catch_up.new.self c.happen.new.self c.in-Ok.count c.catch_up.ensures.stays
    (accepted-batch (map edit_of c.args.edits.items) c.catch_up.new.self c.happen.new.self c.in-Ok.next c.in-Ok.count
    (subst (λ (last : StateContent). FollowsBatch (map edit_of c.args.edits.items) last c.in-Ok.next c.in-Ok.count) c.state.ensures.last c.in-Ok.ensures.next)
    c.in_ok-happen-in-Ok.ensures.went c.happen.ensures.legal c.state-made.ensures.owned)

pub returns-in-Err-clause-refused : goal.returns-in-Err-clause-refused
returns-in-Err-clause-refused g c =
    all_refused_later (map edit_of c.args.edits.items) c.args.self.now c.catch_up.new.self c.in-Err.refusal c.catch_up.ensures.stays
    (refused-batch (map edit_of c.args.edits.items) c.catch_up.new.self c.in-Err.refusal c.state.ensures.legal
    (subst (λ (last : StateContent). TellsRefusedBatch (map edit_of c.args.edits.items) last c.in-Err.refusal) c.state.ensures.last c.in-Err.ensures.refused))
