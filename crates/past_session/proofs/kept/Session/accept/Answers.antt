use Rattle.std.proofs.Common.{◌≡◌, map, None, refl, ap, ◌∙◌, subst}
use Rattle.survey_conf.specs.Description.{Description}
use Rattle.edit_journal.specs.Edit.{edit_of}
use Rattle.survey_core.specs.BatchBody.{batch_entries}
use Rattle.survey_core.specs.Refusal.{TellsBatchRead}
use Rattle.survey_core.specs.declared.fault.BatchRead.TheVariants.{Entry}
use Rattle.past_session.specs.Session.{SessionContent, state_edits}
use Rattle.past_session.proofs.Content.{read_verdict, faulty_verdict, on_ok}
use Rattle.past_session.proofs.kept.Session.accept.Goals as goal

pub returns-in-Ok-clause-told : goal.returns-in-Ok-clause-told
returns-in-Ok-clause-told c =
    let session = c.args.self.now in
    let batch = map edit_of c.in-Ok.edits.items in
    let conf : c.deref.result.now ≡ session.conf = c.deref.ensures ∙ ap (λ (s : SessionContent). s.conf) c.self.view_is in
    let entries : batch_entries session.conf c.args.body.now ≡ record { edits = batch; fault = None }
    = subst (λ (d : Description). batch_entries d c.args.body.now ≡ record { edits = batch; fault = None }) conf c.in-Ok.ensures.read in
    rw (read_verdict session.conf session.opening (state_edits session) c.args.body.now batch entries) c.append.ensures.told

pub returns-in-Ok-clause-after : goal.returns-in-Ok-clause-after
returns-in-Ok-clause-after c =
    let session = c.args.self.now in
    let batch = map edit_of c.in-Ok.edits.items in
    let conf : c.deref.result.now ≡ session.conf = c.deref.ensures ∙ ap (λ (s : SessionContent). s.conf) c.self.view_is in
    let entries : batch_entries session.conf c.args.body.now ≡ record { edits = batch; fault = None }
    = subst (λ (d : Description). batch_entries d c.args.body.now ≡ record { edits = batch; fault = None }) conf c.in-Ok.ensures.read in
    rw (read_verdict session.conf session.opening (state_edits session) c.args.body.now batch entries) c.append.ensures.after

pub returns-in-Err-Entry-clause-told : goal.returns-in-Err-Entry-clause-told
returns-in-Err-Entry-clause-told c =
    let session = c.args.self.now in
    let conf : c.deref.result.now ≡ session.conf = c.deref.ensures ∙ ap (λ (s : SessionContent). s.conf) c.self.view_is in
    let tells : TellsBatchRead (batch_entries c.deref.result.now c.args.body.now) (Entry c.in-Err-Entry.at c.in-Err-Entry.fault)
    = subst (TellsBatchRead (batch_entries c.deref.result.now c.args.body.now)) c.in-Err-Entry.field-0-is c.in-Err-Entry.ensures.refused in
    let told : TellsBatchRead (batch_entries session.conf c.args.body.now) (Entry c.in-Err-Entry.at c.in-Err-Entry.fault)
    = subst (λ (d : Description). TellsBatchRead (batch_entries d c.args.body.now) (Entry c.in-Err-Entry.at c.in-Err-Entry.fault)) conf tells in
    let verdict = faulty_verdict session.conf session.opening (state_edits session) c.args.body.now c.in-Err-Entry.at c.in-Err-Entry.fault told.0 told.1 in
    rw verdict c.refused_entry.ensures.told

pub returns-in-Err-Entry-clause-after : goal.returns-in-Err-Entry-clause-after
returns-in-Err-Entry-clause-after c =
    let session = c.args.self.now in
    let conf : c.deref.result.now ≡ session.conf = c.deref.ensures ∙ ap (λ (s : SessionContent). s.conf) c.self.view_is in
    let tells : TellsBatchRead (batch_entries c.deref.result.now c.args.body.now) (Entry c.in-Err-Entry.at c.in-Err-Entry.fault)
    = subst (TellsBatchRead (batch_entries c.deref.result.now c.args.body.now)) c.in-Err-Entry.field-0-is c.in-Err-Entry.ensures.refused in
    let told : TellsBatchRead (batch_entries session.conf c.args.body.now) (Entry c.in-Err-Entry.at c.in-Err-Entry.fault)
    = subst (λ (d : Description). TellsBatchRead (batch_entries d c.args.body.now) (Entry c.in-Err-Entry.at c.in-Err-Entry.fault)) conf tells in
    let verdict = faulty_verdict session.conf session.opening (state_edits session) c.args.body.now c.in-Err-Entry.at c.in-Err-Entry.fault told.0 told.1 in
    rw verdict (on_ok c.refused_entry.result refl)
