use Rattle.std.proofs.Common.{◌≡◌, length, map, ap, ◌∙◌, inr, arith}
use Rattle.std.proofs.lemmas.List.{length-map}
use Rattle.edit_journal.specs.Edit.{edit_of}
use Rattle.hips_http.specs.declared.call.Call.TheVariants as call
use Rattle.hips_http.specs.Replies.{batch_accepted}
use Rattle.hips_http.proofs.Calls.{no_memory_serves}
use Rattle.hips_http.proofs.Changes.{stays_itself, batch_unread, batch_faulty, batch_serves}
use Rattle.hips_http.proofs.change.batch.Goals as goal

pub returns-in-Err-Entry-clause-serves : goal.returns-in-Err-Entry-clause-serves
returns-in-Err-Entry-clause-serves g c = λ request body.
    let refusal = rw (c.in-Err-Entry.field-0-is, c.deref.ensures, c.conf.ensures.conf, c.last.ensures.last, ← body) at c.in-Err-Entry.ensures.refused in
    let bound = rw (c.deref.ensures, c.conf.ensures.conf, c.last.ensures.last, ← body) at c.in-Err-Entry.ensures.at_most in
    rw c.batch_refused.ensures (batch_unread _ _ _ _ request bound _ _ (stays_itself _ c.last.ensures.legal c.last.ensures.owned) refusal.0 refusal.1)

pub returns-in-Err-OutOfMemory-clause-serves : goal.returns-in-Err-OutOfMemory-clause-serves
returns-in-Err-OutOfMemory-clause-serves g c = λ request body.
    rw c.no_memory.ensures (no_memory_serves _ _ _ _ call.Batch (stays_itself _ c.last.ensures.legal c.last.ensures.owned) _ (λ before after none. inr none))

pub returns-in-Ok-batch-clause-serves : goal.returns-in-Ok-batch-clause-serves
returns-in-Ok-batch-clause-serves g c = λ request body.
    let read = rw (c.deref.ensures, c.conf.ensures.conf, c.last.ensures.last, ← body) at c.in-Ok.ensures.read in
    let bound = rw (c.deref.ensures, c.conf.ensures.conf, c.last.ensures.last, ← body) at c.in-Ok.ensures.at_most in
    let count : c.len-count.result ≡ length (map edit_of c.in-Ok.edits.items) = omega (arith, c.len-count.ensures, c.in-Ok.edits.ok.0, length-map c.in-Ok.edits.items edit_of) in
    let told : c.batch_accepted.result ≡ batch_accepted (length (map edit_of c.in-Ok.edits.items)) c.in-Ok-batch.number
    = c.batch_accepted.ensures ∙ ap (λ n. batch_accepted n c.in-Ok-batch.number) count in
    rw told (batch_serves _ _ _ _ request bound (map edit_of c.in-Ok.edits.items) read c.in-Ok-batch.number c.in-Ok-batch.ensures.accepted)

pub returns-in-Err-Fault-clause-serves : goal.returns-in-Err-Fault-clause-serves
returns-in-Err-Fault-clause-serves g c = λ request body.
    let read = rw (c.deref.ensures, c.conf.ensures.conf, c.last.ensures.last, ← body) at c.in-Ok.ensures.read in
    let bound = rw (c.deref.ensures, c.conf.ensures.conf, c.last.ensures.last, ← body) at c.in-Ok.ensures.at_most in
    let refusal = rw c.in-Err-Fault.field-0-is at c.in-Err-Fault.ensures.refused in
    rw c.batch_unmet.ensures (batch_faulty _ _ _ _ request bound (map edit_of c.in-Ok.edits.items) read _ _ _ c.in-Err-Fault.ensures.unchanged refusal)

pub returns-in-Err-OutOfMemory-batch-clause-serves : goal.returns-in-Err-OutOfMemory-batch-clause-serves
returns-in-Err-OutOfMemory-batch-clause-serves g c = λ request body.
    rw c.no_memory-in-Err-OutOfMemory-batch.ensures (no_memory_serves _ _ _ _ call.Batch c.in-Err-OutOfMemory-batch.ensures.unchanged _ (λ before after none. inr none))
