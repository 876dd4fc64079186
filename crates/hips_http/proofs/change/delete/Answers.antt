use Rattle.std.proofs.Common.{sym, inr}
use Rattle.edit_journal.specs.Edit.{edit_of}
use Rattle.hips_http.specs.declared.call.Call.TheVariants as call
use Rattle.hips_http.proofs.Calls.{no_memory_serves}
use Rattle.hips_http.proofs.Changes.{stays_itself, delete_unmet, delete_refused, delete_accepted}
use Rattle.hips_http.proofs.change.delete.Goals as goal

pub returns-in-None : goal.returns-in-None
returns-in-None g c = λ path body steps.
    let told = rw c.last.ensures.last at c.unmet_delete.ensures in
    rw told (delete_unmet _ _ steps c.args.request.now path body c.args.leaf (stays_itself _ c.last.ensures.legal c.last.ensures.owned) (sym c.in-None.ensures))

pub returns-in-Ok : goal.returns-in-Ok
returns-in-Ok g c = λ path body steps.
    rw c.edited.ensures (delete_accepted _ _ steps c.args.request.now path body c.args.leaf (edit_of c.in-Some.edit) (sym c.in-Some.ensures) c.in-Ok.accepted c.in-Ok.ensures.accepted)

pub returns-in-Err-Fault : goal.returns-in-Err-Fault
returns-in-Err-Fault g c = λ path body steps.
    let refusal = rw c.in-Err-Fault.field-0-is at c.in-Err-Fault.ensures.refused in
    rw c.delete_refused.ensures (delete_refused _ _ steps c.args.request.now path body c.args.leaf (edit_of c.in-Some.edit) (sym c.in-Some.ensures) _ _ c.in-Err-Fault.ensures.unchanged refusal)

pub returns-in-Err-OutOfMemory : goal.returns-in-Err-OutOfMemory
returns-in-Err-OutOfMemory g c = λ path body steps.
    rw c.no_memory.ensures (no_memory_serves _ _ _ _ (call.Delete c.args.leaf) c.in-Err-OutOfMemory.ensures.unchanged _ (λ before after none. inr none))
