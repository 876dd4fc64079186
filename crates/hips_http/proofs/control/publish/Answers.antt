use Rattle.std.proofs.Common.{inr}
use Rattle.hips_http.proofs.Calls.{serves_later, published_serves, already_serves, no_memory_serves}
use Rattle.hips_http.proofs.control.publish.Goals as goal

pub returns-in-Ok-New-clause-serves : goal.returns-in-Ok-New-clause-serves
returns-in-Ok-New-clause-serves g c = λ request.
    let told = rw c.in-Ok-New.field-0-is at c.in-Ok-New.ensures.published in
    rw c.published.ensures
    (serves_later _ _ _ _ _ _ _ _ c.pin.ensures (published_serves c.more_touched_is_more_work.ensures _ _ _ _ _ told.0 told.1 c.in-Ok-New.ensures.steps request))

pub returns-in-Ok-Already-clause-serves : goal.returns-in-Ok-Already-clause-serves
returns-in-Ok-Already-clause-serves g c = λ request.
    let told = rw c.in-Ok-Already.field-0-is at c.in-Ok-Already.ensures.published in
    rw c.already.ensures
    (serves_later _ _ _ _ _ _ _ _ c.pin.ensures (already_serves c.more_touched_is_more_work.ensures _ _ _ _ _ told.0 told.1 c.in-Ok-Already.ensures.steps request))

pub returns-in-Err-clause-serves : goal.returns-in-Err-clause-serves
returns-in-Err-clause-serves g c = λ request.
    rw c.no_memory.ensures
    (serves_later _ _ _ _ _ _ _ _ c.pin.ensures (no_memory_serves _ _ _ _ _ c.in-Err.ensures.unchanged request (λ before after none. inr (inr none))))
