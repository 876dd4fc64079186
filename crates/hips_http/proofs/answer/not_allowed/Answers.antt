use Rattle.std.proofs.Common.{◌+◌, ◌≤◌, refl, arith}
use Rattle.hips_http.specs.declared.call.Call.TheVariants as call
use Rattle.hips_http.specs.Replies.{not_allowed}
use Rattle.hips_http.proofs.Changes.{stays_itself, unread_serves}
use Rattle.hips_http.proofs.answer.not_allowed.Goals as goal

pub returns : goal.returns
returns g c = λ request steps.
    let bound : steps ≤ steps + 0 = omega arith in
    rw c.not_allowed.ensures (unread_serves _ _ steps steps 0 request (call.NotAllowed c.args.allow) (not_allowed c.args.allow) refl bound (λ _ _. refl)
    (stays_itself _ c.last-legal.ensures.legal c.last-legal.ensures.owned) (λ before after judged. judged))
