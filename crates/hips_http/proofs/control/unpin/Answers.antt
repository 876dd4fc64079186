use Rattle.hips_http.proofs.Calls.{released_serves}
use Rattle.hips_http.proofs.control.unpin.Goals as goal

pub returns : goal.returns
returns g c = λ request steps. rw c.released.ensures (released_serves _ _ steps c.last-legal.ensures.legal c.last-legal.ensures.owned c.release.ensures request)
