use Rattle.std.proofs.Common.{inl, inr, refl}
use Rattle.mirror_frame.proofs.Replies.{stops_head}
use Rattle.mirror_frame.proofs.reading.begin_reply.Goals as goal

pub returns-in-None-clause-stop : goal.returns-in-None-clause-stop
returns-in-None-clause-stop g c =
    inr (inl (c.in-Ok.end, c.in-Ok.ensures.found, λ size prefix b. c.in-None.ensures.none refl size prefix (rw c.held.ensures b.says) b.fits))

pub returns-in-Err-clause-stop : goal.returns-in-Err-clause-stop
returns-in-Err-clause-stop g c = rw c.stop_of.ensures (stops_head c.args.due _ _ c.in-Err.stopped c.in-Err.ensures.stop)
