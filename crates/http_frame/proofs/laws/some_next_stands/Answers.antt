use Rattle.std.proofs.Common.{refl}
use Rattle.http_frame.proofs.Stands.{front_found, front_refused, front_endless}
use Rattle.http_frame.proofs.laws.some_next_stands.Goals as goal

pub returns-in-Ok : goal.returns-in-Ok
returns-in-Ok c = front_found c.args.room c.args.unread.now c.min.result _ _ c.in-Some.length c.in-Some.ensures.found c.in-Ok.ensures.read

pub returns-in-Err : goal.returns-in-Err
returns-in-Err c = front_refused c.args.room c.args.unread.now c.min.result _ c.in-Some.length c.in-Some.ensures.found c.in-Err.ensures.refused

pub returns-in-None : goal.returns-in-None
returns-in-None c = front_endless c.args.room c.args.unread.now c.min.result c.min.ensures (c.in-None.ensures.none refl)
