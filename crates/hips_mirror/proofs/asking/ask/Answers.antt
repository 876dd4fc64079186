use Rattle.mirror_frame.specs.Peer.{talk}
use Rattle.hips_mirror.proofs.ToldLemmas.{stopped_of}
use Rattle.hips_mirror.proofs.StageLemmas.{stop_goes}
use Rattle.hips_mirror.proofs.asking.ask.Goals as goal

pub returns-in-Err-clause-refused : goal.returns-in-Err-clause-refused
returns-in-Err-clause-refused g c =
    rw c.refusal_of.ensures
    (stopped_of g.S.Source g.K.Sink c.args.request.now.ask c.args.due (talk c.args.peer.now) (talk c.ask.new.self) c.args.request.now.number (g.S.Source.left c.args.peer.now.src.now) c.in-Err.stop c.in-Err.ensures.asked c.in-Err.ensures.stop)

pub returns-in-Err-clause-goes : goal.returns-in-Err-clause-goes
returns-in-Err-clause-goes g c = rw c.refusal_of.ensures (stop_goes g.S.Source g.K.Sink c.args.peer.now c.ask.new.self c.in-Err.stop c.args.request.now.number c.in-Err.ensures.goes)
