use Rattle.served_copy.proofs.Copies.{served, joined}
use Rattle.served_copy.proofs.copying.mirror_session.Goals as goal

pub returns-clause-served : goal.returns-clause-served
returns-clause-served g c =
    served c.sessions_answer_copies.ensures c.peers_are_copied.ensures (g.S.Source.left c.args.src.now) (g.K.Sink.held c.args.sink.now) (g.K.Sink.held c.mirror.new.sink)
    (g.H.Shelf.files c.args.shelf.now) (g.H.Shelf.files c.mirror.new.shelf) _ _ c.mirror.result c.mirror.ensures.copied c.mirror.ensures.refused

pub returns-clause-joined : goal.returns-clause-joined
returns-clause-joined g c =
    joined c.copies_are_of_seen_states.ensures (g.S.Source.left c.args.src.now) (g.K.Sink.held c.args.sink.now) (g.K.Sink.held c.mirror.new.sink)
    (g.H.Shelf.files c.args.shelf.now) (g.H.Shelf.files c.mirror.new.shelf) _ _ c.mirror.result c.mirror.ensures.copied
