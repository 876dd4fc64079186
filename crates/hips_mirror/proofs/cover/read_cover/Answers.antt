use Rattle.std.proofs.Common.{refl, inl}
use Rattle.tile_path.specs.declared.path.Path.TheVariants.{Moc}
use Rattle.mirror_frame.specs.declared.ask.Ask.TheVariants.{File}
use Rattle.mirror_frame.specs.declared.due.Due.TheVariants.{Survey}
use Rattle.hips_mirror.specs.Mirror.{WrongCover, RefusesReply, RefusesAt}
use Rattle.hips_mirror.proofs.StageLemmas.{one_refused, body_refused_in, stopped_so}
use Rattle.hips_mirror.proofs.CoverLemmas.{cover_reached, cover_cells}
use Rattle.hips_mirror.proofs.cover.read_cover.Goals as goal

pub returns-in-Ok-clause-reached : goal.returns-in-Ok-clause-reached
returns-in-Ok-clause-reached g c =
    cover_reached g.S.Source g.K.Sink c.args.survey.now.pinned c.args.survey.now.conf c.cover-request.result.ask c.args.peer.now c.ask.new.peer c.cover-request.ensures.ask c.in-Ok.ensures.asked c.in-Ok.ensures.goes
    c.leaves_covered-numbers.result (rw c.body.ensures at c.leaves_covered-numbers.ensures.covered)

pub returns-in-Ok-clause-cells : goal.returns-in-Ok-clause-cells
returns-in-Ok-clause-cells g c = cover_cells c.args.survey.now.conf c.body.result.now c.leaves_covered-numbers.result c.leaves_covered-numbers.ensures.covered

pub returns-in-Ok-clause-refused : goal.returns-in-Ok-clause-refused
returns-in-Ok-clause-refused g c =
    body_refused_in g.S.Source g.K.Sink c.args.survey.now.pinned (File Moc) c.cover-request.result.ask (Survey c.args.survey.now.pinned) c.args.peer.now c.ask.new.peer c.cover-request.ensures.ask refl 2 (WrongCover c.args.survey.now.conf) c.leaves_covered-numbers.result
    c.in-Ok.ensures.asked c.in-Ok.ensures.goes (rw c.body.ensures at c.leaves_covered-numbers.ensures.refused) c.leaves_covered-numbers.ensures.of_body

pub returns-in-Err-clause-refused : goal.returns-in-Err-clause-refused
returns-in-Err-clause-refused g c =
    let k = c.args.survey.now.pinned in
    stopped_so g.S.Source g.K.Sink k _ (λ bytes. RefusesReply (Survey k) 2 bytes c.in-Err.refusal) (λ bytes. RefusesAt (Survey k) 2 (WrongCover c.args.survey.now.conf) bytes c.in-Err.refusal) _ _ c.in-Err.refusal (λ bytes why. inl why)
    (one_refused g.S.Source g.K.Sink k (File Moc) c.cover-request.result.ask (Survey k) c.args.peer.now c.ask.new.peer c.cover-request.ensures.ask refl c.cover-request.result.number 2 c.in-Err.refusal c.cover-request.ensures.number
    c.in-Err.ensures.asked c.in-Err.ensures.refused c.in-Err.ensures.goes)
