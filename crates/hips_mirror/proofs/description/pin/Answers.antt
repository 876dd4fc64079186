use Rattle.std.proofs.Common.{◌≡◌, refl, sym, subst}
use Rattle.mirror_frame.specs.Peer.{body_of}
use Rattle.mirror_frame.specs.Reply.{IsReply, pinned_line}
use Rattle.mirror_frame.specs.declared.ask.Ask.TheVariants.{Pin}
use Rattle.mirror_frame.specs.declared.due.Due.TheVariants.{Pinned}
use Rattle.hips_mirror.proofs.StageLemmas.{one_reached, one_refused}
use Rattle.hips_mirror.proofs.ToldLemmas.{pinned_body}
use Rattle.hips_mirror.proofs.description.pin.Goals as goal

pub returns-in-Ok-clause-reached : goal.returns-in-Ok-clause-reached
returns-in-Ok-clause-reached g c =
    let k = c.unwrap.result in
    let own : body_of c.ask.new.peer ≡ pinned_line k = pinned_body k (body_of c.ask.new.peer) c.in-Ok.prefix (sym c.unwrap.ensures) (c.in-Ok.ensures.pinned refl) in
    one_reached g.S.Source g.K.Sink k Pin c.pin.result.ask Pinned c.args.peer.now c.ask.new.peer c.pin.ensures.ask refl (λ bytes rest. IsReply Pinned bytes (pinned_line k) rest)
    (λ p q reply. subst (λ body. IsReply Pinned p body q) own reply) c.in-Ok.ensures.asked c.in-Ok.ensures.goes

pub returns-in-Err-clause-refused : goal.returns-in-Err-clause-refused
returns-in-Err-clause-refused g c =
    one_refused g.S.Source g.K.Sink 0 Pin c.pin.result.ask Pinned c.args.peer.now c.ask.new.peer c.pin.ensures.ask refl c.pin.result.number 0 c.in-Err.refusal c.pin.ensures.number
    c.in-Err.ensures.asked c.in-Err.ensures.refused c.in-Err.ensures.goes
