use Rattle.std.proofs.Common.{refl, inl}
use Rattle.tile_path.specs.declared.path.Path.TheVariants.{Properties}
use Rattle.mirror_frame.specs.declared.ask.Ask.TheVariants.{File}
use Rattle.mirror_frame.specs.declared.due.Due.TheVariants.{Survey}
use Rattle.hips_mirror.specs.Mirror.{WrongProperties, RefusesReply, RefusesAt}
use Rattle.hips_mirror.proofs.StageLemmas.{one_refused, body_refused_in, stopped_so}
use Rattle.hips_mirror.proofs.DescriptionLemmas.{properties_reached}
use Rattle.hips_mirror.proofs.description.read_properties.Goals as goal

pub returns-in-Ok-clause-reached : goal.returns-in-Ok-clause-reached
returns-in-Ok-clause-reached g c =
    properties_reached g.S.Source g.K.Sink c.args.pinned c.properties.result.ask c.args.peer.now c.ask.new.peer c.properties.ensures.ask c.in-Ok.ensures.asked c.in-Ok.ensures.goes
    c.describe.result (rw c.body.ensures at c.describe.ensures.described) (rw c.body.ensures at c.describe.ensures.counts)

pub returns-in-Ok-clause-refused : goal.returns-in-Ok-clause-refused
returns-in-Ok-clause-refused g c =
    body_refused_in g.S.Source g.K.Sink c.args.pinned (File Properties) c.properties.result.ask (Survey c.args.pinned) c.args.peer.now c.ask.new.peer c.properties.ensures.ask refl 1 WrongProperties c.describe.result
    c.in-Ok.ensures.asked c.in-Ok.ensures.goes (rw c.body.ensures at c.describe.ensures.refused) c.describe.ensures.of_body

pub returns-in-Err-clause-refused : goal.returns-in-Err-clause-refused
returns-in-Err-clause-refused g c =
    stopped_so g.S.Source g.K.Sink c.args.pinned _ (λ bytes. RefusesReply (Survey c.args.pinned) 1 bytes c.in-Err.refusal) (λ bytes. RefusesAt (Survey c.args.pinned) 1 WrongProperties bytes c.in-Err.refusal) _ _ c.in-Err.refusal (λ bytes why. inl why)
    (one_refused g.S.Source g.K.Sink c.args.pinned (File Properties) c.properties.result.ask (Survey c.args.pinned) c.args.peer.now c.ask.new.peer c.properties.ensures.ask refl c.properties.result.number 1 c.in-Err.refusal c.properties.ensures.number
    c.in-Err.ensures.asked c.in-Err.ensures.refused c.in-Err.ensures.goes)
