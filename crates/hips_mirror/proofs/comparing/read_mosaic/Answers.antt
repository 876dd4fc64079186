use Rattle.std.proofs.Common.{refl, arith, ◌<◌, ◌+◌}
use Rattle.tile_path.specs.declared.path.Path.TheVariants.{Allsky}
use Rattle.mirror_frame.specs.declared.ask.Ask.TheVariants.{File}
use Rattle.mirror_frame.specs.declared.due.Due.TheVariants.{Survey}
use Rattle.hips_mirror.proofs.StageLemmas.{one_refused}
use Rattle.hips_mirror.proofs.CopyLemmas.{mosaic_reached}
use Rattle.hips_mirror.proofs.comparing.read_mosaic.Goals as goal

pub returns-in-Ok-clause-reached : goal.returns-in-Ok-clause-reached
returns-in-Ok-clause-reached g c =
    let some : 0 < c.args.leaves = omega (arith, c.if-leaves-eq0.false) in
    mosaic_reached g.S.Source g.K.Sink c.args.pinned c.mosaic.result.ask c.args.leaves c.args.peer.now c.ask.new.peer some c.mosaic.ensures.ask c.in-Ok.ensures.asked c.in-Ok.ensures.goes

pub returns-in-Err-clause-refused : goal.returns-in-Err-clause-refused
returns-in-Err-clause-refused g c = (
  omega (arith, c.if-leaves-eq0.false),
  one_refused g.S.Source g.K.Sink c.args.pinned (File Allsky) c.mosaic.result.ask (Survey c.args.pinned) c.args.peer.now c.ask.new.peer c.mosaic.ensures.ask refl c.mosaic.result.number (3 + c.args.leaves) c.in-Err.refusal c.mosaic.ensures.number
      c.in-Err.ensures.asked c.in-Err.ensures.refused c.in-Err.ensures.goes,
)
