use Rattle.rebuild_worker.proofs.Levels.{owed_to_made, above_rest}
use Rattle.rebuild_worker.proofs.serial.merge_all.Goals as goal

pub loop-permit-preserved : goal.loop-permit-preserved
loop-permit-preserved g c = (
  owed_to_made c.args.shape c.args.sources.children.now c.loop-permit.level.items c.push.new.self.items c.in_ok-named.named c.in-Some.permit c.loop-permit.todo c.take_first.new.self c.args.todo
      c.in_ok-push.ensures.items c.in_ok-named.ensures c.in-Some.ensures c.loop-permit.invariant.0,
  above_rest c.args.shape c.in-Some.permit c.loop-permit.todo c.take_first.new.self c.in-Some.ensures c.loop-permit.invariant.1,
)
