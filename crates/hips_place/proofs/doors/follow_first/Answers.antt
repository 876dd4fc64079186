use Rattle.std.proofs.Common.{arith}
use Rattle.reader_pin.specs.Board.{Stays}
use Rattle.hips_place.proofs.DoorsLemmas.{follows_first, follows_next}
use Rattle.hips_place.proofs.doors.follow_first.Goals as goal

pub loop-other-init : goal.loop-other-init
loop-other-init g c = follows_first c.args.first.now c.args.others.now

pub loop-other-preserved : goal.loop-other-preserved
loop-other-preserved g c =
    let that : Stays c.other-item.result c.follow.new.self = grind (arith, c.follow.ensures.stays, c.other-item.is) in
    follows_next c.args.first.now c.args.others.now c.loop-other.other-items c.loop-other.other-index c.other-item.result c.follow.new.self
    c.loop-other.invariant c.loop-other-test.true c.other-item.is that c.in_ok-follow.ensures.met
