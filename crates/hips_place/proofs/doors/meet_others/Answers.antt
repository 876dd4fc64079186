use Rattle.std.proofs.Common.{arith}
use Rattle.reader_pin.specs.Board.{Stays}
use Rattle.hips_place.proofs.DoorsLemmas.{meets_first, meets_next}
use Rattle.hips_place.proofs.doors.meet_others.Goals as goal

pub loop-other-init : goal.loop-other-init
loop-other-init g c = meets_first c.args.first.now c.args.others.now c.last-legal.ensures.legal c.last-legal.ensures.owned

pub loop-other-preserved : goal.loop-other-preserved
loop-other-preserved g c =
    let that : Stays c.other-item.result c.meet.new.other = grind (arith, c.meet.ensures.that, c.other-item.is) in
    meets_next c.args.first.now c.loop-other.first c.meet.new.self c.args.others.now c.loop-other.other-items c.loop-other.other-index c.other-item.result c.meet.new.other
    c.loop-other.invariant c.loop-other-test.true c.other-item.is c.meet.ensures.this that c.in_ok-meet.ensures.met
