use Rattle.hips_place.proofs.DoorsLemmas.{front_met}
use Rattle.hips_place.proofs.doors.meet_first.Goals as goal

pub returns : goal.returns
returns g c =
    let split = c.split_at_mut-first in
    front_met c.follow_first.result c.args.boards.now split.result.0.now split.result.1.now c.meet_others.new.others c.index-first-0.result c.meet_others.new.first split.ensures.value split.ensures.front_len
    c.in_ok-meet_others.ensures.stays c.in_ok-meet_others.ensures.others c.in_ok-meet_others.ensures.met c.follow_first.ensures
