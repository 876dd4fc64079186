use Rattle.hips_place.proofs.DoorsLemmas.{IsMeeting}
use Rattle.hips_place.proofs.doors.meet_others.Given as goal

abbrev pub invariant-loop-other : goal.invariant-loop-other
invariant-loop-other g l = IsMeeting l.fn.first l.first l.initial.other-items l.other-items l.other-index
