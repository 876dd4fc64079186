use Rattle.hips_place.proofs.DoorsLemmas.{IsFollowing}
use Rattle.hips_place.proofs.doors.follow_first.Given as goal

abbrev pub invariant-loop-other : goal.invariant-loop-other
invariant-loop-other g l = IsFollowing l.fn.first l.initial.other-items l.other-items l.other-index
