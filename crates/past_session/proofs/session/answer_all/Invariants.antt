use Rattle.std.proofs.Common.{◌≡◌}
use Rattle.past_session.specs.Order.{moment, SameEnds}
use Rattle.past_session.proofs.Going.{IsLoop}
use Rattle.past_session.proofs.session.answer_all.Given as goal

abbrev pub invariant-loop-at : goal.invariant-loop-at
invariant-loop-at g l = record {
  loop : IsLoop g.S.Source g.K.Sink (moment l.initial.session l.initial.ends l.initial.input l.initial.steps) (moment l.session l.ends l.input l.steps) l.at;
  same_ends : SameEnds l.initial.ends l.ends;
}
