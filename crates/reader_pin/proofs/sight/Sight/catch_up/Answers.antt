use Rattle.std.proofs.Common.{sym, subst}
use Rattle.std.specs.Arc.{arc_value}
use Rattle.shared_history.specs.Histories.{SeenHistory, IsSeenHistory, GoesOn, TellsMore}
use Rattle.survey_core.specs.State.{StateContent}
use Rattle.reader_pin.specs.Shared.{IsOneSurvey, held_at}
use Rattle.reader_pin.proofs.SightLemmas.{moved_sight, moved_stays}
use Rattle.reader_pin.proofs.sight.Sight.catch_up.Goals as goal

pub invariant_of-self : goal.invariant_of-self
invariant_of-self g c =
    let told = subst (TellsMore c.self.inside.number c.self.inside.seen c.args.newest.now) c.in-Some.is c.in_ok-newer.ensures in
    let is : IsSeenHistory IsOneSurvey c.in-Some.newer = subst (IsSeenHistory IsOneSurvey) (sym told.0) c.last-newest.ensures.seen in
    let goes : GoesOn c.self.inside.number c.self.inside.seen c.in-Some.newer = subst (λ (seen : SeenHistory StateContent). GoesOn c.self.inside.number c.self.inside.seen seen) (sym told.0) told.1 in
    rw c.move_on.ensures.seen
    (moved_sight c.self.inside.number c.self.inside.seen c.in-Some.newer c.self.inside.own.items (held_at arc_value c.self.inside.seen.last c.self.inside.held) (held_at arc_value c.in-Some.newer.last c.move_on.new.held)
    c.self.invariant is goes c.move_on.ensures.held)

pub returns-in-Some-clause-stays : goal.returns-in-Some-clause-stays
returns-in-Some-clause-stays g c =
    let told = subst (TellsMore c.self.inside.number c.self.inside.seen c.args.newest.now) c.in-Some.is c.in_ok-newer.ensures in
    let is : IsSeenHistory IsOneSurvey c.in-Some.newer = subst (IsSeenHistory IsOneSurvey) (sym told.0) c.last-newest.ensures.seen in
    let goes : GoesOn c.self.inside.number c.self.inside.seen c.in-Some.newer = subst (λ (seen : SeenHistory StateContent). GoesOn c.self.inside.number c.self.inside.seen seen) (sym told.0) told.1 in
    rw (← c.self.view_is, c.move_on.ensures.seen)
    (moved_stays c.self.inside.number c.self.inside.seen c.in-Some.newer c.self.inside.own.items (held_at arc_value c.self.inside.seen.last c.self.inside.held) (held_at arc_value c.in-Some.newer.last c.move_on.new.held)
    c.self.invariant.seen is c.self.invariant.own goes c.move_on.ensures.held)
