use Rattle.std.proofs.Common.{ℕ, ◌<◌, ap, subst, ◌∙◌}
use Rattle.shared_history.specs.Histories.{IsSeenHistory}
use Rattle.reader_pin.specs.Board.{BoardContent}
use Rattle.reader_pin.specs.Shared.{IsOneSurvey}
use Rattle.reader_pin.proofs.SightLemmas.{seen_legal, survey_more, step_at}
use Rattle.reader_pin.proofs.sight.Sight.happen.Goals as goal

pub returns-in_err-reserve-clause-legal : goal.returns-in_err-reserve-clause-legal
returns-in_err-reserve-clause-legal g c = seen_legal c.self.inside.seen c.self.invariant.seen

pub append-requires : goal.append-requires
append-requires g c =
    let all : IsSeenHistory IsOneSurvey c.args.desk.now.newest = subst (IsSeenHistory IsOneSurvey) c.newest.ensures c.last-all.ensures.seen in
    record {
      seated = subst (λ (n : ℕ). c.self.inside.number < n) (ap (λ (b : BoardContent). b.seat.seats) c.self.view_is ∙ c.requires.seen.seats) c.self.invariant.seated;
      legal = survey_more c.args.desk.now.newest c.args.next all (c.requires.conf ∙ c.requires.seen.conf) (c.requires.opening ∙ c.requires.seen.opening)
          (step_at c.args.desk.now.newest c.args.self.now c.args.next c.requires.seen all c.requires.step);
    }

pub returns-in_err-newest-clause-legal : goal.returns-in_err-newest-clause-legal
returns-in_err-newest-clause-legal g c = seen_legal c.self.inside.seen c.self.invariant.seen

pub returns-clause-legal : goal.returns-clause-legal
returns-clause-legal g c = rw c.move_on.ensures.seen (seen_legal c.in_ok-newest.newest c.last-newest.ensures.seen)
