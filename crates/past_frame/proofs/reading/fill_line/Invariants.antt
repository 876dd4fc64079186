use Rattle.std.proofs.Common.{◌≡◌, ◌-◌, length}
use Rattle.http_frame.proofs.ReadingSteps.{Filling}
use Rattle.survey_link.specs.Inbox.{held, size}
use Rattle.past_frame.specs.Reading.{NeedsLine}
use Rattle.past_frame.specs.Record.{most_line}
use Rattle.past_frame.proofs.reading.fill_line.Given as goal

abbrev pub invariant-loop-end : goal.invariant-loop-end
invariant-loop-end g l = record {
  filling : Filling g.S.Source.left g.S.Source.readings NeedsLine (held l.initial.inbox) (held l.inbox) l.initial.src l.src;
  faults : g.S.Source.faults l.src ≡ g.S.Source.faults l.initial.src;
  size : size l.inbox ≡ size l.initial.inbox;
}

-- how many bytes a line may still have
abbrev pub decreases-loop-end : goal.decreases-loop-end
decreases-loop-end g l = most_line - length (held l.inbox)
