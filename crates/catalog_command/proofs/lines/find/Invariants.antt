use Rattle.std.proofs.Common.{◌≡◌, ◌-◌, length}
use Rattle.catalog_command.specs.Lines.{most_bytes}
use Rattle.survey_link.specs.Inbox.{held, size}
use Rattle.catalog_command.specs.Unread.{Receives}
use Rattle.catalog_command.proofs.lines.find.Given as goal

abbrev pub invariant-reading : goal.invariant-reading
invariant-reading g l = record {
  received : Receives (held l.initial.inbox) (held l.inbox) (g.S.Source.left l.initial.source) (g.S.Source.left l.source);
  faults : g.S.Source.faults l.source ≡ g.S.Source.faults l.initial.source;
  size : size l.inbox ≡ size l.initial.inbox;
}

-- how many bytes a line may still have
abbrev pub decreases-reading : goal.decreases-reading
decreases-reading g l = most_bytes - length (held l.inbox)
