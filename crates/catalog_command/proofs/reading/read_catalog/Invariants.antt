use Rattle.std.proofs.Common.{◌≡◌, ◌+◌, ◌-◌, ◌≤◌}
use Rattle.catalog_command.specs.Lines.{most_lines, catalogue_of}
use Rattle.survey_link.specs.Inbox.{held, size}
use Rattle.catalog_command.proofs.Inputs.{ReadsOn}
use Rattle.catalog_command.proofs.reading.read_catalog.Given as goal

abbrev pub invariant-lines : goal.invariant-lines
invariant-lines g l = record {
  reads : ReadsOn (catalogue_of l.top l.per_tile) l.catalog l.number (held l.inbox) (g.S.Source.left l.fn.source) (g.S.Source.left l.source);
  few : l.number ≤ most_lines + 1;
  top : l.catalog.top ≡ l.top;
  size : size l.inbox ≡ 65536;
  faults : g.S.Source.faults l.source ≡ g.S.Source.faults l.fn.source;
}

-- how many lines there may still be
abbrev pub decreases-lines : goal.decreases-lines
decreases-lines g l = most_lines + 1 - l.number
