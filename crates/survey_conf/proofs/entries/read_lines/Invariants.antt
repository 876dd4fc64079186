use Rattle.std.proofs.Common.{◌+◌, ◌≤◌, length}
use Rattle.survey_conf.specs.Lines.{contents}
use Rattle.survey_conf.specs.EntriesView.{entries_view}
use Rattle.survey_conf.proofs.ScanLemmas.{Scanned}
use Rattle.survey_conf.proofs.entries.read_lines.Given as goal

abbrev pub invariant-loop-rest : goal.invariant-loop-rest
invariant-loop-rest l = record {
  scanned : Scanned (contents l.fn.text) (contents l.rest) (entries_view l.entries.entries) l.line;
  count : l.line + length l.rest ≤ length l.fn.text;
}

abbrev pub decreases-loop-rest : goal.decreases-loop-rest
decreases-loop-rest l = length l.rest
