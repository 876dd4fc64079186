use Rattle.std.proofs.Common.{◌≤◌, ◌∙◌, length, arith}
use Rattle.edit_journal.specs.Faults.{most_edits}
use Rattle.edit_journal.proofs.KeptLemmas.{count_seen, few_notes}
use Rattle.edit_journal.proofs.journal.Journal.len.Goals as goal

pub overflow_cast-result : goal.overflow_cast-result
overflow_cast-result c = let few : length c.self.inside.newest.notes ≤ most_edits = few_notes _ _ _ _ _ c.self.invariant in omega (arith, c.len.ensures)

pub returns-clause-count : goal.returns-clause-count
returns-clause-count c = c.len.ensures ∙ count_seen _ _ _ _ c.self.view_is
