use Rattle.edit_journal.specs.Journal.{journal_edits}
use Rattle.generation.proofs.Edits.{Taken}
use Rattle.generation.proofs.changes.Changes.of.Given as goal

abbrev pub invariant-loop-i : goal.invariant-loop-i
invariant-loop-i l = Taken (journal_edits l.journal) l.fn.first l.i l.leaves l.after l.touched.items
