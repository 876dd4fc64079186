use Rattle.past_reads.specs.Past.{GoesOnFrom}
use Rattle.past_tests.proofs.prefixes.all_are_read.Given as goal

abbrev pub invariant-loop-row : goal.invariant-loop-row
invariant-loop-row g l =
    (goal.iterator-loop-row g).can_next l.row-iterator ×
    ((goal.iterator-loop-row g).is_finite l.row-iterator ×
    GoesOnFrom l.past l.journal)
