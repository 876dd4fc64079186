use Rattle.std.specs.Arc.{arc_value}
use Rattle.past_reads.proofs.PastLemmas.{BaseSoFar}
use Rattle.past_reads.proofs.past.Past.base.Given as goal

abbrev pub invariant-loop-entry : goal.invariant-loop-entry
invariant-loop-entry l = record {
  can_next : (goal.iterator-loop-entry).can_next l.entry-iterator;
  is_finite : (goal.iterator-loop-entry).is_finite l.entry-iterator;
  so_far : BaseSoFar (λ generation. arc_value generation) l.self l.k l.best l.entry-iterator;
}
