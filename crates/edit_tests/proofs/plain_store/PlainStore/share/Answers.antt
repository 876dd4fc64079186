use Rattle.std.proofs.Common.{ℕ, List, sym, ◌∙◌, subst}
use Rattle.leaf_store.specs.Store.{IsAscending}
use Rattle.edit_tests.proofs.PairLemmas.{cloned_pairs}
use Rattle.edit_tests.proofs.plain_store.PlainStore.share.Goals as goal

pub invariant_of-result : goal.invariant_of-result
invariant_of-result g c = let P : List (ℕ × g.row.T.Denot) → Type 0 = λ pairs. IsAscending pairs in subst P (sym (cloned_pairs c.self.inside.entries.entries c.in_ok-entries.entries.entries c.in_ok-entries.ensures.cases)) c.self.invariant

pub returns-clause-same : goal.returns-clause-same
returns-clause-same g c = cloned_pairs c.self.inside.entries.entries c.in_ok-entries.entries.entries c.in_ok-entries.ensures.cases ∙ c.self.view_is
