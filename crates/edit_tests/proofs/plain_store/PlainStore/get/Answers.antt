use Rattle.std.proofs.Common.{sym, ◌∙◌, ap}
use Rattle.leaf_store.specs.Store.{value_at}
use Rattle.edit_tests.proofs.PairLemmas.{value_of_pairs, value_lent}
use Rattle.edit_tests.proofs.plain_store.PlainStore.get.Goals as goal

pub returns-clause-value : goal.returns-clause-value
returns-clause-value g c = value_lent c.get.result _ c.get.ensures.value ∙ sym (value_of_pairs c.args.key c.self.inside.entries.entries) ∙ ap (value_at c.args.key) c.self.view_is
