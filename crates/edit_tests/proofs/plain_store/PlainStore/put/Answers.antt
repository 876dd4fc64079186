use Rattle.std.proofs.Common.{sym, ◌∙◌, ap}
use Rattle.std.proofs.Common.{option_map}
use Rattle.std.specs.Arc.{arc_value}
use Rattle.leaf_store.specs.Store.{value_at, with_value}
use Rattle.leaf_store.specs.Entries.{pairs_of}
use Rattle.edit_tests.proofs.PairLemmas.{ascending_pairs, value_of_pairs, pairs_of-insert_entry, other_stays}
use Rattle.edit_tests.proofs.plain_store.PlainStore.put.Goals as goal

pub invariant_of-self-2 : goal.invariant_of-self-2
invariant_of-self-2 g c = ascending_pairs c.insert.new.self.entries c.insert.ensures.ordered

pub returns-clause-old : goal.returns-clause-old
returns-clause-old g c = ap (option_map arc_value) c.in_ok-insert.ensures.old ∙ sym (value_of_pairs c.args.key c.self.inside.entries.entries) ∙ ap (value_at c.args.key) c.self.view_is

pub returns-clause-put : goal.returns-clause-put
returns-clause-put g c = ap pairs_of c.in_ok-insert.ensures.entries ∙ pairs_of-insert_entry c.self.inside.entries.entries c.args.key c.args.value ∙ ap (with_value c.args.key (arc_value c.args.value)) c.self.view_is

pub returns-clause-there : goal.returns-clause-there
returns-clause-there g c = value_of_pairs c.args.key c.insert.new.self.entries ∙ ap (option_map arc_value) c.in_ok-insert.ensures.updates.1

pub returns-clause-others : goal.returns-clause-others
returns-clause-others g c = λ other h. other_stays c.args.key other c.self.inside.entries.entries c.insert.new.self.entries c.in_ok-insert.ensures.updates.2 h ∙ ap (value_at other) c.self.view_is

pub returns-clause-ascending : goal.returns-clause-ascending
returns-clause-ascending g c = ascending_pairs c.insert.new.self.entries c.insert.ensures.ordered
