use Rattle.std.proofs.Common.{sym, ◌∙◌, ap}
use Rattle.std.proofs.Common.{option_map}
use Rattle.std.specs.Arc.{arc_value}
use Rattle.leaf_store.specs.Store.{value_at, without_key}
use Rattle.std.specs.Ordering.{nat_cmp}
use Rattle.std.specs.BTreeMap.{is_at}
use Rattle.leaf_store.specs.Entries.{pairs_of}
use Rattle.edit_tests.proofs.PairLemmas.{ascending_pairs, value_of_pairs, pairs_of-remove_entry, other_stays}
use Rattle.edit_tests.proofs.plain_store.PlainStore.remove.Goals as goal

pub invariant_of-self : goal.invariant_of-self
invariant_of-self g c = ascending_pairs c.remove.new.self.entries c.remove.ensures.ordered

pub returns-clause-old : goal.returns-clause-old
returns-clause-old g c = ap (option_map arc_value) c.remove.ensures.value ∙ sym (value_of_pairs c.args.key c.self.inside.entries.entries) ∙ ap (value_at c.args.key) c.self.view_is

pub returns-clause-removed : goal.returns-clause-removed
returns-clause-removed g c = ap pairs_of c.remove.ensures.entries ∙ pairs_of-remove_entry (is_at (nat_cmp c.args.key)) c.self.inside.entries.entries ∙ ap (without_key c.args.key) c.self.view_is

pub returns-clause-absent : goal.returns-clause-absent
returns-clause-absent g c = value_of_pairs c.args.key c.remove.new.self.entries ∙ ap (option_map arc_value) c.remove.ensures.updates.1

pub returns-clause-others : goal.returns-clause-others
returns-clause-others g c = λ other h. other_stays c.args.key other c.self.inside.entries.entries c.remove.new.self.entries c.remove.ensures.updates.2 h ∙ ap (value_at other) c.self.view_is

pub returns-clause-ascending : goal.returns-clause-ascending
returns-clause-ascending g c = ascending_pairs c.remove.new.self.entries c.remove.ensures.ordered
