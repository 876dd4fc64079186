use Rattle.std.specs.Arc.{arc_value}
use Rattle.std.proofs.lemmas.Iterator.Consumers.{YieldsList-from_first, nth_from_yields_List}
use Rattle.edit_tests.proofs.plain_store.PlainStore.at.Goals as goal

pub returns-clause-pair : goal.returns-clause-pair
returns-clause-pair g c = nth_from_yields_List c.nth.result c.nth.new.self c.args.i c.nth.ensures.ran (YieldsList-from_first (λ pair. (pair.0, arc_value pair.1.now)) (λ left. left) _ c.iter.ensures.all)
