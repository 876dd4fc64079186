use Rattle.leaf_store.proofs.Roots.{tree_none}
use Rattle.leaf_store.proofs.store.Store.new.Goals as goal

pub invariant_of-result : goal.invariant_of-result
invariant_of-result g c = tree_none
