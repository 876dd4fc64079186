use Rattle.edit_journal.proofs.LeafLemmas.{value_of_others}
use Rattle.edit_journal.proofs.laws.edits_touch_their_leaves.Goals as goal

pub returns : goal.returns
returns c = value_of_others
