use Rattle.edit_journal.proofs.LeafLemmas.{leaves_go_on}
use Rattle.edit_journal.proofs.FaultLemmas.{charge_of-append}
use Rattle.edit_journal.proofs.laws.edits_go_on.Goals as goal

pub returns : goal.returns
returns c = record { leaves = leaves_go_on; charge = charge_of-append }
