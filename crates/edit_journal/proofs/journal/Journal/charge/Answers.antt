use Rattle.edit_journal.proofs.KeptLemmas.{charge_seen}
use Rattle.edit_journal.proofs.journal.Journal.charge.Goals as goal

pub returns-clause-charge : goal.returns-clause-charge
returns-clause-charge c = charge_seen _ _ _ _ _ _ c.self.view_is c.self.invariant
