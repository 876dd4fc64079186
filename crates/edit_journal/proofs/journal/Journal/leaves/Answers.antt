use Rattle.edit_journal.proofs.KeptLemmas.{leaves_seen, fits_seen}
use Rattle.edit_journal.proofs.journal.Journal.leaves.Goals as goal

pub returns-clause-leaves : goal.returns-clause-leaves
returns-clause-leaves c = leaves_seen _ _ _ _ _ _ c.self.view_is c.self.invariant

pub returns-clause-fits : goal.returns-clause-fits
returns-clause-fits c = fits_seen _ _ _ _ _ _ c.self.view_is c.self.invariant
