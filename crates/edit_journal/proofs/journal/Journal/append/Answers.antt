use Rattle.std.proofs.Common.{sym}
use Rattle.edit_journal.proofs.FaultLemmas.{one_accepted}
use Rattle.edit_journal.proofs.journal.Journal.append.Goals as goal

pub grown-requires-clause-accepted : goal.grown-requires-clause-accepted
grown-requires-clause-accepted c = one_accepted _ _ _ (sym c.in_ok-check.ensures)
