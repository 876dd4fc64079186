use Rattle.std.specs.Map.Iter.{deref_pair}
use Rattle.std.proofs.Common.{rules}
use Rattle.past_reads.proofs.HeldLemmas.{nth-shows}
use Rattle.past_reads.proofs.past.Past.held.Goals as goal

pub returns-in-Some : goal.returns-in-Some
returns-in-Some c = search (rules, nth-shows deref_pair _ _ _ _ c.nth.ensures.ran)

pub returns-in-None : goal.returns-in-None
returns-in-None c = search (rules, nth-shows deref_pair _ _ _ _ c.nth.ensures.ran)
