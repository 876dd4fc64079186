use Rattle.reader_pin.proofs.SightLemmas.{same_stays}
use Rattle.reader_pin.proofs.shared.Shared.meet.Goals as goal

pub returns-then-len-clause-that : goal.returns-then-len-clause-that
returns-then-len-clause-that g c = rw (← c.other.view_is) (same_stays c.other.inside.sight c.seen-2.ensures.legal c.seen-2.ensures.owned)

pub returns-clause-this : goal.returns-clause-this
returns-clause-this g c = rw (← c.self.view_is) (same_stays c.self.inside.sight c.seen.ensures.legal c.seen.ensures.owned)
