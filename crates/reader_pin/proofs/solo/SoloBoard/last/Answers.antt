use Rattle.reader_pin.proofs.SoloLemmas.{alone, owned}
use Rattle.reader_pin.proofs.solo.SoloBoard.last.Goals as goal

pub returns-clause-alone : goal.returns-clause-alone
returns-clause-alone c = alone c.self.inside.last c.self.inside.seen.items c.self.inside.held c.args.self.now c.self.view_is

pub returns-clause-owned : goal.returns-clause-owned
returns-clause-owned c = owned c.self.inside.last c.self.inside.seen.items c.self.inside.held c.args.self.now c.self.invariant c.self.view_is
