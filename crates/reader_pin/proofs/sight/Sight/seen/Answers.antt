use Rattle.std.proofs.Common.{subst}
use Rattle.std.specs.Arc.{arc_value}
use Rattle.reader_pin.specs.Board.{IsOwned}
use Rattle.reader_pin.specs.Shared.{held_at}
use Rattle.reader_pin.proofs.SightLemmas.{owned_at}
use Rattle.reader_pin.proofs.sight.Sight.seen.Goals as goal

pub returns-clause-owned : goal.returns-clause-owned
returns-clause-owned g c =
    subst IsOwned c.self.view_is (owned_at c.self.inside.number c.self.inside.seen c.self.inside.own.items (held_at arc_value c.self.inside.seen.last c.self.inside.held) c.self.invariant.seen c.self.invariant.own)
