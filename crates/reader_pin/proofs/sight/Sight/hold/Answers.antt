use Rattle.std.proofs.Common.{ap, ◌∙◌}
use Rattle.std.specs.Arc.{arc_value}
use Rattle.reader_pin.specs.Board.{holding_last}
use Rattle.reader_pin.specs.Shared.{held_at}
use Rattle.reader_pin.proofs.SightLemmas.{holding}
use Rattle.reader_pin.proofs.sight.Sight.hold.Goals as goal

pub returns : goal.returns
returns g c = holding c.self.inside.number c.self.inside.seen c.self.inside.own.items (held_at arc_value c.self.inside.seen.last c.self.inside.held) c.self.invariant.seen ∙ ap holding_last c.self.view_is
