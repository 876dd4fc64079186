use Rattle.std.specs.Arc.{arc_value}
use Rattle.reader_pin.specs.Shared.{held_at}
use Rattle.reader_pin.proofs.SightLemmas.{moved_sight, moved_stays}
use Rattle.reader_pin.proofs.sight.Sight.look.Goals as goal

pub invariant_of-self : goal.invariant_of-self
invariant_of-self g c =
    rw c.move_on.ensures.seen
    (moved_sight c.self.inside.number c.self.inside.seen c.in-Some.newer c.self.inside.own.items (held_at arc_value c.self.inside.seen.last c.self.inside.held) (held_at arc_value c.in-Some.newer.last c.move_on.new.held)
    c.self.invariant c.last-newest.ensures.seen c.in-Some.ensures c.move_on.ensures.held)

pub returns-in-Some : goal.returns-in-Some
returns-in-Some g c =
    rw (← c.self.view_is, c.move_on.ensures.seen)
    (moved_stays c.self.inside.number c.self.inside.seen c.in-Some.newer c.self.inside.own.items (held_at arc_value c.self.inside.seen.last c.self.inside.held) (held_at arc_value c.in-Some.newer.last c.move_on.new.held)
    c.self.invariant.seen c.last-newest.ensures.seen c.self.invariant.own c.in-Some.ensures c.move_on.ensures.held)
