use Rattle.std.proofs.Common.{sym, ap, ◌∙◌, subst}
use Rattle.std.specs.Arc.{arc_value}
use Rattle.reader_pin.specs.Board.{BoardContent, IsOwned, last_seen, state_in}
use Rattle.reader_pin.specs.Shared.{held_at}
use Rattle.reader_pin.proofs.SightLemmas.{state_at, owned_at}
use Rattle.reader_pin.proofs.sight.Sight.state.Goals as goal

pub returns-clause-last : goal.returns-clause-last
returns-clause-last g c =
    c.deref.ensures ∙ (c.last.ensures.last ∙ (sym (state_at c.self.inside.number c.self.inside.seen c.self.inside.own.items (held_at arc_value c.self.inside.seen.last c.self.inside.held) c.self.invariant.seen)
    ∙ ap (λ (board : BoardContent). state_in board (last_seen board)) c.self.view_is))

pub returns-clause-owned : goal.returns-clause-owned
returns-clause-owned g c =
    subst IsOwned c.self.view_is (owned_at c.self.inside.number c.self.inside.seen c.self.inside.own.items (held_at arc_value c.self.inside.seen.last c.self.inside.held) c.self.invariant.seen c.self.invariant.own)
