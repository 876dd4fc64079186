use Rattle.std.proofs.Common.{◌∙◌}
use Rattle.std.specs.Arc.{arc_value}
use Rattle.shared_history.proofs.Keeping.{own_after}
use Rattle.shared_history.proofs.desk.Desk.append.Goals as goal

pub returns-clause-own : goal.returns-clause-own
returns-clause-own g c =
    rw (← c.self.view_is) (own_after g.L.Law.legal c.self.inside.newest c.in_ok-newest.answer c.args.seat (arc_value c.in_ok-last.last) c.last-all.ensures.seen (c.in_ok-newest.ensures.alike ∙ c.in_ok-newest.ensures.history))
