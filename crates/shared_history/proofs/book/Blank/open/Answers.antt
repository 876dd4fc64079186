use Rattle.std.proofs.Common.{ap, ◌∙◌}
use Rattle.shared_history.specs.Histories.{one_state}
use Rattle.shared_history.proofs.Keeping.{as_many}
use Rattle.shared_history.proofs.book.Blank.open.Goals as goal

pub returns-in-Ok-clause-seats : goal.returns-in-Ok-clause-seats
returns-in-Ok-clause-seats g c = as_many (λ seat. seat.number) c.in-Ok.taken.items c.args.seats c.in-Ok.ensures.numbers

pub returns-in-Ok-clause-seen : goal.returns-in-Ok-clause-seen
returns-in-Ok-clause-seen g c k seat below = c.in-Ok.ensures.seen k seat below ∙ (c.in_ok-desk.ensures.newest ∙ (c.in_ok-newest.ensures ∙ ap (one_state c.args.seats) c.in_ok-new.ensures.ok))
