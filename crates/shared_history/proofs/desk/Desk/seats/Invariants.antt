use Rattle.std.proofs.Common.{◌≡◌, map}
use Rattle.std.specs.Prelude.{All}
use Rattle.std.specs.List.{range_with_len}
use Rattle.shared_history.proofs.desk.Desk.seats.Given as goal

-- the seats have the numbers below the next one, and each has seen the desk's history
abbrev pub invariant-loop-number : goal.invariant-loop-number
invariant-loop-number g l = (map (λ seat. seat.number) l.seats.items ≡ range_with_len 0 l.number) × All (λ seat. seat.seen ≡ l.fn.self.newest) l.seats.items
