use Rattle.std.specs.Prelude.{option_copied}
use Rattle.balanced_list.proofs.Parts.{IsPart}
use Rattle.balanced_list.proofs.list.BalancedList.search.Given as goal

abbrev pub invariant-down : goal.invariant-down
invariant-down g l = IsPart (g.P.Probe.past l.fn.probe) l.fn.self l.before l.part (option_copied l.there)
