use Rattle.std.proofs.Common.{◌≡◌, rules, nat_eq, Some, None}
use Rattle.std.specs.Prelude.{is_some}
use Rattle.std.specs.Arc.{arc_value}
use Rattle.std.specs.Map.{lookup}
use Rattle.past_reads.proofs.PastLemmas.{found_held, not_held}
use Rattle.past_reads.proofs.past.Past.generation_of.Goals as goal

pub returns-in-Some-clause-found : goal.returns-in-Some-clause-found
returns-in-Some-clause-found g c =
    let there : lookup (nat_eq c.args.k) c.self.inside.cache.entries ≡ Some c.in-Some.held.now = search rules in
    let found = found_held (λ generation. arc_value generation) c.args.self.now (arc_value c.self.inside.conf) c.self.inside.journal c.args.journal.now c.self.inside.opening c.self.inside.cache.entries c.self.inside.cache.cap c.args.k c.in-Some.held.now
    c.self.view_is c.self.invariant c.requires.journal there in
    search (rules, found)

pub returns-in-None-clause-steps : goal.returns-in-None-clause-steps
returns-in-None-clause-steps g c =
    let none : lookup (nat_eq c.args.k) c.self.inside.cache.entries ≡ None = search rules in
    rw (not_held c.args.self.now (arc_value c.self.inside.conf) (is_some c.self.inside.opening) c.self.inside.journal c.self.inside.cache.entries c.self.inside.cache.cap c.args.k c.self.view_is none) c.make.ensures.steps
