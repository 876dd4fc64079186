use Rattle.std.proofs.Common.{subst}
use Rattle.catalog_command.specs.Unread.{IsFound}
use Rattle.catalog_command.proofs.lines.find.Goals as goal

pub returns-in-Some-clause-found : goal.returns-in-Some-clause-found
returns-in-Some-clause-found g c =
    subst (λ bytes. IsFound bytes (g.S.Source.left c.reading.source) c.in-Some.found) c.held.ensures (c.in-Some.ensures.found (g.S.Source.left c.reading.source))
