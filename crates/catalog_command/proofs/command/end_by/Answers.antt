use Rattle.std.proofs.Common.{refl}
use Rattle.catalog_command.proofs.command.end_by.Goals as goal

pub returns-in-Line-clause-said : goal.returns-in-Line-clause-said
returns-in-Line-clause-said g c = rw c.in-Line.is (c.say.ensures.said _ refl)
