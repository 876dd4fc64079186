use Rattle.catalog_command.proofs.There.{rows_are_there}
use Rattle.catalog_command.proofs.laws.rows_are_there.Goals as goal

pub returns : goal.returns
returns c = rows_are_there
