use Rattle.hips_catalog.proofs.Above.{better_above}
use Rattle.hips_catalog.proofs.laws.better_rows_stand_above.Goals as goal

pub returns : goal.returns
returns c = better_above
