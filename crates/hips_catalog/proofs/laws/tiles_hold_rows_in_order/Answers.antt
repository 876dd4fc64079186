use Rattle.hips_catalog.proofs.OneTile.{rows_in_order}
use Rattle.hips_catalog.proofs.laws.tiles_hold_rows_in_order.Goals as goal

pub returns : goal.returns
returns c = rows_in_order
