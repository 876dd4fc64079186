use Rattle.hips_catalog.proofs.OneTile.{one_tile}
use Rattle.hips_catalog.proofs.laws.each_row_stands_in_one_tile.Goals as goal

pub returns : goal.returns
returns c = one_tile
