use Rattle.tile_pixels.specs.Stored.{stored_bytes}
use Rattle.tile_pixels.proofs.row.write_64.Goals as goal

pub returns : goal.returns
unfolding stored_bytes
returns c = c.write_i64_into.ensures
