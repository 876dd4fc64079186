use Rattle.healpix_nested.specs.PlaceLaws.{stored_at_z_below, stored_z-stored_at_z}
use Rattle.healpix_nested.proofs.laws.numbers_z_come_back.Goals as goal

pub returns : goal.returns
returns c n z small below = (stored_at_z_below n z below, stored_z-stored_at_z n z small below)
