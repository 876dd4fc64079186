use Rattle.healpix_nested.specs.PlaceLaws.{stored_z_below, stored_at_z-stored_z}
use Rattle.healpix_nested.proofs.laws.stored_numbers_come_back.Goals as goal

pub returns : goal.returns
returns c n s small below = (stored_z_below n s, stored_at_z-stored_z n s small below)
