use Rattle.healpix_nested.specs.PlaceLaws.{z_order_of_four}
use Rattle.healpix_nested.proofs.laws.four_stand_in_a_square.Goals as goal

pub returns : goal.returns
returns c column line dc dl hc hl hdc hdl = z_order_of_four column line dc dl hc hl hdc hdl
