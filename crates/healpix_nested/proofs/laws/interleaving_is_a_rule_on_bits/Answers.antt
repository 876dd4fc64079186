use Rattle.healpix_nested.specs.Place.{z_order}
use Rattle.healpix_nested.specs.PlaceLaws.{z_order_interleaves, interleaving_is_unique}
use Rattle.healpix_nested.proofs.laws.interleaving_is_a_rule_on_bits.Goals as goal

pub returns : goal.returns
returns c column line hc hl = (
  z_order_interleaves column line hc hl,
  λ z rule. interleaving_is_unique column line z (z_order column line) rule (z_order_interleaves column line hc hl),
)
