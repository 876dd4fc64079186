use Rattle.healpix_nested.proofs.Masks.{spread_steps-spread}
use Rattle.healpix_nested.proofs.place.spread.Goals as goal

pub returns : goal.returns
returns c = spread_steps-spread c.args.x c.requires
