use Rattle.healpix_nested.proofs.Masks.{gather_steps-gathered}
use Rattle.healpix_nested.proofs.place.gather.Goals as goal

pub returns : goal.returns
returns c = gather_steps-gathered c.args.z c.requires
