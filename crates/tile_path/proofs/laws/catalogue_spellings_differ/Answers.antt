use Rattle.tile_path.proofs.PathLemmas.{same_catalogue_tile}
use Rattle.tile_path.proofs.laws.catalogue_spellings_differ.Goals as goal

pub returns : goal.returns
returns c order npix order' npix' tile tile' e = same_catalogue_tile order npix order' npix' tile tile' e
