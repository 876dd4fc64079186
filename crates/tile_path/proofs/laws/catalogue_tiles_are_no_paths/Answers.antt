use Rattle.tile_path.proofs.PathLemmas.{no_catalogue_tile}
use Rattle.tile_path.proofs.laws.catalogue_tiles_are_no_paths.Goals as goal

pub returns : goal.returns
returns c path order npix is tile e = no_catalogue_tile path order npix is tile e
