use Rattle.tile_path.proofs.PathLemmas.{no_deep_path}
use Rattle.tile_path.proofs.laws.deep_tiles_are_no_paths.Goals as goal

pub returns : goal.returns
returns c path cell is known deep e = no_deep_path path cell is known deep e
