use Rattle.tile_path.proofs.PathLemmas.{same_path}
use Rattle.tile_path.proofs.laws.spellings_differ.Goals as goal

pub returns : goal.returns
returns c path path' is is' e = same_path path path' is is' e
