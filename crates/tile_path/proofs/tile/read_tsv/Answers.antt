use Rattle.tile_path.proofs.PathLemmas.{only_catalogue_tile}
use Rattle.tile_path.proofs.tile.read_tsv.Goals as goal

pub returns-clause-inverse : goal.returns-clause-inverse
returns-clause-inverse c order npix tile e = only_catalogue_tile c.args.text.now c.read_tile.result c.read_tile.ensures order npix tile e
