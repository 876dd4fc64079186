use Rattle.tile_path.specs.declared.path.Path.TheVariants.{Tile}
use Rattle.tile_path.proofs.PathLemmas.{only_path}
use Rattle.tile_path.proofs.path.Path.read.Goals as goal

pub returns-clause-inverse : goal.returns-clause-inverse
returns-clause-inverse c path is e =
    only_path c.args.text.now (Tile c.in_ok-cell.cell) c.in_ok-cell.ensures.0 c.in_ok-cell.ensures.1 path is e
