use Rattle.tile_path.specs.Spelling.{catalogue_spelling}
use Rattle.tile_path.proofs.WriteLemmas.{whole_of}
use Rattle.tile_path.proofs.tile.tsv_into.Goals as goal

pub returns-clause-written : goal.returns-clause-written
returns-clause-written c =
    whole_of c.args.out.now c.write_tile.new.out (catalogue_spelling c.args.cell.order c.args.cell.npix) c.write_tile.result c.write_tile.ensures.written
