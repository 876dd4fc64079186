use Rattle.std.proofs.lemmas.Result.{on_err_weaker}
use Rattle.catalog_command.proofs.Shelves.{unfinished_filling}
use Rattle.catalog_command.proofs.tiles.put_tiles.Goals as goal

pub returns-clause-refused : goal.returns-clause-refused
returns-clause-refused g c =
    on_err_weaker c.fill.result
    (λ filling. unfinished_filling c.args.catalog.now (g.H.Shelf.files c.args.shelf.now) (g.H.Shelf.files c.clear.new.shelf) (g.H.Shelf.files c.fill.new.shelf) c.in_ok-clear.ensures.cleared filling)
    c.fill.ensures.refused
