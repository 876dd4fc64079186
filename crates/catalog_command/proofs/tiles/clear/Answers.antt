use Rattle.std.proofs.Common.{map, string_bytes, ap}
use Rattle.std.proofs.lemmas.Result.{on_ok_weaker}
use Rattle.catalog_command.proofs.Shelves.{clearing_ends}
use Rattle.catalog_command.proofs.tiles.clear.Goals as goal

pub returns-clause-cleared : goal.returns-clause-cleared
returns-clause-cleared g c =
    let done = rw c.in_ok-paths.ensures.kept at c.clear_paths.ensures.cleared in
    on_ok_weaker c.clear_paths.result
    (λ clears. clearing_ends c.args.catalog.now c.in_ok-paths.paths.items (map string_bytes c.deref.result.now) (g.H.Shelf.files c.args.shelf.now) (g.H.Shelf.files c.clear_paths.new.shelf)
    (ap (map string_bytes) c.deref.ensures.value) c.in_ok-paths.ensures.listed clears)
    done
