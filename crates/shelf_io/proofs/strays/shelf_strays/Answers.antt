use Rattle.std.proofs.Common.{map, string_bytes, subst}
use Rattle.generation.specs.Files.{files_in}
use Rattle.shelf_io.specs.Listed.{AreStrays}
use Rattle.shelf_io.proofs.WriteLemmas.{strays_listed}
use Rattle.shelf_io.proofs.strays.shelf_strays.Goals as goal

pub returns-in-Ok-clause-strays : goal.returns-in-Ok-clause-strays
returns-in-Ok-clause-strays g c =
    strays_listed (files_in c.args.generation.now) (g.H.Shelf.files c.args.shelf.now) c.in_ok-paths.paths.items c.in-Ok.strays.items c.in_ok-paths.ensures.listed
    (subst (λ paths. AreStrays (files_in c.args.generation.now) (map string_bytes paths) c.in-Ok.strays.items) c.deref.ensures.value c.in-Ok.ensures)
