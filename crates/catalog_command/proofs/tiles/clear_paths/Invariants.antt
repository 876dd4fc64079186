use Rattle.std.proofs.Common.{◌≡◌, map, take, string_bytes}
use Rattle.catalog_command.specs.Files.{OnFiles}
use Rattle.catalog_command.specs.Steps.{Clears}
use Rattle.catalog_command.proofs.tiles.clear_paths.Given as goal

abbrev pub invariant-loop-path : goal.invariant-loop-path
invariant-loop-path g l = record {
  clears : OnFiles (Clears l.catalog (map string_bytes (take l.path-index l.paths))) (g.H.Shelf.files l.fn.shelf) (g.H.Shelf.files l.shelf);
  faults : g.H.Shelf.faults l.shelf ≡ g.H.Shelf.faults l.fn.shelf;
}
