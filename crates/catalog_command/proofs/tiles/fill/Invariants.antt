use Rattle.std.proofs.Common.{◌≡◌, ◌-◌, ◌≤◌, length}
use Rattle.hips_catalog.specs.Catalogue.{existing_tiles}
use Rattle.catalog_command.specs.Files.{OnFiles}
use Rattle.catalog_command.proofs.Shelves.{Fills}
use Rattle.catalog_command.proofs.tiles.fill.Given as goal

abbrev pub invariant-tiles : goal.invariant-tiles
invariant-tiles g l = record {
  fills : OnFiles (Fills l.catalog l.count) (g.H.Shelf.files l.fn.shelf) (g.H.Shelf.files l.shelf);
  within : l.count ≤ length (existing_tiles l.catalog);
  faults : g.H.Shelf.faults l.shelf ≡ g.H.Shelf.faults l.fn.shelf;
}

-- how many tiles are to be put
abbrev pub decreases-tiles : goal.decreases-tiles
decreases-tiles g l = length (existing_tiles l.catalog) - l.count
