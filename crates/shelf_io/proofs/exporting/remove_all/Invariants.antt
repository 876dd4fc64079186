use Rattle.std.proofs.Common.{◌≡◌, drop}
use Rattle.shelf_io.specs.Survey.{OthersStay}
use Rattle.shelf_io.specs.Writing.{without_paths}
use Rattle.shelf_io.proofs.exporting.remove_all.Given as goal

abbrev pub invariant-loop-path : goal.invariant-loop-path
invariant-loop-path g l = record {
  left : without_paths (drop l.path-index l.paths) (g.H.Shelf.files l.shelf) ≡ without_paths l.paths (g.H.Shelf.files l.fn.shelf);
  others : OthersStay (g.H.Shelf.files l.fn.shelf) (g.H.Shelf.files l.shelf);
  faults : g.H.Shelf.faults l.shelf ≡ g.H.Shelf.faults l.fn.shelf;
}
