use Rattle.std.proofs.Common.{◌≡◌, ◌≤◌, take, vec_len}
use Rattle.std.specs.Prelude.{IfSome, fold}
use Rattle.tile_path.specs.Spelling.{IsPath}
use Rattle.generation.specs.Files.{paths_in, files_in}
use Rattle.shelf_io.specs.Comparing.{first_after}
use Rattle.shelf_io.proofs.verifying.first_difference.Given as goal

abbrev pub invariant-loop-i : goal.invariant-loop-i
invariant-loop-i g l = record {
  is_path : IfSome l.first IsPath;
  first : IfSome (g.H.Shelf.files l.fn.shelf) (λ files. l.first ≡ fold (first_after (files_in l.generation) files) l.fn.first (take l.i (paths_in l.generation)));
  kept : g.H.Shelf.files l.shelf ≡ g.H.Shelf.files l.fn.shelf;
  faults : g.H.Shelf.faults l.shelf ≡ g.H.Shelf.faults l.fn.shelf;
  room : 2880 ≤ vec_len l.front;
}
