use Rattle.std.proofs.Common.{◌≡◌, ◌≤◌, ◌+◌, drop, length, vec_len}
use Rattle.std.specs.Prelude.{All, IsSome}
use Rattle.std.specs.FinMap.{get}
use Rattle.tile_path.specs.Spelling.{spelling}
use Rattle.fits_header.specs.Cards.{whole_blocks}
use Rattle.fits_tile.specs.TileFile.{data_len}
use Rattle.generation.specs.Files.{paths_in, files_in}
use Rattle.shelf_io.specs.Survey.{OthersStay}
use Rattle.shelf_io.specs.Writing.{with_paths}
use Rattle.shelf_io.proofs.exporting.write_all.Given as goal

abbrev pub invariant-loop-i : goal.invariant-loop-i
invariant-loop-i g l = record {
  written : g.H.Shelf.files l.shelf ≡ with_paths (files_in l.generation) (drop l.i (paths_in l.generation)) (g.H.Shelf.files l.fn.shelf);
  there : All (λ path. IsSome (get (files_in l.generation) (spelling path))) (drop l.i (paths_in l.generation));
  others : OthersStay (g.H.Shelf.files l.fn.shelf) (g.H.Shelf.files l.shelf);
  faults : g.H.Shelf.faults l.shelf ≡ g.H.Shelf.faults l.fn.shelf;
  below : l.i ≤ length (paths_in l.generation);
  room : 2880 + whole_blocks (data_len l.generation.conf.shape) ≤ vec_len l.room;
}
