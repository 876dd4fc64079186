use Rattle.std.proofs.Common.{◌≡◌, ◌∙◌, sym}
use Rattle.std.specs.Prelude.{Some, slice_get}
use Rattle.generation.specs.Files.{paths_in, files_in}
use Rattle.shelf_io.proofs.CompareLemmas.{compared_more}
use Rattle.shelf_io.proofs.verifying.first_difference.Goals as goal

pub loop-i-preserved : goal.loop-i-preserved
loop-i-preserved g c =
    let at : slice_get (paths_in c.args.generation.now) c.loop-i.i ≡ Some c.unwrap-path.result = sym c.path.ensures.path ∙ c.unwrap-path.ensures in
    record {
      is_path = c.first_after-first.ensures.path;
      first = compared_more (files_in c.args.generation.now) (g.H.Shelf.files c.loop-i.shelf) (g.H.Shelf.files c.args.shelf.now) (paths_in c.args.generation.now) c.loop-i.i c.unwrap-path.result
          c.args.first c.loop-i.first c.first_after-first.result c.in_ok-agree.agree c.loop-i.invariant.kept at c.first_after-first.ensures.first c.in_ok-agree.ensures.agrees c.loop-i.invariant.first;
      kept = c.has_file.ensures.kept ∙ c.loop-i.invariant.kept;
      faults = c.in_ok-agree.ensures.faults ∙ c.loop-i.invariant.faults;
      room = c.loop-i.invariant.room;
    }
