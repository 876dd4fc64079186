use Rattle.std.proofs.Common.{◌≡◌, take}
use Rattle.std.specs.Prelude.{IfSome}
use Rattle.tile_path.specs.Spelling.{IsPath}
use Rattle.shelf_io.specs.Comparing.{first_path}
use Rattle.shelf_io.proofs.order.first_path.Given as goal

abbrev pub invariant-loop-path : goal.invariant-loop-path
invariant-loop-path l = record {
  is_path : IfSome l.first IsPath;
  first : l.first ≡ first_path (take l.path-index l.paths);
}
