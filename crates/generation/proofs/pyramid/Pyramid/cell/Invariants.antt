use Rattle.std.proofs.Common.{◌≡◌, slice_get}
use Rattle.generation.specs.Files.{leaf_map}
use Rattle.generation.proofs.Paths.{orders_from}
use Rattle.generation.proofs.pyramid.Pyramid.cell.Given as goal

abbrev pub invariant-loop-order : goal.invariant-loop-order
invariant-loop-order l =
    slice_get (orders_from l.self.shape (leaf_map l.self.leaves) l.self.shape.low) l.i ≡ slice_get (orders_from l.self.shape (leaf_map l.self.leaves) l.order) l.left
