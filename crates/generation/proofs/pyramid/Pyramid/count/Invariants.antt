use Rattle.std.proofs.Common.{◌≡◌, ◌≤◌, ◌-◌, ◌*◌, length, flat_map}
use Rattle.std.specs.List.{range_with_len}
use Rattle.generation.specs.Files.{leaf_map, tile_paths}
use Rattle.generation.proofs.pyramid.Pyramid.count.Given as goal

abbrev pub invariant-loop-order : goal.invariant-loop-order
invariant-loop-order l = record {
  counted : l.count ≡ length (flat_map (tile_paths l.self.shape (leaf_map l.self.leaves)) (range_with_len l.self.shape.low (l.order - l.self.shape.low)));
  few : l.count ≤ 50331648 * (l.order - l.self.shape.low);
}
