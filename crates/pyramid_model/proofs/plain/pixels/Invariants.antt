use Rattle.std.proofs.Common.{◌≡◌, map}
use Rattle.std.specs.Prelude.{All}
use Rattle.parent_rule.specs.Depth.{IsNumber}
use Rattle.std.specs.List.{range_with_len}
use Rattle.pyramid_model.specs.Leaves.{leaf_map}
use Rattle.pyramid_model.specs.Tile.{pixel_at}
use Rattle.pyramid_model.proofs.plain.pixels.Given as goal

abbrev pub invariant-loop-place : goal.invariant-loop-place
invariant-loop-place l =
    All (IsNumber l.shape.depth.bitpix) l.numbers.items
    × (l.numbers.items ≡ map (pixel_at l.shape (leaf_map l.leaves.entries) l.order l.npix) (range_with_len 0 l.place))
