use Rattle.std.proofs.Common.{◌≡◌, ◌-◌, ◌≤◌, All}
use Rattle.std.specs.Prelude.{sum_by}
use Rattle.std.specs.List.{range_with_len}
use Rattle.std.specs.Map.{values_of}
use Rattle.pyramid_model.specs.Shape.{LeafMap}
use Rattle.tile_pixels.specs.Tile.{HasShape}
use Rattle.leaf_probe.specs.Merging.{IsLevel, tiles_under, steps_after}
use Rattle.leaf_probe.proofs.merging.merge_up.Given as goal

-- the tiles of the order that is reached, and the steps to them
abbrev pub invariant-loop-level : goal.invariant-loop-level
invariant-loop-level l = record {
  above : l.order ≤ l.level;
  within : l.level ≤ l.shape.top;
  shapes : All (λ tile. HasShape tile l.shape.depth l.shape.n) (values_of l.tiles.entries);
  tiles : (all : LeafMap) → IsLevel l.shape all l.order l.npix l.shape.top l.fn.leaves.entries → IsLevel l.shape all l.order l.npix l.level l.tiles.entries;
  counted : (all : LeafMap) → IsLevel l.shape all l.order l.npix l.shape.top l.fn.leaves.entries
      → l.steps ≡ steps_after (sum_by (tiles_under l.shape all l.order l.npix) (range_with_len l.level (l.shape.top - l.level))) l.initial.steps;
  steps : l.initial.steps ≤ l.steps;
}

abbrev pub decreases-loop-level : goal.decreases-loop-level
decreases-loop-level l = l.level - l.order
