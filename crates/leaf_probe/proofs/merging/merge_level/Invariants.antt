use Rattle.std.proofs.Common.{◌≡◌, ◌+◌, ◌≤◌, ℕ, map, All, length}
use Rattle.std.specs.List.Sorted.{IsStrictlySortedBy}
use Rattle.std.specs.Map.{keys_of, values_of}
use Rattle.std.specs.Map.Iter.{deref}
use Rattle.std.specs.Ordering.{nat_cmp}
use Rattle.pyramid_model.specs.Shape.{LeafMap}
use Rattle.tile_pixels.specs.Tile.{HasShape}
use Rattle.leaf_probe.specs.Merging.{IsLevel, steps_after}
use Rattle.leaf_probe.proofs.MergingLemmas.{MadeOf}
use Rattle.leaf_probe.proofs.merging.merge_level.Given as goal

-- the tiles above the keys so far
abbrev pub invariant-loop-child : goal.invariant-loop-child
invariant-loop-child l = record {
  can_next : (goal.iterator-loop-child).can_next l.child-iterator;
  is_finite : (goal.iterator-loop-child).is_finite l.child-iterator;
  shapes : All (λ tile. HasShape tile l.shape.depth l.shape.n) (values_of l.made.entries);
  above : (leaves : LeafMap) (order npix : ℕ) → order ≤ l.level → IsLevel l.shape leaves order npix (l.level + 1) l.children.entries → MadeOf l.shape leaves l.level (map deref l.yielded) l.made.entries;
  ordered : IsStrictlySortedBy nat_cmp (keys_of l.made.entries);
  counted : l.steps ≡ steps_after (length l.made.entries) l.initial.steps;
  steps : l.initial.steps ≤ l.steps;
}
