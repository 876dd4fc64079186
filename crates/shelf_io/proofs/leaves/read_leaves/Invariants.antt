use Rattle.std.proofs.Common.{◌≡◌, ℕ, ◌+◌, ◌<◌, ◌≤◌, [], take, length, slice_index}
use Rattle.std.specs.Prelude.{All, IfSome}
use Rattle.std.specs.List.{filter_map}
use Rattle.std.specs.Map.{keys_of}
use Rattle.dirty_plan.specs.Dirty.{steps_after}
use Rattle.edit_journal.specs.Leaves.{FitsLeaves}
use Rattle.shelf_io.specs.Opening.{leaf_tile, leaf_refusal}
use Rattle.shelf_io.proofs.leaves.read_leaves.Given as goal

abbrev pub invariant-loop-leaf : goal.invariant-loop-leaf
invariant-loop-leaf g l = record {
  kept : g.H.Shelf.files l.shelf ≡ g.H.Shelf.files l.fn.shelf;
  faults : g.H.Shelf.faults l.shelf ≡ g.H.Shelf.faults l.fn.shelf;
  fits : FitsLeaves l.conf.shape l.tiles;
  lower : (k : ℕ) → l.leaf-index ≤ k → k < length l.leaves → All (λ key. key < slice_index l.leaves k) (keys_of l.tiles);
  tiles : IfSome (g.H.Shelf.files l.fn.shelf) (λ files. l.tiles ≡ filter_map (leaf_tile files l.conf) (take l.leaf-index l.leaves));
  sound : IfSome (g.H.Shelf.files l.fn.shelf) (λ files. filter_map (leaf_refusal files l.conf) (take l.leaf-index l.leaves) ≡ []);
  count : length l.tiles ≤ l.leaf-index;
  counted : l.steps ≡ steps_after l.fn.steps (length l.tiles);
  steps : l.steps ≤ l.fn.steps + length l.tiles;
  rises : l.fn.steps ≤ l.steps;
}
