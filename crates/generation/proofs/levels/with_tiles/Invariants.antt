use Rattle.std.proofs.Common.{◌≡◌, ℕ, take}
use Rattle.leaf_store.specs.Store.{IsAscending, value_at}
use Rattle.rebuild_worker.specs.Shown.{all_shown}
use Rattle.generation.specs.Placed.{tile_after}
use Rattle.generation.proofs.levels.with_tiles.Given as goal

abbrev pub invariant-loop-named : goal.invariant-loop-named
invariant-loop-named l = record {
  tiles : (cell : ℕ) → value_at cell l.after ≡ tile_after (all_shown (take l.named-index l.merged)) cell (value_at cell l.fn.tiles);
  ascending : IsAscending l.after;
}
