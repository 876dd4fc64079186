use Rattle.std.proofs.Common.{◌≡◌, ℕ, ◌+◌, ◌<◌, ◌≤◌, take, length, slice_index, map}
use Rattle.std.specs.Prelude.{All}
use Rattle.std.specs.Map.{keys_of}
use Rattle.edit_journal.specs.Leaves.{FitsLeaves}
use Rattle.generation.specs.Files.{leaf_map}
use Rattle.mirror_frame.specs.Requests.{leaf_ask}
use Rattle.hips_mirror.specs.Mirror.{AreLeaves}
use Rattle.hips_mirror.specs.Stages.{Reaches}
use Rattle.hips_mirror.proofs.leaves.read_leaves.Given as goal

abbrev pub invariant-loop-number : goal.invariant-loop-number
invariant-loop-number g l = record {
  fits : FitsLeaves l.survey.conf.shape l.tiles;
  keys : keys_of l.tiles ≡ take l.number-index l.numbers;
  count : length l.tiles ≡ l.number-index;
  lower : (k : ℕ) → l.number-index ≤ k → k < length l.numbers → All (λ key. key < slice_index l.numbers k) (keys_of l.tiles);
  reached : Reaches g.S.Source g.K.Sink l.survey.pinned (map (leaf_ask l.survey.conf.shape.top) (take l.number-index l.numbers)) (λ bytes rest. AreLeaves l.survey.pinned l.survey.conf bytes (leaf_map l.tiles) rest) l.fn.peer l.peer;
  steps : l.steps ≤ l.fn.steps + l.number-index;
  rises : l.fn.steps ≤ l.steps;
}
