use Rattle.std.proofs.Common.{◌≡◌, ℕ, ◌*◌, ◌^◌, ◌≤◌, List, Some, All, length}
use Rattle.std.specs.Map.{values_of}
use Rattle.tile_pixels.specs.Tile.{HasShape}
use Rattle.leaf_probe.specs.Merging.{steps_after}
use Rattle.leaf_probe.specs.Probe.{probe_depth, records_under}
use Rattle.leaf_probe.specs.Reading.{ReadsPieces}
use Rattle.leaf_probe.specs.Records.{recorded_leaves}
use Rattle.leaf_probe.proofs.LeavesLemmas.{ReadSoFar}
use Rattle.leaf_probe.proofs.MergingLemmas.{KeepsLeaves}
use Rattle.leaf_probe.proofs.leaves.read_leaves.Given as goal

abbrev pub invariant-loop-count : goal.invariant-loop-count
invariant-loop-count g l = record {
  told : (input : List ℕ) → g.S.Source.left l.initial.source ≡ Some input → ReadSoFar l.asked.top l.asked.n input l._count (g.S.Source.left l.source);
  keeps : (input : List ℕ) → g.S.Source.left l.initial.source ≡ Some input → KeepsLeaves l.asked.top l.asked.order l.asked.npix (recorded_leaves l.asked.n input l._count) l.leaves.entries;
  counted : (input : List ℕ) → g.S.Source.left l.initial.source ≡ Some input → l.steps ≡ steps_after (records_under l.asked input l._count) l.initial.steps;
  tiles : All (λ tile. HasShape tile probe_depth l.asked.n) (values_of l.leaves.entries);
  sizes : All (λ tile. length tile.numbers ≡ 4 ^ l.asked.n) (values_of l.leaves.entries);
  room : l.raw.len ≡ 2 * 4 ^ l.asked.n;
  reads : ReadsPieces 0 (g.S.Source.left l.initial.source) (g.S.Source.left l.source) (g.S.Source.readings l.initial.source) (g.S.Source.readings l.source);
  faults : g.S.Source.faults l.source ≡ g.S.Source.faults l.initial.source;
  steps : l.initial.steps ≤ l.steps;
}
