use Rattle.std.proofs.Common.{◌≡◌, ◌+◌, ◌-◌, ◌∙◌, ap, sym, arith}
use Rattle.std.specs.Prelude.{sum_by}
use Rattle.std.specs.List.{range_with_len}
use Rattle.pyramid_model.specs.Shape.{LeafMap}
use Rattle.leaf_probe.specs.Merging.{IsLevel, tiles_under, steps_after}
use Rattle.leaf_probe.proofs.CountLemmas.{steps_sum, level_count, made_more}
use Rattle.leaf_probe.proofs.MergingLemmas.{asked_tile_is}
use Rattle.leaf_probe.proofs.merging.merge_up.Goals as goal

pub loop-level-preserved : goal.loop-level-preserved
loop-level-preserved c =
    let next : c.loop-level.level - 1 + 1 ≡ c.loop-level.level = omega arith in
    let made : (all : LeafMap) → IsLevel c.args.shape.now all c.args.order c.args.npix c.args.shape.now.top c.args.leaves.entries
    → IsLevel c.args.shape.now all c.args.order c.args.npix (c.loop-level.level - 1) c.in_ok-tiles.tiles.entries = λ all given.
    c.in_ok-tiles.ensures.level all c.args.order c.args.npix (omega arith) (rw next (c.loop-level.invariant.tiles all given)) in
    record {
      above = omega arith;
      within = omega arith;
      shapes = c.in_ok-tiles.ensures.tiles;
      tiles = made;
      counted = λ all given.
          let orders = tiles_under c.args.shape.now all c.args.order c.args.npix in
          let count = level_count c.args.shape.now all c.args.order c.args.npix (c.loop-level.level - 1) c.in_ok-tiles.tiles.entries (omega arith) c.in_ok-tiles.ensures.ordered (made all given) in
          let more = rw next at (made_more orders (c.loop-level.level - 1) c.args.shape.now.top (omega arith)) in
          c.in_ok-tiles.ensures.counted ∙ ap (λ m. steps_after m c.loop-level.steps) count
          ∙ ap (steps_after (orders (c.loop-level.level - 1))) (c.loop-level.invariant.counted all given)
          ∙ sym (steps_sum (orders (c.loop-level.level - 1)) (sum_by orders (range_with_len c.loop-level.level (c.args.shape.now.top - c.loop-level.level))) c.args.steps.now)
          ∙ ap (λ m. steps_after m c.args.steps.now) (sym more);
      steps = omega arith;
    }

pub returns-clause-exists : goal.returns-clause-exists
returns-clause-exists c = λ all given.
    let last : c.loop-level.level ≡ c.args.order = omega arith in
    (asked_tile_is c.args.shape.now all c.args.order c.args.npix c.loop-level.tiles.entries c.remove.result (rw last at (c.loop-level.invariant.tiles all given)) c.remove.ensures.value).0

pub returns-clause-tile : goal.returns-clause-tile
returns-clause-tile c = λ all given.
    let last : c.loop-level.level ≡ c.args.order = omega arith in
    (asked_tile_is c.args.shape.now all c.args.order c.args.npix c.loop-level.tiles.entries c.remove.result (rw last at (c.loop-level.invariant.tiles all given)) c.remove.ensures.value).1
