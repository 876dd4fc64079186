use Rattle.std.proofs.Common.{◌≡◌, ◌≤◌, ◌<◌, ◌+◌, ◌-◌, ap, ◌∙◌, sym, arith, length, slice_get}
use Rattle.generation.specs.Files.{leaf_map, tile_paths}
use Rattle.generation.specs.Kept.{PyramidContent}
use Rattle.generation.proofs.Paths.{orders_from, orders_step, slice_get-front, slice_get-back}
use Rattle.generation.proofs.pyramid.Pyramid.cell.Goals as goal

pub returns-then-left-count : goal.returns-then-left-count
returns-then-left-count c =
    let shape = c.args.self.now.shape in
    let leaves = leaf_map c.args.self.now.leaves in
    let k = c.loop-order.order in
    let top_is : c.shape.inside.top ≡ shape.top = ap (λ s. s.top) (c.shape.view_is ∙ ap (λ (v : PyramidContent). v.shape) c.self.view_is) in
    let test : k < c.shape.inside.top + 1 = c.loop-order-test.true in
    let high : k ≤ shape.top = omega arith in
    let here : c.loop-order.left < length (tile_paths shape leaves k) = omega (arith, c.count_of-count.ensures.count, c.if-left-count.true) in
    record {
      cell = c.cell_of.ensures
          ∙ sym (slice_get-front (tile_paths shape leaves k) (orders_from shape leaves (k + 1)) c.loop-order.left here)
          ∙ ap (λ ps. slice_get ps c.loop-order.left) (sym (orders_step shape leaves k high))
          ∙ sym c.loop-order.invariant;
    }

pub loop-order-preserved : goal.loop-order-preserved
loop-order-preserved c =
    let shape = c.args.self.now.shape in
    let leaves = leaf_map c.args.self.now.leaves in
    let k = c.loop-order.order in
    let top_is : c.shape.inside.top ≡ shape.top = ap (λ s. s.top) (c.shape.view_is ∙ ap (λ (v : PyramidContent). v.shape) c.self.view_is) in
    let test : k < c.shape.inside.top + 1 = c.loop-order-test.true in
    let high : k ≤ shape.top = omega arith in
    let past : c.count_of-count.result ≤ c.loop-order.left = c.if-left-count.false in
    let split : c.loop-order.left ≡ length (tile_paths shape leaves k) + (c.loop-order.left - c.count_of-count.result) = omega (arith, c.count_of-count.ensures.count) in
    c.loop-order.invariant
    ∙ ap (λ ps. slice_get ps c.loop-order.left) (orders_step shape leaves k high)
    ∙ slice_get-back (tile_paths shape leaves k) (orders_from shape leaves (k + 1)) c.loop-order.left (c.loop-order.left - c.count_of-count.result) split
