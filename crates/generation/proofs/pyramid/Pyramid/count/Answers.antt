use Rattle.std.proofs.Common.{◌≡◌, ◌≤◌, ◌-◌, ◌*◌, ap, ◌∙◌, arith}
use Rattle.generation.specs.Files.{leaf_map}
use Rattle.generation.specs.Kept.{PyramidContent}
use Rattle.generation.proofs.Paths.{counted_more}
use Rattle.generation.proofs.pyramid.Pyramid.count.Goals as goal

pub loop-order-preserved : goal.loop-order-preserved
loop-order-preserved c =
    let shape = c.args.self.now.shape in
    let leaves = leaf_map c.args.self.now.leaves in
    let k = c.loop-order.order in
    let low_is : c.shape.inside.low ≡ shape.low = ap (λ s. s.low) (c.shape.view_is ∙ ap (λ (v : PyramidContent). v.shape) c.self.view_is) in
    let from : c.shape.inside.low ≤ k = c.loop-order.auto.order in
    let low : shape.low ≤ k = omega arith in
    let more = counted_more shape leaves k low in
    let few : c.count_of-count.result ≤ 50331648 = c.count_of-count.ensures.at_most in
    let before : c.loop-order.count ≤ 50331648 * (k - shape.low) = c.loop-order.invariant.few in
    record {
      counted = omega (arith, more, c.count_of-count.ensures.count, c.loop-order.invariant.counted);
      few = omega arith;
    }
