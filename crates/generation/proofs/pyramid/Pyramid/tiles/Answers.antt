use Rattle.std.proofs.Common.{◌≡◌, ◌≤◌, ◌<◌, ◌-◌, subst, sym, ap, ◌∙◌, arith, get_or, length}
use Rattle.std.specs.Prelude.{IfSome, IsSome}
use Rattle.generation.specs.Files.{leaf_map}
use Rattle.generation.specs.Kept.{PyramidContent, IsPyramid, tiles_of}
use Rattle.generation.proofs.Orders.{leaves_are}
use Rattle.generation.proofs.Pyramids.{level_order}
use Rattle.generation.proofs.pyramid.Pyramid.tiles.Goals as goal

pub returns-clause-tiles : goal.returns-clause-tiles
returns-clause-tiles c =
    let p : PyramidContent = c.args.self.now in
    let is : IsPyramid p.shape p.leaves c.self.inside.levels.items = subst (λ (v : PyramidContent). IsPyramid v.shape v.leaves c.self.inside.levels.items) c.self.view_is c.self.invariant in
    let shape_is = c.shape.view_is ∙ ap (λ (v : PyramidContent). v.shape) c.self.view_is in
    let top_is : c.shape.inside.top ≡ p.shape.top = ap (λ s. s.top) shape_is in
    let low_is : c.shape.inside.low ≡ p.shape.low = ap (λ s. s.low) shape_is in
    let apart : c.args.order ≡ c.shape.inside.top → ⊥ = c.if-order-shape-3.false in
    let first : c.shape.inside.low ≤ c.args.order = c.if-order-shape.false in
    let last : c.args.order ≤ c.shape.inside.top = c.if-order-shape-2.false in
    let low : p.shape.low ≤ c.args.order = omega arith in
    let below : c.args.order < p.shape.top = omega arith in
    let at : c.from.result ≡ p.shape.top - 1 - c.args.order = omega (arith, c.from.ensures) in
    let levels = c.self.inside.levels.items in
    let there : c.from.result < length levels → IsSome c.get.result = subst (λ xs. c.from.result < length xs → IsSome c.get.result) c.deref.ensures.value c.get.ensures.lookup.2 in
    let found = subst (λ xs. IfSome c.get.result (λ x. x.now ≡ get_or xs c.from.result x.now)) c.deref.ensures.value c.get.ensures.lookup.1 in
    level_order p.shape p.leaves levels c.args.order c.from.result c.get.result is.levels_are low below at there found

pub returns-then-order-shape-3-clause-tiles : goal.returns-then-order-shape-3-clause-tiles
returns-then-order-shape-3-clause-tiles c =
    let p : PyramidContent = c.args.self.now in
    let is : IsPyramid p.shape p.leaves c.self.inside.levels.items = subst (λ (v : PyramidContent). IsPyramid v.shape v.leaves c.self.inside.levels.items) c.self.view_is c.self.invariant in
    let shape_is = c.shape.view_is ∙ ap (λ (v : PyramidContent). v.shape) c.self.view_is in
    let top_is : c.shape.inside.top ≡ p.shape.top = ap (λ s. s.top) shape_is in
    let low_is : c.shape.inside.low ≡ p.shape.low = ap (λ s. s.low) shape_is in
    let top : c.args.order ≡ p.shape.top = c.if-order-shape-3.true ∙ top_is in
    let first : c.shape.inside.low ≤ c.args.order = c.if-order-shape.false in
    let low : p.shape.low ≤ c.args.order = omega arith in
    let most : c.args.order ≤ p.shape.top = omega arith in
    (low, most, ap (λ (v : PyramidContent). v.leaves) c.self.view_is ∙ leaves_are p.shape p.leaves is.known is.fits is.numbers ∙ ap (tiles_of p.shape (leaf_map p.leaves)) (sym top))
