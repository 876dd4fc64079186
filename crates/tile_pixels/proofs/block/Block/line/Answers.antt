use Rattle.std.proofs.Common.{◌≡◌, ◌+◌, ◌-◌, ◌*◌, ◌^◌, ◌<◌, ◌≤◌, List, ℤ, drop, refl, sym, ap, subst, ◌∙◌, arith, rules, length}
use Rattle.std.specs.Prelude.{All}
use Rattle.std.proofs.lemmas.Nat.{row_fits}
use Rattle.std.proofs.lemmas.List.Elements.{All-take, All-drop}
use Rattle.parent_rule.specs.Depth.{IsNumber}
use Rattle.tile_pixels.specs.Block.{PixelBlock}
use Rattle.tile_pixels.proofs.Tiles.{four_pow}
use Rattle.tile_pixels.proofs.block.Block.line.Goals as goal

pub slice_bounds-result-end : goal.slice_bounds-result-end
slice_bounds-result-end c =
    let block = c.self.inside in
    let side = c.side-side.result in
    let side_is : side ≡ 2 ^ block.levels = c.side-side.ensures ∙ ap (λ (b : PixelBlock). 2 ^ b.levels) (sym c.self.view_is) in
    let square : 4 ^ block.levels ≡ side * side = four_pow block.levels ∙ rw (← side_is) refl in
    let line_in : c.args.line < side = rw c.side-side.ensures c.requires in
    let fits : c.args.line * side + side ≤ side * side = row_fits c.args.line side side side line_in (omega arith) in
    let long : length c.deref.result.now ≡ 4 ^ block.levels = ap length c.deref.ensures.value ∙ c.self.invariant.1 in
    search rules

pub returns-clause-range : goal.returns-clause-range
returns-clause-range c bits all =
    let side = c.side-side.result in
    let start = c.args.line * side in
    let P : List ℤ → Type 0 = λ numbers. All (IsNumber bits) numbers in
    let same : c.deref.result.now ≡ c.args.self.now.numbers = c.deref.ensures.value ∙ ap (λ (b : PixelBlock). b.numbers) c.self.view_is in
    All-take (IsNumber bits) (start + side - start) (drop start c.deref.result.now) (All-drop (IsNumber bits) start c.deref.result.now (subst P (sym same) all))
