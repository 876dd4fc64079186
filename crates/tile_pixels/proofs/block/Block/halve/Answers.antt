use Rattle.std.proofs.Common.{◌≡◌, ℕ, ◌*◌, ◌/◌, ◌^◌, ◌-◌, ◌+◌, ◌≤◌, ◌<◌, List, length, take, drop, get_or, ℤ, pos, sym, ap, subst, ◌∙◌, arith, length-take-le}
use Rattle.parent_rule.specs.Combined.{combined, square_at}
use Rattle.tile_pixels.specs.Block.{PixelBlock}
use Rattle.tile_pixels.proofs.Tiles.{side_at_most}
use Rattle.tile_pixels.proofs.Lines.{quarters, quarter, given_back, halved_number}
use Rattle.tile_pixels.proofs.block.Block.halve.Goals as goal

pub halve_lines-requires-clause-side : goal.halve_lines-requires-clause-side
halve_lines-requires-clause-side c =
    let most : 2 ^ c.self.inside.levels ≤ 512 = side_at_most c.self.inside.levels c.self.invariant.0 in
    let side_is : c.side.result ≡ 2 ^ c.self.inside.levels = c.side.ensures ∙ ap (λ (b : PixelBlock). 2 ^ b.levels) (sym c.self.view_is) in
    omega arith

pub halve_lines-requires-clause-length : goal.halve_lines-requires-clause-length
halve_lines-requires-clause-length c =
    let levels_is : c.self.inside.levels ≡ c.args.self.now.levels = ap (λ (b : PixelBlock). b.levels) c.self.view_is in
    let side_is : c.side.result ≡ 2 ^ c.self.inside.levels = c.side.ensures ∙ ap (λ (k : ℕ). 2 ^ k) (sym levels_is) in
    ap length c.deref_mut.ensures.value ∙ c.self.invariant.1 ∙ quarters c.self.inside.levels c.side.result (omega arith) side_is

pub invariant_of-self : goal.invariant_of-self
invariant_of-self c =
    let block = c.self.inside in
    let levels_is : block.levels ≡ c.args.self.now.levels = ap (λ (b : PixelBlock). b.levels) c.self.view_is in
    let side_is : c.side.result ≡ 2 ^ block.levels = c.side.ensures ∙ ap (λ (k : ℕ). 2 ^ k) (sym levels_is) in
    let half : ℕ = c.side.result / 2 in
    let new_count : 4 ^ (block.levels - 1) ≡ half * half = quarter block.levels c.side.result (omega arith) side_is in
    let all : length c.halve_lines.new.numbers ≡ block.numbers.len = omega (arith, block.numbers.ok.0) in
    let back = given_back block.numbers.len c.halve_lines.new.numbers block.numbers.items all in
    let old_count : 4 ^ block.levels ≡ 4 * (half * half) = quarters block.levels c.side.result (omega arith) side_is in
    let room : half * half ≤ length c.halve_lines.new.numbers = omega (arith, c.self.invariant.1, block.numbers.ok.0) in
    (omega (arith, c.self.invariant.0), ap length (c.truncate.ensures.items ∙ ap (take (half * half)) back) ∙ length-take-le (half * half) c.halve_lines.new.numbers room ∙ sym new_count)

pub returns-clause-numbers : goal.returns-clause-numbers
returns-clause-numbers c =
    let block = c.self.inside in
    let levels_is : block.levels ≡ c.args.self.now.levels = ap (λ (b : PixelBlock). b.levels) c.self.view_is in
    let side_is : c.side.result ≡ 2 ^ c.args.self.now.levels = c.side.ensures in
    let half : ℕ = c.side.result / 2 in
    let all : length c.halve_lines.new.numbers ≡ block.numbers.len = omega (arith, block.numbers.ok.0) in
    let back = given_back block.numbers.len c.halve_lines.new.numbers block.numbers.items all in
    let olds : c.deref_mut.result.now ≡ c.args.self.now.numbers = c.deref_mut.ensures.value ∙ ap (λ (b : PixelBlock). b.numbers) c.self.view_is in
    let new : PixelBlock = record { levels = block.levels - 1; numbers = c.truncate.new.self.items } in
    let Each : List ℤ → Type 0 = λ old. (column line : ℕ) → column < half → line < half → get_or c.halve_lines.new.numbers (line * half + column) (pos 0) ≡ combined c.args.depth.combine c.args.depth.blank (square_at (drop (4 * half * line) old) (drop (4 * half * line + 2 * half) old) column) in
    let each = subst Each olds c.halve_lines.ensures.numbers in
    halved_number c.args.depth.combine c.args.depth.blank c.args.self.now new half c.halve_lines.new.numbers c.requires.side (ap (λ (k : ℕ). k - 1) levels_is) (ap (λ (k : ℕ). k / 2) side_is) (c.truncate.ensures.items ∙ ap (take (half * half)) back) each
