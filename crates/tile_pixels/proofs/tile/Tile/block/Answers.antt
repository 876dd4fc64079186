use Rattle.std.proofs.Common.{◌≡◌, ℕ, ◌*◌, ◌^◌, length, refl, sym, ap, ◌∙◌, arith}
use Rattle.tile_pixels.proofs.Tiles.{four_pow}
use Rattle.tile_pixels.proofs.Lines.{given_back}
use Rattle.tile_pixels.proofs.tile.Tile.block.Goals as goal

pub read_lines-requires : goal.read_lines-requires
read_lines-requires c =
    let square : 4 ^ c.args.self.now.n ≡ c.side-side.result * c.side-side.result = four_pow c.args.self.now.n ∙ rw (← c.side-side.ensures.side) refl in
    c.deref_mut.ensures.len ∙ c.in_ok-numbers.ensures.len ∙ sym square

pub invariant_of-result : goal.invariant_of-result
invariant_of-result c =
    let n_is : c.n-levels.result ≡ c.args.self.now.n = c.n-levels.ensures.n in
    let square : 4 ^ c.args.self.now.n ≡ c.side-side.result * c.side-side.result = four_pow c.args.self.now.n ∙ rw (← c.side-side.ensures.side) refl in
    let all : length c.read_lines.new.numbers ≡ c.in_ok-numbers.numbers.len = omega (arith, c.in_ok-numbers.numbers.ok.0) in
    let back = given_back c.in_ok-numbers.numbers.len c.read_lines.new.numbers c.in_ok-numbers.numbers.items all in
    (omega (arith, c.n-levels.ensures.tile), ap length back ∙ all ∙ c.in_ok-numbers.ensures.len ∙ sym square ∙ ap (λ (k : ℕ). 4 ^ k) (sym n_is))
