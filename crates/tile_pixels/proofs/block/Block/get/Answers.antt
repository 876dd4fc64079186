use Rattle.std.proofs.Common.{◌≡◌, ℕ, ◌+◌, ◌*◌, ◌^◌, ◌<◌, refl, sym, ap, subst, ◌∙◌, arith, rules, w64, FitsSigned, get_or, pos}
use Rattle.std.proofs.lemmas.Int.{to_z-of_z}
use Rattle.std.proofs.lemmas.Nat.{mul-add-lt}
use Rattle.std.proofs.lemmas.List.{get_or_read}
use Rattle.tile_pixels.specs.Block.{PixelBlock, block_number}
use Rattle.tile_pixels.proofs.Tiles.{four_pow}
use Rattle.tile_pixels.proofs.block.Block.get.Goals as goal

pub index-requires : goal.index-requires
index-requires c =
    let block = c.self.inside in
    let side_is : c.side.result ≡ 2 ^ block.levels = c.side.ensures ∙ ap (λ (b : PixelBlock). 2 ^ b.levels) (sym c.self.view_is) in
    let within : c.args.row * c.side.result + c.args.col < c.side.result * c.side.result = mul-add-lt c.args.row c.side.result c.args.col c.side.result (rw c.side.ensures c.requires.row) (rw c.side.ensures c.requires.col) in
    let square : 4 ^ block.levels ≡ c.side.result * c.side.result = four_pow block.levels ∙ rw (← side_is) refl in
    omega (arith, block.numbers.ok.0)

pub returns : goal.returns
returns c =
    let block = c.self.inside in
    let side_is : c.side.result ≡ 2 ^ block.levels = c.side.ensures ∙ ap (λ (b : PixelBlock). 2 ^ b.levels) (sym c.self.view_is) in
    let within : c.args.row * c.side.result + c.args.col < c.side.result * c.side.result = mul-add-lt c.args.row c.side.result c.args.col c.side.result (rw c.side.ensures c.requires.row) (rw c.side.ensures c.requires.col) in
    let square : 4 ^ block.levels ≡ c.side.result * c.side.result = four_pow block.levels ∙ rw (← side_is) refl in
    let fits : FitsSigned w64 c.index.result.now = search rules in
    let read = get_or_read block.numbers.items (c.args.row * c.side.result + c.args.col) c.index.result.now (omega (arith, block.numbers.ok.0)) c.index.ensures (pos 0) in
    let at : c.index.result.now ≡ get_or block.numbers.items (c.args.row * 2 ^ block.levels + c.args.col) (pos 0) = read ∙ ap (λ (s : ℕ). get_or block.numbers.items (c.args.row * s + c.args.col) (pos 0)) side_is in
    let P : PixelBlock → Type 0 = λ b. c.index.result.now ≡ block_number b c.args.col c.args.row in
    to_z-of_z w64 c.index.result.now fits ∙ subst P c.self.view_is at
