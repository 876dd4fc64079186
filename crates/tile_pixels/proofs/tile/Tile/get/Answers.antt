use Rattle.std.proofs.Common.{◌≡◌, ℕ, ◌*◌, ◌/◌, ◌^◌, ◌∙◌, ap, sym, length, drop, get_or, pos, rules, w64, FitsSigned}
use Rattle.std.proofs.lemmas.Int.{to_z-of_z}
use Rattle.tile_pixels.specs.Stored.{number_from}
use Rattle.tile_pixels.specs.Tile.{PixelTile}
use Rattle.tile_pixels.proofs.Tiles.{one_number}
use Rattle.tile_pixels.proofs.tile.Tile.get.Goals as goal

pub returns : goal.returns
returns c =
    let bits : ℕ = c.self.inside.depth.bitpix in
    let line = c.line.result.now in
    let is : bits ≡ c.args.self.now.depth.bitpix = ap (λ (t : PixelTile). t.depth.bitpix) c.self.view_is in
    let long : length line ≡ 2 ^ c.args.self.now.n * (bits / 8) = c.line.ensures.length ∙ ap (λ (b : ℕ). 2 ^ c.args.self.now.n * (b / 8)) (sym is) in
    let number = one_number bits c.args.col (2 ^ c.args.self.now.n) c.bytes-width.result line c.read_row.new.numbers c.self.invariant.1 c.bytes-width.ensures.bytes long c.requires.col c.read_row.ensures.numbers in
    let fits : FitsSigned w64 (get_or c.read_row.new.numbers 0 (pos 0)) = search rules in
    to_z-of_z w64 (get_or c.read_row.new.numbers 0 (pos 0)) fits ∙ number
    ∙ ap (λ (b : ℕ). number_from b (drop (c.args.col * (b / 8)) line)) is ∙ c.line.ensures.numbers c.args.col c.requires.col
