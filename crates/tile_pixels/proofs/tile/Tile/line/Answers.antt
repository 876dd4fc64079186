use Rattle.std.proofs.Common.{◌≡◌, ℕ, ◌+◌, ◌-◌, ◌*◌, ◌/◌, ◌^◌, ◌<◌, ◌≤◌, List, drop, take, length, ◌∙◌, sym, ap, subst, arith, rules}
use Rattle.tile_pixels.specs.Stored.{number_from}
use Rattle.tile_pixels.specs.Tile.{PixelTile, pixel_in}
use Rattle.tile_pixels.proofs.Tiles.{line_number, line_fits}
use Rattle.tile_pixels.proofs.tile.Tile.line.Goals as goal

pub slice_bounds-result-end : goal.slice_bounds-result-end
slice_bounds-result-end c =
    let tile = c.self.inside in
    let n_is : tile.n ≡ c.args.self.now.n = ap (λ (t : PixelTile). t.n) c.self.view_is in
    let side_is : c.side-side.result ≡ 2 ^ tile.n = c.side-side.ensures.side ∙ ap (λ (k : ℕ). 2 ^ k) (sym n_is) in
    let line_in : c.args.line < 2 ^ tile.n = rw n_is c.requires in
    let len : length tile.raw.items ≡ 4 ^ tile.n * c.bytes.result = c.self.invariant.2 ∙ ap (λ (k : ℕ). 4 ^ tile.n * k) (let e : tile.depth.bitpix / 8 ≡ c.bytes.result = omega arith in e) in
    let fits : (c.side-side.result - 1 - c.args.line) * (c.side-side.result * c.bytes.result) + c.side-side.result * c.bytes.result ≤ length tile.raw.items = line_fits tile.n c.args.line c.side-side.result c.bytes.result (length tile.raw.items) side_is line_in len in
    search rules

pub returns-clause-numbers : goal.returns-clause-numbers
returns-clause-numbers c = λ column h.
    let tile = c.self.inside in
    let n_is : tile.n ≡ c.args.self.now.n = ap (λ (t : PixelTile). t.n) c.self.view_is in
    let side_is : c.side-side.result ≡ 2 ^ tile.n = c.side-side.ensures.side ∙ ap (λ (k : ℕ). 2 ^ k) (sym n_is) in
    let line_in : c.args.line < 2 ^ tile.n = rw n_is c.requires in
    let column_in : column < 2 ^ tile.n = rw n_is h in
    let start : ℕ = (c.side-side.result - 1 - c.args.line) * (c.side-side.result * c.bytes.result) in
    let long : ℕ = c.side-side.result * c.bytes.result in
    let number = line_number tile.depth.bitpix tile.n c.args.line c.side-side.result c.bytes.result column tile.raw.items tile.depth.blank c.self.invariant.1 c.bytes.ensures.bytes c.self.invariant.2 side_is line_in column_in in
    let P : PixelTile → Type 0 = λ t. number_from t.depth.bitpix (drop (column * (t.depth.bitpix / 8)) (take (start + long - start) (drop start c.deref.result.now))) ≡ pixel_in t column c.args.line in
    subst P c.self.view_is (ap (λ (bytes : List ℕ). number_from tile.depth.bitpix (drop (column * (tile.depth.bitpix / 8)) (take (start + long - start) (drop start bytes)))) c.deref.ensures.value ∙ number)
