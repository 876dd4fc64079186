use Rattle.std.proofs.Common.{◌≡◌, ℕ, ◌+◌, ◌-◌, ◌*◌, ◌/◌, ◌^◌, ◌<◌, ◌≤◌, List, ℤ, pos, length, take, drop, get_or, refl, sym, ap, ◌∙◌, arith, rules}
use Rattle.std.proofs.lemmas.Nat.{row_fits}
use Rattle.parent_rule.specs.Depth.{PixelDepth}
use Rattle.tile_pixels.specs.Stored.{number_from, numbers_from}
use Rattle.tile_pixels.specs.StoredLaws.{get_or-numbers_from, length-numbers_from}
use Rattle.tile_pixels.specs.Tile.{pixel_in}
use Rattle.tile_pixels.proofs.Tiles.{four_pow}
use Rattle.tile_pixels.proofs.Lines.{line_more, All-pixels, length_of_part}
use Rattle.tile_pixels.proofs.block.read_lines.Goals as goal

pub slice_bounds-read_row-end : goal.slice_bounds-read_row-end
slice_bounds-read_row-end c =
    let side = c.side-side.result in
    let square : 4 ^ c.args.tile.now.n ≡ side * side = four_pow c.args.tile.now.n ∙ rw (← c.side-side.ensures.side) refl in
    let fits : c.loop-line.line * side + side ≤ side * side = row_fits c.loop-line.line side side side (omega arith) (omega arith) in
    search rules

pub read_row-requires : goal.read_row-requires
read_row-requires c =
    let side = c.side-side.result in
    let start = c.loop-line.line * side in
    let bits = c.depth-depth.result.bitpix in
    let square : 4 ^ c.args.tile.now.n ≡ side * side = four_pow c.args.tile.now.n ∙ rw (← c.side-side.ensures.side) refl in
    let fits : start + side ≤ side * side = row_fits c.loop-line.line side side side (omega arith) (omega arith) in
    let part = length_of_part start side c.loop-line.numbers (omega arith) in
    let is : c.depth-depth.result ≡ c.args.tile.now.depth = c.depth-depth.ensures.depth in
    c.line.ensures.length ∙ ap (λ (d : PixelDepth). 2 ^ c.args.tile.now.n * (d.bitpix / 8)) (sym is) ∙ ap (λ (k : ℕ). k * (bits / 8)) (sym c.side-side.ensures.side ∙ sym part)

pub loop-line-preserved : goal.loop-line-preserved
loop-line-preserved c =
    let tile = c.args.tile.now in
    let side = c.side-side.result in
    let start = c.loop-line.line * side in
    let bits = c.depth-depth.result.bitpix in
    let square : 4 ^ tile.n ≡ side * side = four_pow tile.n ∙ rw (← c.side-side.ensures.side) refl in
    let fits : start + side ≤ side * side = row_fits c.loop-line.line side side side (omega arith) (omega arith) in
    let part : length (take (start + side - start) (drop start c.loop-line.numbers)) ≡ side = length_of_part start side c.loop-line.numbers (omega arith) in
    let row : c.read_row.new.numbers ≡ numbers_from bits side c.line.result.now = c.read_row.ensures.numbers ∙ ap (λ (k : ℕ). numbers_from bits k c.line.result.now) part in
    let long : length c.read_row.new.numbers ≡ side = ap length row ∙ length-numbers_from bits side c.line.result.now in
    let is : c.depth-depth.result ≡ tile.depth = c.depth-depth.ensures.depth in
    let at : start ≡ c.loop-line.line * 2 ^ tile.n = ap (λ (k : ℕ). c.loop-line.line * k) c.side-side.ensures.side in
    let room : c.loop-line.line * 2 ^ tile.n + 2 ^ tile.n ≤ length c.loop-line.numbers = rw (← c.side-side.ensures.side) (omega arith) in
    line_more (λ column line. pixel_in tile column line) (2 ^ tile.n) c.loop-line.line start (start + side - start) c.loop-line.numbers c.read_row.new.numbers at (long ∙ c.side-side.ensures.side) room c.loop-line.invariant
    (λ column column_in.
    let within : column < side = rw c.side-side.ensures.side column_in in
    ap (λ (vs : List ℤ). get_or vs column (pos 0)) row ∙ get_or-numbers_from bits side c.line.result.now column (pos 0) within
    ∙ ap (λ (d : PixelDepth). number_from d.bitpix (drop (column * (d.bitpix / 8)) c.line.result.now)) is ∙ c.line.ensures.numbers column column_in)

pub returns-clause-range : goal.returns-clause-range
returns-clause-range c =
    let tile = c.args.tile.now in
    let same : c.side-side.result ≡ 2 ^ tile.n = c.side-side.ensures.side in
    let long : length c.loop-line.numbers ≡ 4 ^ tile.n = c.loop-line.auto.numbers ∙ c.requires in
    All-pixels tile c.side-side.result c.loop-line.numbers c.depth-depth.ensures.tile same long (λ column line column_in line_in. c.loop-line.invariant column line column_in (omega arith))
