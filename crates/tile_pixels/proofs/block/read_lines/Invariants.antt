use Rattle.std.proofs.Common.{◌≡◌, ℕ, ◌+◌, ◌*◌, ◌^◌, ◌<◌, slice_index_or, pos}
use Rattle.tile_pixels.specs.Tile.{pixel_in}
use Rattle.tile_pixels.proofs.block.read_lines.Given as goal

abbrev pub invariant-loop-line : goal.invariant-loop-line
invariant-loop-line l =
    (column line : ℕ) → column < 2 ^ l.tile.n → line < l.line → slice_index_or l.numbers (line * 2 ^ l.tile.n + column) (pos 0) ≡ pixel_in l.tile column line
