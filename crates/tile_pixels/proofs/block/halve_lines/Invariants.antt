use Rattle.std.proofs.Common.{◌≡◌, ℕ, ◌+◌, ◌*◌, ◌<◌, All, length, drop, slice_index_or, pos}
use Rattle.parent_rule.specs.Depth.{IsNumber}
use Rattle.parent_rule.specs.Combined.{combined, square_at}
use Rattle.tile_pixels.proofs.block.halve_lines.Given as goal

abbrev pub invariant-loop-line : goal.invariant-loop-line
invariant-loop-line l = record {
  written : (column line : ℕ) → column < l.side → line < l.line
      → slice_index_or l.numbers (line * l.side + column) (pos 0)
      ≡ combined l.depth.combine l.depth.blank (square_at (drop (4 * l.side * line) l.initial.numbers) (drop (4 * l.side * line + 2 * l.side) l.initial.numbers) column);
  long : length l.row ≡ l.side;
  behind : drop (l.line * l.side) l.numbers ≡ drop (l.line * l.side) l.initial.numbers;
  range : All (IsNumber l.depth.bitpix) l.numbers;
}
