-- A square of numbers in line order from the top.
use Rattle.std.specs.Prelude.{ℕ, ◌+◌, ◌*◌, ◌^◌, List, [], ◌∷◌, ℤ, pos, slice_index_or}

-- its side is 2^levels, and its numbers stand line by line from the top
pub record PixelBlock : Type 0 where
  pub levels : ℕ
  pub numbers : List ℤ

-- the number in a column and a line
abbrev pub block_number : PixelBlock → ℕ → ℕ → ℤ
block_number block column line = slice_index_or block.numbers (line * 2 ^ block.levels + column) (pos 0)

-- the four numbers at columns 2c and 2c + 1 of lines 2l and 2l + 1, in the order of the four children
abbrev pub block_square : PixelBlock → ℕ → ℕ → List ℤ
block_square block column line = block_number block (2 * column) (2 * line) ∷ block_number block (2 * column) (2 * line + 1)
    ∷ block_number block (2 * column + 1) (2 * line) ∷ block_number block (2 * column + 1) (2 * line + 1) ∷ []
