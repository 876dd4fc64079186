-- Where a pixel stands in its tile. A tile of 2^n columns and lines shows 4^n cells: the one in column c and line r,
-- both counted from 0 at the top left, has the number z(c, r) among them. This orientation is the project's own
-- profile of HiPS 1.0; that FITS stores the bottom line first is FITS 4.0.
use Rattle.std.specs.Prelude.{◌≡◌, ℕ, zero, suc, ◌+◌, ◌-◌, ◌*◌, ◌/◌, ◌%◌, ◌^◌}
use Rattle.std.specs.Int.{bit_at}

-- z has bit i of the line as its bit 2i, and bit i of the column as its bit 2i + 1
pub record Interleaves (z column line : ℕ) : Type 0 where
  pub lines : (i : ℕ) → bit_at z (2 * i) ≡ bit_at line i
  pub columns : (i : ℕ) → bit_at z (2 * i + 1) ≡ bit_at column i

-- the low k bits of x, bit i at place 2i
unfoldable pub spread : ℕ → ℕ → ℕ
spread zero x = 0
spread (suc k) x = x % 2 + 4 * spread k (x / 2)

-- the k bits of z at places 0, 2, 4 and so on, side by side
unfoldable pub gathered : ℕ → ℕ → ℕ
gathered zero z = 0
gathered (suc k) z = z % 2 + 2 * gathered k (z / 4)

-- z(c, r), for columns and lines of nine bits
abbrev pub z_order : ℕ → ℕ → ℕ
z_order column line = spread 9 line + 2 * spread 9 column

-- the column and the line with a given z
abbrev pub column_of : ℕ → ℕ
column_of z = gathered 9 (z / 2)

abbrev pub line_of : ℕ → ℕ
line_of z = gathered 9 z

-- the column and the line, from the top, of stored number s in a tile of 2^n columns
abbrev pub stored_column : ℕ → ℕ → ℕ
stored_column n s = s % 2 ^ n

abbrev pub stored_line : ℕ → ℕ → ℕ
stored_line n s = 2 ^ n - 1 - s / 2 ^ n

-- the z of stored number s, and the stored number with a given z
abbrev pub stored_z : ℕ → ℕ → ℕ
stored_z n s = z_order (stored_column n s) (stored_line n s)

abbrev pub stored_at_z : ℕ → ℕ → ℕ
stored_at_z n z = (2 ^ n - 1 - line_of z) * 2 ^ n + column_of z
