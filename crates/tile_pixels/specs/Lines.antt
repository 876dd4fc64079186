-- The tile above four tiles as `merge` makes it: half a line at a time, from two lines of one child.
use Rattle.std.specs.Prelude.{ℕ, zero, suc, ◌+◌, ◌-◌, ◌*◌, ◌^◌, List, [], ◌∷◌, ◌++◌, map, ℤ, Option, Some, None, slice_index_or}
use Rattle.std.specs.List.{range_with_len}
use Rattle.parent_rule.specs.Combined.{combined}
use Rattle.parent_rule.specs.Depth.{PixelDepth}
use Rattle.parent_rule.specs.declared.combine.Combine.{Combine}
use Rattle.tile_pixels.specs.Stored.{stored_at}

-- the number in a column and a row, counted from 0 at the top left, of one of the four tiles
abbrev pub number_in : PixelDepth → ℕ → Option (List ℤ) → ℕ → ℕ → ℤ
number_in depth n None column row = depth.blank
number_in depth n (Some numbers) column row = slice_index_or numbers ((2 ^ n - 1 - row) * 2 ^ n + column) depth.blank

-- the number above columns 2c and 2c + 1 of rows 2r and 2r + 1
abbrev pub number_over : PixelDepth → ℕ → Option (List ℤ) → ℕ → ℕ → ℤ
number_over depth n child row column = combined depth.combine depth.blank
    (number_in depth n child (2 * column) (2 * row) ∷ number_in depth n child (2 * column) (2 * row + 1) ∷
    number_in depth n child (2 * column + 1) (2 * row) ∷ number_in depth n child (2 * column + 1) (2 * row + 1) ∷ [])

-- the row above rows 2r and 2r + 1 of one of the four
unfoldable pub half_row : PixelDepth → ℕ → Option (List ℤ) → ℕ → List ℤ
half_row depth n child row = map (number_over depth n child row) (range_with_len 0 (2 ^ (n - 1)))

-- the row above two rows of stored numbers: each number above places 2i and 2i + 1 of both
unfoldable pub row_above : Combine → ℕ → ℤ → ℕ → List ℕ → List ℕ → List ℤ
row_above way bits blank count top bottom = map above (range_with_len 0 count)
  where
    above : ℕ → ℤ
    above i = combined way blank (stored_at bits top (2 * i) ∷ stored_at bits bottom (2 * i) ∷
        stored_at bits top (2 * i + 1) ∷ stored_at bits bottom (2 * i + 1) ∷ [])

-- the first lines above two of the four side by side, bottom line first
unfoldable pub half_rows : PixelDepth → ℕ → Option (List ℤ) → Option (List ℤ) → ℕ → List ℤ
half_rows depth n left right zero = []
half_rows depth n left right (suc lines) = half_rows depth n left right lines ++
    (half_row depth n left (2 ^ (n - 1) - 1 - lines) ++ half_row depth n right (2 ^ (n - 1) - 1 - lines))
