-- The cells whose tiles are stale once leaf tiles were touched. A tile is made of the four tiles of its cell's children (HiPS
-- 1.0, section 4.2), so it is stale where a touched leaf lies under its cell.
use Rattle.std.specs.Prelude.{ℕ, ◌+◌, ◌-◌, ◌^◌, min, Bool, List, map, filter, length, sum_by}
use Rattle.std.specs.List.{list_any, range_with_len}
use Rattle.healpix_nested.specs.Cells.{cell_count, lies_under}
use Rattle.parent_rule.specs.Permit.{PermittedCell}

-- whether a touched leaf, a cell of order top, lies under the cell
abbrev pub is_dirty : ℕ → List ℕ → ℕ → ℕ → Bool
is_dirty top touched order cell = list_any (λ leaf. lies_under top leaf order cell) touched

-- the cells of an order under which a touched leaf lies, by ascending number
unfoldable pub dirty_cells : ℕ → List ℕ → ℕ → List ℕ
dirty_cells top touched order = filter (is_dirty top touched order) (range_with_len 0 (cell_count order))

-- the orders of the tiles above the leaves: from top - 1 down to low
abbrev pub orders_down : ℕ → ℕ → List ℕ
orders_down top low = map (λ i. top - 1 - i) (range_with_len 0 (top - low))

-- cells of one order, each with the leave to merge its tile once
abbrev pub permits_of : ℕ → List ℕ → List PermittedCell
permits_of order cells = map (λ cell. record { order = order; npix = cell }) cells

-- for each of these orders, the deepest first, the permits of its dirty cells
unfoldable pub dirty : ℕ → ℕ → List ℕ → List (ℕ × List PermittedCell)
dirty top low touched = map (λ order. (order, permits_of order (dirty_cells top touched order))) (orders_down top low)

-- how many these are
unfoldable pub work : ℕ → ℕ → List ℕ → ℕ
work top low touched = sum_by (λ order. length (dirty_cells top touched order)) (orders_down top low)

-- a counter after so many steps: it stands still at its type's end
abbrev pub steps_after : ℕ → ℕ → ℕ
steps_after count steps = min (count + steps) (2 ^ 64 - 1)
