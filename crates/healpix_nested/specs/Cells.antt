-- Cells of the sphere by number: HEALPix, nested scheme, as HiPS 1.0 (section 2) takes it over. Each of the twelve
-- cells of order 0 is cut in four at each further order.
use Rattle.std.specs.Prelude.{◌≡◌, ◌⊎◌, ℕ, ◌+◌, ◌-◌, ◌*◌, ◌/◌, ◌^◌, ◌<◌, ◌≤◌, ◌&&◌, ◌==◌, nat_le, Bool}

-- a cell: its order, and its number within the order
pub record NestedCell : Type 0 where
  pub order : ℕ
  pub npix : ℕ

-- how many cells an order has
abbrev pub cell_count : ℕ → ℕ
cell_count order = 12 * 4 ^ order

-- the greatest order of a cell
abbrev pub greatest_order : ℕ
greatest_order = 20

-- the orders that this crate knows are 0 to 20, and the cells of an order are numbered from 0
pub record IsCell (order npix : ℕ) : Type 0 where
  pub known_order : order ≤ greatest_order
  pub in_order : npix < cell_count order

-- a cell comes before another: it is of a lower order, or of the same order and has a lower number
abbrev pub ComesBefore : NestedCell → NestedCell → Type 0
ComesBefore a b = (a.order < b.order) ⊎ ((a.order ≡ b.order) × (a.npix < b.npix))

-- cell p of order k lies under cell q of order j; a cell lies under itself
abbrev pub lies_under : ℕ → ℕ → ℕ → ℕ → Bool
lies_under k p j q = nat_le j k && (p / 4 ^ (k - j) == q)

-- the number of a cell among the cells of all orders (MOC 1.1, section 2.3.1: NUNIQ)
abbrev pub uniq_number : ℕ → ℕ → ℕ
uniq_number order npix = 4 * 4 ^ order + npix
