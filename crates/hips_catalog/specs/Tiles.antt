-- The tiles that are kept: those with rows, by ascending number of their cells.
use Rattle.std.specs.Prelude.{◌≡◌, ℕ, ◌+◌, ◌*◌, ◌<◌, ◌==◌, ◌&&◌, nat_lt, Bool, false, cond, List, [], ◌∷◌, map, slice_get, length, Option, Some, None, MatchOption, IfSome, option_map, ◌⊎◌}
use Rattle.std.specs.Arc.{arc_value}
use Rattle.std.specs.List.{AllByRecursion}
use Rattle.balanced_list.specs.Search.{leading}
use Rattle.std.specs.declared.sync.Arc.{Arc}
use Rattle.std.specs.declared.alloc.Global.{Global}
use Rattle.healpix_nested.specs.Cells.{NestedCell, IsCell, uniq_number}
use Rattle.hips_catalog.specs.Rows.{Source, is_better}
use Rattle.hips_catalog.specs.declared.tile.Tile.{Tile}

-- the rows that are shared
abbrev pub sources : List (Arc Source Global) → List Source
sources rows = map arc_value rows

-- whether the tile is that of cell p of order k
abbrev pub is_of : ℕ → ℕ → Tile → Bool
is_of k p tile = (tile.cell.order == k) && (tile.cell.npix == p)

-- the rows of the tile of cell p of order k; none where there is no tile
abbrev pub rows_at : List Tile → ℕ → ℕ → List Source
rows_at [] k p = []
rows_at (t ∷ ts) k p = cond (is_of k p t) (sources t.rows) (rows_at ts k p)

-- the number of a tile's cell
abbrev pub number : Tile → ℕ
number tile = uniq_number tile.cell.order tile.cell.npix

-- each tile is of a cell, and its number is below those after it
abbrev pub AreListed : List Tile → Type 0
AreListed [] = Unit {0}
AreListed (t ∷ ts) = IsCell t.cell.order t.cell.npix × AllByRecursion (λ s. number t < number s) ts × AreListed ts

-- the tile at this place is that of the cell
abbrev pub HasTile : List Tile → ℕ → NestedCell → Type 0
HasTile tiles at cell = slice_get (map (λ t. t.cell) tiles) at ≡ Some cell

-- where a tile of the cell would be, and isn't
pub record IsGap (tiles : List Tile) (at : ℕ) (cell : NestedCell) : Type 0 where
  pub place : at ≡ leading (λ t. nat_lt (number t) (uniq_number cell.order cell.npix)) tiles
  pub other : (tile : Tile) → slice_get tiles at ≡ Some tile → is_of cell.order cell.npix tile ≡ false

-- all tiles but that of cell p of order k have the rows that they had
abbrev pub OthersStay : ℕ → ℕ → List Tile → List Tile → Type 0
OthersStay k p old new = (j q : ℕ) → ¬ ((j ≡ k) × (q ≡ p)) → rows_at new j q ≡ rows_at old j q

-- the tiles are of the same cells
abbrev pub HasSameCells : List Tile → List Tile → Type 0
HasSameCells old new = map (λ t. t.cell) new ≡ map (λ t. t.cell) old

-- the tile of the cell has these rows now, and all else is as it was
pub record HasNewRows (cell : NestedCell) (rows : List Source) (old new : List Tile) : Type 0 where
  pub rows_are : rows_at new cell.order cell.npix ≡ rows
  pub others : OthersStay cell.order cell.npix old new
  pub listed : AreListed new
  pub cells : HasSameCells old new

-- all but the tiles of two cells have the rows that they had
abbrev pub OthersStayButTwo : NestedCell → NestedCell → List Tile → List Tile → Type 0
OthersStayButTwo cell child old new =
    (j q : ℕ) → ¬ ((j ≡ cell.order) × (q ≡ cell.npix)) → ¬ ((j ≡ child.order) × (q ≡ child.npix)) → rows_at new j q ≡ rows_at old j q

-- the first row of the tile of the cell
abbrev pub first_at : List Tile → NestedCell → Option Source
first_at tiles cell = slice_get (rows_at tiles cell.order cell.npix) 0

-- the cell is one of these
abbrev pub IsOneOf : NestedCell → List NestedCell → Type 0
IsOneOf cell [] = ⊥
IsOneOf cell (c ∷ cs) = (cell ≡ c) ⊎ IsOneOf cell cs

-- of the cells this is one whose tile has a first row than which no other's first row is better; none where no tile has rows
pub record IsBest (tiles : List Tile) (best : Option NestedCell) (cells : List NestedCell) : Type 0 where
  pub is : MatchOption best (AllByRecursion (λ c. first_at tiles c ≡ None) cells)
      (λ b. IsOneOf b cells × (z : Source) × (first_at tiles b ≡ Some z) × AllByRecursion (λ c. IfSome (first_at tiles c) (λ s. is_better s z ≡ false)) cells)

-- and this is its tile
pub record IsBestTile (tiles : List Tile) (best : Option Tile) (cells : List NestedCell) : Type 0 where
  pub cell : IsBest tiles (option_map (λ t. t.cell) best) cells
  pub rows : IfSome best (λ t. rows_at tiles t.cell.order t.cell.npix ≡ sources t.rows)

-- child i of the four of a cell
abbrev pub child_cell : NestedCell → ℕ → NestedCell
child_cell cell i = record { order = cell.order + 1; npix = 4 * cell.npix + i }

-- each tile that is kept has rows
abbrev pub NoneIsEmpty : List Tile → Type 0
NoneIsEmpty tiles = AllByRecursion (λ (c : NestedCell). 0 < length (rows_at tiles c.order c.npix)) (map (λ t. t.cell) tiles)
