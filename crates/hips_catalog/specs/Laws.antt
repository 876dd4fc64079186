-- Laws of the definitions, each the whole contract of a function of `laws`.
use Rattle.std.specs.Prelude.{◌≡◌, ◌⊎◌, ℕ, ◌/◌, ◌-◌, ◌^◌, ◌<◌, ◌≤◌, true, List, [], ◌∷◌, length, Ok}
use Rattle.healpix_nested.specs.Cells.{NestedCell, lies_under}
use Rattle.hips_catalog.specs.Rows.{Source, is_better}
use Rattle.hips_catalog.specs.More.{IsInOrder}
use Rattle.hips_catalog.specs.Catalogue.{Catalogue, IsCatalogue, AscendById, tile_rows, existing_tiles}
use Rattle.hips_catalog.specs.Tiles.{IsOneOf}
use Rattle.hips_catalog.specs.Reading.{IsRow, row_text, read_row}

-- the line that is written of a row is read as that row, and nothing else is read as a row
pub record RowIsRead (top : ℕ) : Type 0 where
  pub written : (row : Source) → IsRow top row → read_row top (row_text row) ≡ Ok row
  pub read : (line : List ℕ) (row : Source) → read_row top line ≡ Ok row → (line ≡ row_text row) × IsRow top row

-- ---- the tiles of a catalogue

-- the source is one of these
abbrev pub IsAmong : Source → List Source → Type 0
IsAmong s [] = ⊥
IsAmong s (r ∷ rs) = (s ≡ r) ⊎ IsAmong s rs

-- the source is in one tile, of some order, whose cell its own cell lies under, and in no other
pub record StandsInOneTile (catalogue : Catalogue) (s : Source) : Type 0 where
  pub order : ℕ
  pub known : order ≤ catalogue.top
  pub there : IsAmong s (tile_rows catalogue order (s.npix / 4 ^ (catalogue.top - order)))
  pub nowhere_else : (k p : ℕ) → IsAmong s (tile_rows catalogue k p) → (k ≡ order) × (p ≡ s.npix / 4 ^ (catalogue.top - order))

-- each row is in exactly one tile, on the path of its cell
abbrev pub EachRowStandsInOneTile : Type 0
EachRowStandsInOneTile = (catalogue : Catalogue) → AscendById catalogue.rows → (s : Source) → IsAmong s catalogue.rows → StandsInOneTile catalogue s

-- a tile holds rows of the catalogue and nothing else, the better ones first, and none twice
pub record HoldsRowsInOrder (catalogue : Catalogue) (k p : ℕ) : Type 0 where
  pub rows : (s : Source) → IsAmong s (tile_rows catalogue k p) → IsAmong s catalogue.rows
  pub in_order : IsInOrder (tile_rows catalogue k p)

abbrev pub TilesHoldRowsInOrder : Type 0
TilesHoldRowsInOrder = (catalogue : Catalogue) → AscendById catalogue.rows → (k p : ℕ) → HoldsRowsInOrder catalogue k p

-- the tile of the upper cell exists, is full, and each of its rows is better than each row of the lower cell's tile
pub record HasBetterRows (catalogue : Catalogue) (upper lower : NestedCell) : Type 0 where
  pub exists : IsOneOf upper (existing_tiles catalogue)
  pub full : length (tile_rows catalogue upper.order upper.npix) ≡ catalogue.per_tile
  pub better : (r s : Source) → IsAmong r (tile_rows catalogue upper.order upper.npix) → IsAmong s (tile_rows catalogue lower.order lower.npix) → is_better r s ≡ true

-- above a tile that exists each tile on its path is full of better rows
abbrev pub BetterRowsStandAbove : Type 0
BetterRowsStandAbove =
    (catalogue : Catalogue) → IsCatalogue catalogue → (upper lower : NestedCell) → IsOneOf lower (existing_tiles catalogue)
    → upper.order < lower.order → lies_under lower.order lower.npix upper.order upper.npix ≡ true → HasBetterRows catalogue upper lower
