-- A catalogue: its rows, each id once, what its tiles are, and what a row more or less makes of it.
use Rattle.std.specs.Prelude.{◌≡◌, ℕ, ◌+◌, ◌≤◌, Bool, true, false, not, cond, List, [], ◌∷◌, map, filter, length}
use Rattle.std.specs.List.{AllByRecursion, list_any, flat_map, range_with_len}
use Rattle.std.specs.Str.{bytes_eq}
use Rattle.healpix_nested.specs.Cells.{NestedCell, IsCell, cell_count}
use Rattle.hips_catalog.specs.Rows.{Source, has_id_below, in_order}
use Rattle.hips_catalog.specs.Held.{held}

-- the deepest order, how many rows a tile above it holds at most, and the rows, by ascending bytes of their ids
pub record Catalogue : Type 0 where
  pub top : ℕ
  pub per_tile : ℕ
  pub rows : List Source

-- the most rows that a catalogue has
abbrev pub most_rows : ℕ
most_rows = 1000000

-- the ids of the sources ascend by their bytes, so each is there once
abbrev pub AscendById : List Source → Type 0
AscendById [] = Unit {0}
AscendById (s ∷ ss) = AllByRecursion (λ r. has_id_below s r.id ≡ true) ss × AscendById ss

-- what each catalogue meets
pub record IsCatalogue (catalogue : Catalogue) : Type 0 where
  pub top : catalogue.top ≤ 11
  pub least : 1 ≤ catalogue.per_tile
  pub most : catalogue.per_tile ≤ 4096
  pub by_id : AscendById catalogue.rows
  pub of_cells : AllByRecursion (λ s. IsCell catalogue.top s.npix) catalogue.rows
  pub few : length catalogue.rows ≤ most_rows

-- ---- rows by their ids

-- whether one of the sources has the id
abbrev pub has_id : List ℕ → List Source → Bool
has_id id sources = list_any (λ s. bytes_eq s.id id) sources

-- the sources with one more, after those whose ids are below its own
abbrev pub with_source : Source → List Source → List Source
with_source source [] = source ∷ []
with_source source (s ∷ ss) = cond (has_id_below s source.id) (s ∷ with_source source ss) (source ∷ s ∷ ss)

-- the sources without that of an id
abbrev pub without_id : List ℕ → List Source → List Source
without_id id sources = filter (λ s. not (bytes_eq s.id id)) sources

-- the catalogue without rows
abbrev pub no_rows : ℕ → ℕ → Catalogue
no_rows top per_tile = record { top = top; per_tile = per_tile; rows = [] }

-- the catalogue with one more row
abbrev pub with_row : Source → Catalogue → Catalogue
with_row source catalogue = record { top = catalogue.top; per_tile = catalogue.per_tile; rows = with_source source catalogue.rows }

-- the catalogue without the row of an id
abbrev pub without_row : List ℕ → Catalogue → Catalogue
without_row id catalogue = record { top = catalogue.top; per_tile = catalogue.per_tile; rows = without_id id catalogue.rows }

-- ---- its tiles

-- what the tile of cell p of order k holds
abbrev pub tile_rows : Catalogue → ℕ → ℕ → List Source
tile_rows catalogue k p = held catalogue.top catalogue.per_tile (in_order catalogue.rows) k p

-- whether there is a source
abbrev pub has_some : List Source → Bool
has_some [] = false
has_some (s ∷ ss) = true

-- the cells of order k whose tiles hold rows, by number
abbrev pub tiles_of_order : Catalogue → ℕ → List NestedCell
tiles_of_order catalogue k = map (λ p. record { order = k; npix = p }) (filter (λ p. has_some (tile_rows catalogue k p)) (range_with_len 0 (cell_count k)))

-- the cells whose tiles exist: those that hold rows, by order and number
abbrev pub existing_tiles : Catalogue → List NestedCell
existing_tiles catalogue = flat_map (tiles_of_order catalogue) (range_with_len 0 (catalogue.top + 1))
