-- What one step of the work on a shelf does to its files.
use Rattle.std.specs.Prelude.{◌≡◌, ◌⊎◌, ℕ, true, List, Some, None}
use Rattle.std.specs.Cmp.Lexicographic.{slice_cmp}
use Rattle.std.specs.FinMap.{get, insert, remove}
use Rattle.std.specs.List.{list_any}
use Rattle.std.specs.Ordering.{nat_cmp, eq_by_cmp}
use Rattle.survey_link.specs.Shelf.{ShelfFiles}
use Rattle.healpix_nested.specs.Cells.{NestedCell}
use Rattle.tile_path.specs.Spelling.{IsTile, catalogue_spelling}
use Rattle.hips_catalog.specs.Catalogue.{Catalogue}
use Rattle.hips_catalog.specs.TileText.{tile_text}
use Rattle.catalog_command.specs.Files.{KeepsOthers, at_tile}

-- the text is the path of a catalogue tile
pub record IsTilePath (path : List ℕ) : Type 0 where
  pub order : ℕ
  pub npix : ℕ
  pub is : IsTile order npix
  pub spelled : catalogue_spelling order npix ≡ path

-- what is at the path is the tile of the cell
abbrev pub HasRight : Catalogue → NestedCell → List ℕ → ShelfFiles → Type 0
HasRight catalogue cell path files = get files path ≡ tile_text catalogue cell.order cell.npix

-- what is at the path is the tile of its cell, if it has one
abbrev pub IsSettled : Catalogue → List ℕ → ShelfFiles → Type 0
IsSettled catalogue path files = (k p : ℕ) → IsTile k p → catalogue_spelling k p ≡ path → get files path ≡ tile_text catalogue k p

-- the file at the path stays, where it is right or no catalogue tile; else it is gone
abbrev pub ClearsPath : Catalogue → List ℕ → ShelfFiles → ShelfFiles → Type 0
ClearsPath catalogue path old new = (IsSettled catalogue path old × (new ≡ old)) ⊎ (IsTilePath path × (new ≡ remove old path))

-- the tile of the cell was put, where it exists
abbrev pub FillsTile : Catalogue → NestedCell → ShelfFiles → ShelfFiles → Type 0
FillsTile catalogue cell old new = ((tile_text catalogue cell.order cell.npix ≡ None) × (new ≡ old))
    ⊎ ((text : List ℕ) × (tile_text catalogue cell.order cell.npix ≡ Some text) × (new ≡ insert old (catalogue_spelling cell.order cell.npix) text))

-- after some paths: at each tile's path there is what was there, or nothing; at those paths what is right, or nothing
pub record Clears (catalogue : Catalogue) (texts : List (List ℕ)) (old now : ShelfFiles) : Type 0 where
  pub some : (k p : ℕ) → IsTile k p → (at_tile now k p ≡ None) ⊎ (at_tile now k p ≡ at_tile old k p)
  pub right : (k p : ℕ) → IsTile k p → list_any (eq_by_cmp (slice_cmp nat_cmp) (catalogue_spelling k p)) texts ≡ true → (at_tile now k p ≡ None) ⊎ (at_tile now k p ≡ tile_text catalogue k p)
  pub others : KeepsOthers old now
