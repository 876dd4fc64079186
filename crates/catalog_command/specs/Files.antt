-- The tiles of a catalogue on a shelf (HiPS 1.0, section 4.2).
use Rattle.std.specs.Prelude.{◌≡◌, ◌≢◌, ◌⊎◌, ℕ, List, Option, Some, None, ⊤}
use Rattle.std.specs.FinMap.{get}
use Rattle.survey_link.specs.Shelf.{ShelfFiles}
use Rattle.tile_path.specs.Spelling.{IsTile, catalogue_spelling}
use Rattle.hips_catalog.specs.Catalogue.{Catalogue}
use Rattle.hips_catalog.specs.TileText.{tile_text}

-- the text is the path of no catalogue tile
abbrev pub IsOtherPath : List ℕ → Type 0
IsOtherPath text = (k p : ℕ) → IsTile k p → catalogue_spelling k p ≢ text

-- all other files stay
abbrev pub KeepsOthers : ShelfFiles → ShelfFiles → Type 0
KeepsOthers old new = (text : List ℕ) → IsOtherPath text → get new text ≡ get old text

-- what is at the path of a tile
abbrev pub at_tile : ShelfFiles → ℕ → ℕ → Option (List ℕ)
at_tile files k p = get files (catalogue_spelling k p)

-- of all files that a catalogue can have, the shelf has exactly this one's
abbrev pub HoldsCatalogue : Catalogue → ShelfFiles → Type 0
HoldsCatalogue catalogue files = (k p : ℕ) → IsTile k p → at_tile files k p ≡ tile_text catalogue k p

pub record IsReplaced (catalogue : Catalogue) (old new : ShelfFiles) : Type 0 where
  pub holds : HoldsCatalogue catalogue new
  pub others : KeepsOthers old new

-- ---- on the way there

-- at each path but one, the shelf has the tile that is expected there, or none
abbrev pub HasSomeOf : (ℕ → ℕ → Option (List ℕ)) → List ℕ → ShelfFiles → Type 0
HasSomeOf expected but files =
    (k p : ℕ) → IsTile k p → catalogue_spelling k p ≢ but → (at_tile files k p ≡ None) ⊎ (at_tile files k p ≡ expected k p)

-- the shelf has some of the catalogue's tiles and no others
abbrev pub HasSome : Catalogue → ShelfFiles → Type 0
HasSome catalogue files = (k p : ℕ) → IsTile k p → (at_tile files k p ≡ None) ⊎ (at_tile files k p ≡ tile_text catalogue k p)

-- the tiles that the catalogue hasn't got, or has with another text, are gone
pub record IsCleared (catalogue : Catalogue) (old new : ShelfFiles) : Type 0 where
  pub some : HasSome catalogue new
  pub others : KeepsOthers old new

-- some tiles are gone, and one path may hold anything
pub record IsClearing (old new : ShelfFiles) : Type 0 where
  pub but : List ℕ
  pub some : HasSomeOf (at_tile old) but new
  pub others : KeepsOthers old new

-- the tiles are some of those before, or some of the catalogue's, at each path but one: so if each row of either is in one
-- tile, no row is in two tiles meanwhile
pub record IsUnfinished (catalogue : Catalogue) (old new : ShelfFiles) : Type 0 where
  pub but : List ℕ
  pub some : HasSomeOf (at_tile old) but new ⊎ HasSomeOf (tile_text catalogue) but new
  pub others : KeepsOthers old new

-- from a shelf that has some of the catalogue's tiles and no others, all tiles are put, or some
pub record IsFilled (catalogue : Catalogue) (old new : ShelfFiles) : Type 0 where
  pub holds : HasSome catalogue old → HoldsCatalogue catalogue new
  pub others : KeepsOthers old new

pub record IsFilling (catalogue : Catalogue) (old new : ShelfFiles) : Type 0 where
  pub but : List ℕ
  pub some : HasSome catalogue old → HasSomeOf (tile_text catalogue) but new
  pub others : KeepsOthers old new

-- ---- where the proof can see a shelf's files

abbrev pub OnFiles : (ShelfFiles → ShelfFiles → Type 0) → Option ShelfFiles → Option ShelfFiles → Type 0
OnFiles R None new = ⊤
OnFiles R (Some old) None = ⊥
OnFiles R (Some old) (Some new) = R old new

abbrev pub OnOneShelf : (ShelfFiles → Type 0) → Option ShelfFiles → Type 0
OnOneShelf P None = ⊤
OnOneShelf P (Some files) = P files
