-- What one call on a shelf does, as a step of the work.
use Rattle.std.proofs.Common.{◌≡◌, ℕ, List, Option, Some, None, sym, ap, ◌∙◌, inl, inr}
use Rattle.std.specs.Prelude.{◌≢◌, Vec}
use Rattle.std.specs.declared.alloc.Global.{Global}
use Rattle.std.specs.FinMap.{insert, remove}
use Rattle.survey_link.specs.Shelf.{ShelfFiles, Finds, with_file, without_file}
use Rattle.healpix_nested.specs.Cells.{NestedCell}
use Rattle.tile_path.specs.Spelling.{IsTile, catalogue_spelling}
use Rattle.hips_catalog.specs.Catalogue.{Catalogue}
use Rattle.hips_catalog.specs.TileText.{tile_text}
use Rattle.catalog_command.specs.Files.{OnFiles, OnOneShelf}
use Rattle.catalog_command.specs.Steps.{IsTilePath, HasRight, ClearsPath, FillsTile}

-- the path is no tile's, and the shelf stays
pub kept_other : (catalogue : Catalogue) (path : List ℕ) (old new : Option ShelfFiles) → new ≡ old → ((k p : ℕ) → IsTile k p → catalogue_spelling k p ≢ path) → OnFiles (ClearsPath catalogue path) old new
kept_other catalogue path None new e other = tt
kept_other catalogue path (Some old) None e other = cc
kept_other catalogue path (Some old) (Some new) e other = let same : new ≡ old = cc in inl (λ k p is spelled. absurd (other k p is spelled), same)

-- the file is right, and the shelf stays
pub kept_right : (catalogue : Catalogue) (cell : NestedCell) (path : List ℕ) (old new : Option ShelfFiles) → new ≡ old →
    ((k p : ℕ) → IsTile k p → catalogue_spelling k p ≡ path → Some cell ≡ Some (record { order = k; npix = p })) → OnOneShelf (HasRight catalogue cell path) old → OnFiles (ClearsPath catalogue path) old new
kept_right catalogue cell path None new e one right = tt
kept_right catalogue cell path (Some old) None e one right = cc
kept_right catalogue cell path (Some old) (Some new) e one right =
    let same : new ≡ old = cc in
    inl (λ k p is spelled. let cell_is : cell ≡ record { order = k; npix = p } = let both = one k p is spelled in cc in right ∙ ap (λ (c : NestedCell). tile_text catalogue c.order c.npix) cell_is, same)

-- the file is gone
pub gone_path : (catalogue : Catalogue) (path : List ℕ) (old new : Option ShelfFiles) → IsTilePath path → new ≡ without_file path old → OnFiles (ClearsPath catalogue path) old new
gone_path catalogue path None new is e = tt
gone_path catalogue path (Some old) None is e = cc
gone_path catalogue path (Some old) (Some new) is e = let same : new ≡ remove old path = cc in inr (is, same)

-- what stands at the path is what is wanted
pub right_at : (catalogue : Catalogue) (cell : NestedCell) (path : List ℕ) (files : Option ShelfFiles) (found wanted : Vec ℕ Global) → Finds files path (Some found) →
    Some wanted.items ≡ tile_text catalogue cell.order cell.npix → found.items ≡ wanted.items → OnOneShelf (HasRight catalogue cell path) files
right_at catalogue cell path None found wanted finds text same = tt
right_at catalogue cell path (Some files) found wanted finds text same = sym finds ∙ ap (λ (bytes : List ℕ). Some bytes) same ∙ text

-- the tile was put
pub put_tile : (catalogue : Catalogue) (cell : NestedCell) (name bytes : List ℕ) (old new : Option ShelfFiles) → name ≡ catalogue_spelling cell.order cell.npix →
    Some bytes ≡ tile_text catalogue cell.order cell.npix → new ≡ with_file name bytes old → OnFiles (FillsTile catalogue cell) old new
put_tile catalogue cell name bytes None new named text e = tt
put_tile catalogue cell name bytes (Some old) None named text e = cc
put_tile catalogue cell name bytes (Some old) (Some new) named text e =
    let same : new ≡ insert old name bytes = cc in inr (bytes, sym text, same ∙ ap (λ path. insert old path bytes) named)

-- there is no tile
pub no_tile : (catalogue : Catalogue) (cell : NestedCell) (old new : Option ShelfFiles) → tile_text catalogue cell.order cell.npix ≡ None → new ≡ old → OnFiles (FillsTile catalogue cell) old new
no_tile catalogue cell None new none e = tt
no_tile catalogue cell (Some old) None none e = cc
no_tile catalogue cell (Some old) (Some new) none e = let same : new ≡ old = cc in inl (none, same)
