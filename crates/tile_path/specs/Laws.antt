-- Laws of the spellings, each the whole contract of a function of `laws`.
use Rattle.std.specs.Prelude.{◌≡◌, ◌≢◌, ℕ, ◌<◌}
use Rattle.healpix_nested.specs.Cells.{IsCell, NestedCell}
use Rattle.tile_path.specs.declared.path.Path.{Path}
use Rattle.tile_path.specs.declared.path.Path.TheVariants.{Tile}
use Rattle.tile_path.specs.Spelling.{IsTile, IsPath, spelling, catalogue_spelling}

-- two paths with one spelling are one path
abbrev pub SpellingsDiffer : Type 0
SpellingsDiffer = (path path' : Path) → IsPath path → IsPath path' → spelling path ≡ spelling path' → path ≡ path'

-- two catalogue tiles with one spelling are one tile
abbrev pub CatalogueSpellingsDiffer : Type 0
CatalogueSpellingsDiffer = (order npix order' npix' : ℕ) → IsTile order npix → IsTile order' npix' →
    catalogue_spelling order npix ≡ catalogue_spelling order' npix' → (order ≡ order') × (npix ≡ npix')

-- no path is spelled as a catalogue tile
abbrev pub CatalogueTilesAreNoPaths : Type 0
CatalogueTilesAreNoPaths = (path : Path) (order npix : ℕ) → IsPath path → IsTile order npix →
    spelling path ≢ catalogue_spelling order npix

-- no path is spelled as the tile of a cell of an order above 11 would be
abbrev pub DeepTilesAreNoPaths : Type 0
DeepTilesAreNoPaths = (path : Path) (cell : NestedCell) → IsPath path → IsCell cell.order cell.npix → 11 < cell.order →
    spelling path ≢ spelling (Tile cell)
