-- How the files of a survey are spelled: HiPS 1.0, section 4, which names the file of a tile by the tile's order and
-- number, and puts at most 10,000 of them into a folder. That numbers have no leading zeros, that tiles have orders up to
-- 11 and that the mosaic is of order 3 is this project's profile.
use Rattle.std.specs.Prelude.{ℕ, ◌*◌, ◌/◌, ◌≤◌, List, ◌++◌, codes, decimal}
use Rattle.healpix_nested.specs.Cells.{IsCell}
use Rattle.tile_path.specs.declared.path.Path.{Path}
use Rattle.tile_path.specs.declared.path.Path.TheVariants.{Properties, Moc, Allsky, Tile}

-- a cell that can have a tile: its order is at most 11
pub record IsTile (order npix : ℕ) : Type 0 where
  pub cell : IsCell order npix
  pub order_at_most_11 : order ≤ 11

-- the folder of a tile is named by the number of its first place
abbrev pub folder_number : ℕ → ℕ
folder_number npix = npix / 10000 * 10000

-- Norder{order}/Dir{folder}/Npix{npix}, then the suffix
abbrev pub tile_spelling : ℕ → ℕ → List ℕ → List ℕ
tile_spelling order npix suffix =
    codes "Norder" ++ decimal order ++ codes "/Dir" ++ decimal (folder_number npix) ++ codes "/Npix" ++ decimal npix ++ suffix

-- the file of a catalogue tile
abbrev pub catalogue_spelling : ℕ → ℕ → List ℕ
catalogue_spelling order npix = tile_spelling order npix (codes ".tsv")

-- the order of the tile, where it is a tile, is at most 11
abbrev pub HasTileOrder : Path → Type 0
HasTileOrder Properties = Unit {0}
HasTileOrder Moc = Unit {0}
HasTileOrder Allsky = Unit {0}
HasTileOrder (Tile cell) = cell.order ≤ 11

-- the path of a file that a survey can have
abbrev pub IsPath : Path → Type 0
IsPath Properties = Unit {0}
IsPath Moc = Unit {0}
IsPath Allsky = Unit {0}
IsPath (Tile cell) = IsTile cell.order cell.npix

-- how a path is spelled
abbrev pub spelling : Path → List ℕ
spelling Properties = codes "properties"
spelling Moc = codes "Moc.fits"
spelling Allsky = codes "Norder3/Allsky.fits"
spelling (Tile cell) = tile_spelling cell.order cell.npix (codes ".fits")
