-- The files of a survey (HiPS 1.0, section 4): which paths there are, and what is at each, by the description and the leaves
-- alone.
use Rattle.std.specs.Prelude.{ℕ, ◌+◌, ◌-◌, List, [], ◌∷◌, ◌++◌, map, filter, length}
use Rattle.std.specs.List.{flat_map, range_with_len}
use Rattle.std.specs.Map.{keys_of}
use Rattle.std.specs.FinMap.{from_entries}
use Rattle.healpix_nested.specs.Cells.{cell_count}
use Rattle.pyramid_model.specs.Shape.{PyramidShape, LeafMap}
use Rattle.pyramid_model.specs.Tile.{exists, pixels}
use Rattle.survey_conf.specs.Description.{Description}
use Rattle.survey_conf.specs.Properties.{properties_text}
use Rattle.tile_path.specs.declared.path.Path.{Path}
use Rattle.tile_path.specs.declared.path.Path.TheVariants.{Properties, Moc, Allsky, Tile}
use Rattle.tile_path.specs.Spelling.{spelling}
use Rattle.fits_tile.specs.TileFile.{tile_file, image_file}
use Rattle.coverage_moc.specs.Cover.{cover}
use Rattle.coverage_moc.specs.CoverFile.{moc_file}
use Rattle.allsky_mosaic.specs.Mosaic.{mosaic, width_of, height_of}
use Rattle.edit_journal.specs.Leaves.{LeafTiles}
use Rattle.survey_link.specs.Shelf.{ShelfFiles}
use Rattle.generation.specs.Generation.{GenerationContent}

-- the stored numbers of each leaf tile
abbrev pub leaf_map : LeafTiles → LeafMap
leaf_map leaves = map (λ leaf. (leaf.0, leaf.1.numbers)) leaves

-- the cells of an order whose tiles exist, ascending
abbrev pub existing : PyramidShape → LeafMap → ℕ → List ℕ
existing shape leaves order = filter (exists shape leaves order) (range_with_len 0 (cell_count order))

-- the paths of their tiles
abbrev pub tile_paths : PyramidShape → LeafMap → ℕ → List Path
tile_paths shape leaves order = map (λ npix. Tile (record { order = order; npix = npix })) (existing shape leaves order)

-- the mosaic is there if there is a leaf
abbrev pub mosaic_paths : LeafMap → List Path
mosaic_paths [] = []
mosaic_paths (_ ∷ _) = Allsky ∷ []

-- all paths: the properties, the coverage, the mosaic, and the tiles from the lowest order to that of the leaves
unfoldable pub paths : PyramidShape → LeafMap → List Path
paths shape leaves =
    Properties ∷ Moc ∷ (mosaic_paths leaves ++ flat_map (tile_paths shape leaves) (range_with_len shape.low (shape.top + 1 - shape.low)))

-- what is at a path
unfoldable pub file_of : Description → LeafMap → Path → List ℕ
file_of d leaves Properties = properties_text d (length leaves)
file_of d leaves Moc = moc_file d.shape.top (cover d.shape.top (keys_of leaves))
file_of d leaves Allsky = image_file d (width_of d.shape.n) (height_of d.shape.n) (mosaic d.shape leaves)
file_of d leaves (Tile cell) = tile_file d cell.order cell.npix (pixels d.shape leaves cell.order cell.npix)

-- the files, by the spellings of their paths
unfoldable pub files : Description → LeafMap → ShelfFiles
files d leaves = from_entries (map (λ path. (spelling path, file_of d leaves path)) (paths d.shape leaves))

-- the paths and the files of a generation
abbrev pub paths_in : GenerationContent → List Path
paths_in generation = paths generation.conf.shape (leaf_map generation.leaves)

abbrev pub files_in : GenerationContent → ShelfFiles
files_in generation = files generation.conf (leaf_map generation.leaves)
