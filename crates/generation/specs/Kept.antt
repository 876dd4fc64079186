-- What a generation keeps: the tiles of each order, as the definition of the pyramid makes them of the leaves.
use Rattle.std.specs.Prelude.{◌≡◌, ◌≢◌, ℕ, ◌-◌, ◌*◌, ◌/◌, ◌<◌, ◌≤◌, false, true, List, [], map, take, drop, length, slice_index_or, Option, Some, None, Contains}
use Rattle.pyramid_model.specs.Shape.{PyramidShape, LeafMap, FitsShape, IsShape}
use Rattle.pyramid_model.specs.Tile.{exists}
use Rattle.tile_pixels.specs.Tile.{tile_of, PixelTile}
use Rattle.leaf_store.specs.Store.{value_at}
use Rattle.std.specs.Map.{keys_of}
use Rattle.survey_conf.specs.Description.{Description, IsDescription}
use Rattle.survey_conf.specs.Properties.{properties_text}
use Rattle.coverage_moc.specs.Cover.{MocCover, cover}
use Rattle.fits_header.specs.Cards.{whole_blocks}
use Rattle.fits_tile.specs.TileFile.{image_file}
use Rattle.allsky_mosaic.specs.Mosaic.{mosaic, mosaic_count, width_of, height_of}
use Rattle.allsky_mosaic.specs.Tiles.{IsMosaic, order_3}
use Rattle.dirty_plan.specs.Dirty.{is_dirty, orders_down}
use Rattle.edit_journal.specs.Leaves.{LeafTiles, FitsLeaves}
use Rattle.rebuild_worker.specs.Changed.{StoodOver}
use Rattle.generation.specs.Files.{leaf_map, existing}
use Rattle.generation.specs.Changes.{AreTiles}

-- the tiles of an order, by ascending number
unfoldable pub tiles_of : PyramidShape → LeafMap → ℕ → List (ℕ × PixelTile)
tiles_of shape leaves order = map (λ npix. (npix, tile_of shape leaves order npix)) (existing shape leaves order)

-- the survey has a tile of the cell
abbrev pub HasTile : PyramidShape → LeafMap → ℕ → ℕ → Type 0
HasTile shape leaves order npix = (shape.low ≤ order) × (order ≤ shape.top) × (exists shape leaves order npix ≡ true)

-- those of the orders from the one above the leaves down to the lowest
abbrev pub levels_of : PyramidShape → LeafMap → List (List (ℕ × PixelTile))
levels_of shape leaves = map (tiles_of shape leaves) (orders_down shape.top shape.low)

-- the shape of a survey, and its leaves
pub record PyramidContent : Type 0 where
  pub shape : PyramidShape
  pub leaves : LeafTiles

-- the leaves fit the shape, and so do their numbers; the tiles above them are those of their pyramid
pub record IsPyramid (shape : PyramidShape) (leaves : LeafTiles) (levels : List (List (ℕ × PixelTile))) : Type 0 where
  pub known : IsShape shape.top shape.low shape.n
  pub fits : FitsLeaves shape leaves
  pub numbers : FitsShape shape (leaf_map leaves)
  pub tiles : AreTiles leaves
  pub levels_are : levels ≡ levels_of shape (leaf_map leaves)

-- a leaf that isn't among the touched ones is the same in both maps
abbrev pub SameBut : List ℕ → LeafTiles → LeafTiles → Type 0
SameBut touched old new = (leaf : ℕ) → (Contains touched leaf → ⊥) → value_at leaf new ≡ value_at leaf old

-- before a level is made: tiles of cells under which no touched leaf lies are those of the order
abbrev pub AreKept : PyramidShape → LeafMap → List ℕ → ℕ → List (ℕ × PixelTile) → Type 0
AreKept shape leaves touched order before =
    (cell : ℕ) → is_dirty shape.top touched order cell ≡ false → value_at cell before ≡ value_at cell (tiles_of shape leaves order)

-- the same of all levels; one that isn't there has no tile
abbrev pub AllKept : PyramidShape → LeafMap → List ℕ → List (List (ℕ × PixelTile)) → Type 0
AllKept shape leaves touched levels =
    (i : ℕ) → i < shape.top - shape.low → AreKept shape leaves touched (shape.top - 1 - i) (slice_index_or levels i [])

-- each of the levels stood over the tiles of the next order, which differ from those of now over touched leaves alone
abbrev pub AllStood : PyramidShape → LeafMap → List ℕ → List (List (ℕ × PixelTile)) → Type 0
AllStood shape leaves touched levels =
    (i : ℕ) → i < shape.top - shape.low → StoodOver shape (tiles_of shape leaves (shape.top - i)) touched i (slice_index_or levels i [])

-- a cell of order 3 that isn't among the touched ones has the same tile in both pyramids
abbrev pub SameOrder3 : PyramidShape → List ℕ → LeafMap → LeafMap → Type 0
SameOrder3 shape touched old new = (cell : ℕ) → (Contains touched cell → ⊥) → value_at cell (tiles_of shape old 3) ≡ value_at cell (tiles_of shape new 3)

-- how many bytes the pixels of a mosaic are; in its file they come first in the blocks at the end
abbrev pub pixel_len : Description → ℕ
pixel_len d = mosaic_count d.shape.n * (d.shape.depth.bitpix / 8)

abbrev pub file_pixels : Description → List ℕ → List ℕ
file_pixels d file = take (pixel_len d) (drop (length file - whole_blocks (pixel_len d)) file)

-- bytes are the mosaic of leaves, and so that of their tiles of order 3
pub record ShowsBoth (d : Description) (leaves : LeafMap) (raw : List ℕ) : Type 0 where
  pub some : leaves ≢ []
  pub survey : IsMosaic d.shape.depth d.shape.n d.shape leaves raw
  pub order_3 : IsMosaic d.shape.depth d.shape.n (order_3 d.shape.depth d.shape.n) (leaf_map (tiles_of d.shape leaves 3)) raw

-- there are such bytes if and only if there is a leaf
abbrev pub ArePixels : Description → LeafMap → Option (List ℕ) → Type 0
ArePixels d leaves None = leaves ≡ []
ArePixels d leaves (Some raw) = ShowsBoth d leaves raw

-- the file of the mosaic of leaves
pub record IsMosaicFile (d : Description) (leaves : LeafMap) (file : List ℕ) : Type 0 where
  pub some : leaves ≢ []
  pub file_is : file ≡ image_file d (width_of d.shape.n) (height_of d.shape.n) (mosaic d.shape leaves)
  pub long : whole_blocks (pixel_len d) ≤ length file
  pub pixels : IsMosaic d.shape.depth d.shape.n (order_3 d.shape.depth d.shape.n) (leaf_map (tiles_of d.shape leaves 3)) (file_pixels d file)

-- the file of the mosaic of leaves whose tiles of order 3 are these, but for those of the touched cells
pub record WasMosaicFile (d : Description) (touched : List ℕ) (tiles : List (ℕ × PixelTile)) (file : List ℕ) : Type 0 where
  pub before : LeafMap
  pub file_is : IsMosaicFile d before file
  pub agrees : (cell : ℕ) → (Contains touched cell → ⊥) → value_at cell (tiles_of d.shape before 3) ≡ value_at cell tiles

-- there is one if and only if there is a leaf
abbrev pub KeepsMosaic : Description → LeafMap → Option (List ℕ) → Type 0
KeepsMosaic d leaves None = leaves ≡ []
KeepsMosaic d leaves (Some file) = IsMosaicFile d leaves file

-- what a generation keeps beside its leaves: the cover and its file, the mosaic's file and the text of the properties
pub record IsKeptGeneration (d : Description) (pyramid : PyramidContent) (coverage : MocCover) (mosaic : Option (List ℕ)) (properties : List ℕ) : Type 0 where
  pub description : IsDescription d
  pub shape : pyramid.shape ≡ d.shape
  pub fits : FitsLeaves d.shape pyramid.leaves
  pub numbers : FitsShape d.shape (leaf_map pyramid.leaves)
  pub coverage_is : coverage ≡ record { top = d.shape.top; rows = cover d.shape.top (keys_of pyramid.leaves) }
  pub mosaic_is : KeepsMosaic d (leaf_map pyramid.leaves) mosaic
  pub properties_are : properties ≡ properties_text d (length pyramid.leaves)
