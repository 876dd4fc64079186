-- What a shelf of files opens as: the description of a survey with its leaf tiles, or the first refusal that the files show.
-- The paths of tiles are those of HiPS 1.0 (section 4); where the description is, the limit on leaves and the order of the
-- refusals are this project's profile.
use Rattle.std.specs.Prelude.{◌≡◌, ℕ, ◌+◌, ◌*◌, nat_lt, if◌then◌else◌, List, length, filter, ℤ, Option, Some, None, option_map, option_and_then, Result, Ok, Err, codes, slice_get}
use Rattle.std.specs.List.{filter_map, range_with_len}
use Rattle.std.specs.Option.{option_map_or, option_or}
use Rattle.std.specs.Result.{result_ok, result_err}
use Rattle.std.specs.FinMap.{get, contains_key}
use Rattle.healpix_nested.specs.Cells.{NestedCell, cell_count}
use Rattle.survey_link.specs.Shelf.{ShelfFiles}
use Rattle.tile_path.specs.Spelling.{spelling}
use Rattle.tile_path.specs.declared.path.Path.TheVariants.{Tile as TilePath}
use Rattle.survey_conf.specs.Description.{Description, description_of}
use Rattle.survey_conf.specs.Faults.{fault_of}
use Rattle.pyramid_model.specs.Shape.{PyramidShape}
use Rattle.tile_pixels.specs.Tile.{PixelTile}
use Rattle.fits_tile.specs.Reading.{reads}
use Rattle.fits_tile.specs.declared.fault.TileFault.{TileFault}
use Rattle.edit_journal.specs.Leaves.{LeafTiles, leaf_charge}
use Rattle.edit_journal.specs.Faults.{most_charge}
use Rattle.generation.specs.Files.{leaf_map}
use Rattle.generation.specs.Steps.{tiles_above}
use Rattle.shelf_io.specs.declared.refusal.LoadRefusal.{LoadRefusal}
use Rattle.shelf_io.specs.declared.refusal.LoadRefusal.TheVariants.{NoConf, Conf, Tile, TooMany, ShelfFault, OutOfMemory}

-- ---- the description

abbrev pub conf_path : List ℕ
conf_path = codes "survey.conf"

-- what a text describes, or its first fault
abbrev pub conf_of_text : List ℕ → Result Description LoadRefusal
conf_of_text text = option_map_or (λ fault. Err (Conf fault)) (fault_of text) (Ok (description_of text))

-- what the shelf's description says
unfoldable pub conf_on : ShelfFiles → Result Description LoadRefusal
conf_on files = option_map_or conf_of_text (get files conf_path) (Err NoConf)

-- ---- the leaves

abbrev pub leaf_cell : ℕ → ℕ → NestedCell
leaf_cell top leaf = record { order = top; npix = leaf }

-- the path of a leaf: of a tile of the order of the leaves
unfoldable pub leaf_path : ℕ → ℕ → List ℕ
leaf_path top leaf = spelling (TilePath (leaf_cell top leaf))

-- the leaves that the shelf has a file of, by ascending number
unfoldable pub leaves_on : ShelfFiles → ℕ → List ℕ
leaves_on files top = filter (λ leaf. contains_key files (leaf_path top leaf)) (range_with_len 0 (cell_count top))

-- what is charged for so many leaves
abbrev pub charge_for : PyramidShape → ℕ → ℕ
charge_for shape count = count * leaf_charge shape

-- what the file of a leaf reads as, where there is one
abbrev pub leaf_reads : ShelfFiles → Description → ℕ → Option (Result (List ℤ) TileFault)
leaf_reads files d leaf = option_map (reads d) (get files (leaf_path d.shape.top leaf))

-- the leaf with the tile of these numbers
abbrev pub leaf_with : Description → ℕ → List ℤ → ℕ × PixelTile
leaf_with d leaf numbers = (leaf, record { depth = d.shape.depth; n = d.shape.n; numbers = numbers })

-- the tile of a leaf whose file is read
abbrev pub leaf_tile : ShelfFiles → Description → ℕ → Option (ℕ × PixelTile)
leaf_tile files d leaf = option_map (leaf_with d leaf) (option_and_then result_ok (leaf_reads files d leaf))

-- the refusal of a leaf whose file is refused
abbrev pub leaf_refusal : ShelfFiles → Description → ℕ → Option LoadRefusal
leaf_refusal files d leaf = option_map (Tile (leaf_cell d.shape.top leaf)) (option_and_then result_err (leaf_reads files d leaf))

-- ---- the survey

-- there are too many leaves
abbrev pub count_refusal : PyramidShape → ℕ → Option LoadRefusal
count_refusal shape count = if nat_lt most_charge (charge_for shape count) then Some (TooMany count) else None

-- that comes first, and then the leaf of the least number whose file is refused
unfoldable pub leaves_refusal : ShelfFiles → Description → Option LoadRefusal
leaves_refusal files d =
    option_or (count_refusal d.shape (length (leaves_on files d.shape.top)))
    (slice_get (filter_map (leaf_refusal files d) (leaves_on files d.shape.top)) 0)

-- what a shelf was opened as
pub record OpenedSurvey : Type 0 where
  pub conf : Description
  pub leaves : LeafTiles

unfoldable pub survey_on : ShelfFiles → Description → OpenedSurvey
survey_on files d = record { conf = d; leaves = filter_map (leaf_tile files d) (leaves_on files d.shape.top) }

abbrev pub opening_with : ShelfFiles → Result Description LoadRefusal → Result OpenedSurvey LoadRefusal
opening_with files (Err refusal) = Err refusal
opening_with files (Ok d) = option_map_or (λ refusal. Err refusal) (leaves_refusal files d) (Ok (survey_on files d))

abbrev pub opening : ShelfFiles → Result OpenedSurvey LoadRefusal
opening files = opening_with files (conf_on files)

-- how many leaves have a file, and how many tiles there are above those that are read
abbrev pub leaf_count_with : ShelfFiles → Result Description LoadRefusal → ℕ
leaf_count_with files (Err refusal) = 0
leaf_count_with files (Ok d) = length (leaves_on files d.shape.top)

abbrev pub leaf_count : ShelfFiles → ℕ
leaf_count files = leaf_count_with files (conf_on files)

abbrev pub tiles_above_with : Result OpenedSurvey LoadRefusal → ℕ
tiles_above_with (Err refusal) = 0
tiles_above_with (Ok survey) = tiles_above survey.conf.shape (leaf_map survey.leaves)

-- how many steps loading takes at most: one for each leaf that has a file, and one for each tile above them
abbrev pub opening_steps : ShelfFiles → ℕ
opening_steps files = leaf_count files + tiles_above_with (opening files)

-- a refusal is the one that the files show; or the shelf failed, or there was no memory, which no files show
abbrev pub IsRefusedBy : Option LoadRefusal → LoadRefusal → Type 0
IsRefusedBy shown NoConf = shown ≡ Some NoConf
IsRefusedBy shown (Conf fault) = shown ≡ Some (Conf fault)
IsRefusedBy shown (Tile cell fault) = shown ≡ Some (Tile cell fault)
IsRefusedBy shown (TooMany leaves) = shown ≡ Some (TooMany leaves)
IsRefusedBy shown ShelfFault = Unit {0}
IsRefusedBy shown OutOfMemory = Unit {0}
