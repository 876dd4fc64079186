-- What a list of a shelf's paths says.
use Rattle.std.specs.Prelude.{◌≡◌, ℕ, ◌==◌, if◌then◌else◌, true, Bool, List, map, filter, All, Option, Some, None}
use Rattle.std.specs.List.{list_any, range_with_len}
use Rattle.std.specs.Ordering.{nat_cmp, eq_by_cmp}
use Rattle.std.specs.Cmp.Lexicographic.{slice_cmp}
use Rattle.std.specs.FinMap.{get}
use Rattle.healpix_nested.specs.Cells.{cell_count}
use Rattle.survey_link.specs.Shelf.{ShelfFiles}
use Rattle.tile_path.specs.Spelling.{IsPath, spelling}
use Rattle.tile_path.specs.declared.path.Path.{Path}
use Rattle.tile_path.specs.declared.path.Path.TheVariants.{Properties, Moc, Allsky, Tile}
use Rattle.shelf_io.specs.Opening.{leaf_path}

-- the text is in the list
abbrev pub is_among : List (List ℕ) → List ℕ → Bool
is_among texts text = list_any (eq_by_cmp (slice_cmp nat_cmp) text) texts

-- the number of the leaf that a path is of
abbrev pub leaf_of : ℕ → Path → Option ℕ
leaf_of top Properties = None
leaf_of top Moc = None
leaf_of top Allsky = None
leaf_of top (Tile cell) = if cell.order == top then Some cell.npix else None

-- the leaves whose paths are in the list, by ascending number
unfoldable pub leaves_among : List (List ℕ) → ℕ → List ℕ
leaves_among texts top = filter (λ leaf. is_among texts (leaf_path top leaf)) (range_with_len 0 (cell_count top))

-- these are the paths in the list that a survey can have and this one doesn't have
pub record AreStrays (survey : ShelfFiles) (texts : List (List ℕ)) (strays : List Path) : Type 0 where
  pub paths : All IsPath strays
  pub lacking : All (λ path. get survey (spelling path) ≡ None) strays
  pub listed : All (λ path. is_among texts (spelling path) ≡ true) strays
  pub every : (path : Path) → IsPath path → is_among texts (spelling path) ≡ true → get survey (spelling path) ≡ None
      → is_among (map spelling strays) (spelling path) ≡ true
