-- The first path, by the bytes of its spelling, at which a shelf doesn't have what a survey has, path by path.
use Rattle.std.specs.Prelude.{ℕ, List, Bool, not, if◌then◌else◌, Option, Some, None, fold}
use Rattle.std.specs.Option.{option_eq}
use Rattle.std.specs.Str.{bytes_eq}
use Rattle.std.specs.Ordering.{nat_cmp, is_lt}
use Rattle.std.specs.Cmp.Lexicographic.{slice_cmp}
use Rattle.std.specs.FinMap.{get}
use Rattle.survey_link.specs.Shelf.{ShelfFiles}
use Rattle.tile_path.specs.Spelling.{spelling}
use Rattle.tile_path.specs.declared.path.Path.{Path}

-- whether the shelf has at the path what the survey has
abbrev pub agrees_at : ShelfFiles → ShelfFiles → Path → Bool
agrees_at survey files path = option_eq bytes_eq (get files (spelling path)) (get survey (spelling path))

-- whichever of two paths comes first
abbrev pub earlier_of : Path → Path → Path
earlier_of first path = if is_lt (slice_cmp nat_cmp (spelling path) (spelling first)) then path else first

abbrev pub earlier : Option Path → Path → Path
earlier None path = path
earlier (Some first) path = earlier_of first path

-- the first path of a list
abbrev pub first_path : List Path → Option Path
first_path paths = fold (λ first path. Some (earlier first path)) None paths

-- the first path at which the two differ, after one path more
abbrev pub first_after : ShelfFiles → ShelfFiles → Option Path → Path → Option Path
first_after survey files first path = if agrees_at survey files path then first else Some (earlier first path)
