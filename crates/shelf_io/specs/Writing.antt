-- A shelf's files after paths were removed, or written as a survey has them.
use Rattle.std.specs.Prelude.{ℕ, List, [], ◌∷◌, Option, unwrap_or}
use Rattle.std.specs.FinMap.{get}
use Rattle.survey_link.specs.Shelf.{ShelfFiles, with_file, without_file}
use Rattle.tile_path.specs.Spelling.{spelling}
use Rattle.tile_path.specs.declared.path.Path.{Path}

-- without these paths
abbrev pub without_paths : List Path → Option ShelfFiles → Option ShelfFiles
without_paths [] files = files
without_paths (path ∷ paths) files = without_paths paths (without_file (spelling path) files)

-- with the survey's file at a path
abbrev pub with_path : ShelfFiles → Path → Option ShelfFiles → Option ShelfFiles
with_path survey path files = with_file (spelling path) (unwrap_or (get survey (spelling path)) []) files

-- with the survey's files at these paths, of which the last was written first
abbrev pub with_paths : ShelfFiles → List Path → Option ShelfFiles → Option ShelfFiles
with_paths survey [] files = files
with_paths survey (path ∷ paths) files = with_path survey path (with_paths survey paths files)
