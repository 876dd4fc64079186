-- Which files a state answers with: those of the leaves that are published, computed from the description and these leaves
-- alone.
use Rattle.std.specs.Prelude.{ℕ, List, Option}
use Rattle.std.specs.FinMap.{get}
use Rattle.survey_conf.specs.Description.{Description}
use Rattle.edit_journal.specs.Leaves.{LeafTiles}
use Rattle.survey_link.specs.Shelf.{ShelfFiles}
use Rattle.generation.specs.Files.{leaf_map, files}
use Rattle.survey_core.specs.History.{SurveyState, leaves_at}

-- the files of a state, by the spellings of their paths
abbrev pub files_at : Description → LeafTiles → SurveyState → ShelfFiles
files_at conf opening state = files conf (leaf_map (leaves_at opening state))

-- the bytes of the file with this spelling, where there is one
abbrev pub file_at : Description → LeafTiles → SurveyState → List ℕ → Option (List ℕ)
file_at conf opening state spelling = get (files_at conf opening state) spelling
