-- What `make` does: the script of a made survey is served as one connection, by a board that nobody else has, and the state
-- that it leads to is summed up.
use Rattle.std.specs.Prelude.{◌≡◌, ◌⊎◌, ℕ, ◌^◌, ◌<◌, ◌≤◌, List, [], ◌++◌, length, sum, sum_by, unwrap_or, codes, decimal, ◌∷◌}
use Rattle.std.specs.FinMap.{len, get}
use Rattle.survey_conf.specs.Description.{Description}
use Rattle.tile_path.specs.Spelling.{spelling}
use Rattle.tile_path.specs.declared.path.Path.{Path}
use Rattle.edit_journal.specs.Leaves.{LeafTiles, leaves_of}
use Rattle.generation.specs.Files.{paths_in, files_in}
use Rattle.generation.specs.Generation.{GenerationContent}
use Rattle.survey_core.specs.History.{SurveyState, edits_at, leaves_at}
use Rattle.survey_make.specs.Conf.{made}
use Rattle.survey_make.specs.Script.{made_script}
use Rattle.reader_pin.specs.Board.{last_of}
use Rattle.hips_http.specs.declared.served.SessionEnd.TheVariants.{Closed}
use Rattle.hips_http.specs.SessionRun.{Exchange, input_of}
use Rattle.command_output.specs.Output.{SinkBytes, Says, line_of}
use Rattle.shelf_io.specs.Opening.{OpenedSurvey}
use Rattle.survey_commands.specs.declared.summary.Summary.{Summary}
use Rattle.survey_commands.specs.Session.{RunsAlone}

-- ---- what is asked

-- a made survey: any number, 1 to 4,096 edits
pub record IsMake (number edits : ℕ) : Type 0 where
  pub small : number < 2 ^ 64
  pub least_edits : 1 ≤ edits
  pub most_edits : edits ≤ 4096

-- ---- the sum of a survey's files

-- the bytes of the file at a path, added up, each as a number from 0 to 255
abbrev pub file_sum : GenerationContent → Path → ℕ
file_sum generation path = sum (unwrap_or (get (files_in generation) (spelling path)) [])

-- those of all files
abbrev pub files_sum : GenerationContent → ℕ
files_sum generation = sum_by (file_sum generation) (paths_in generation)

-- ---- the summary

-- what is published in a state
abbrev pub published_in : Description → LeafTiles → SurveyState → GenerationContent
published_in conf opening state = record { conf = conf; prefix = state.tip; leaves = leaves_at opening state }

-- a state summed up, where so many edits were asked for: how many were accepted, how many leaves there are after them, and of
-- what is published how many files, how many edits, and the sum of all bytes
abbrev pub summary_of : Description → LeafTiles → ℕ → SurveyState → Summary
summary_of conf opening asked state = record {
  edits = length (edits_at state);
  asked = asked;
  leaves = length (leaves_of opening (edits_at state));
  files = len (files_in (published_in conf opening state));
  prefix = state.tip;
  sum = files_sum (published_in conf opening state);
}

abbrev pub summary_text : Summary → List ℕ
summary_text s = codes "edits " ++ (decimal s.edits ++ (codes " of " ++ (decimal s.asked ++ (codes " leaves " ++ (decimal s.leaves
    ++ (codes " files " ++ (decimal s.files ++ (codes " prefix " ++ (decimal s.prefix ++ (codes " sum " ++ decimal s.sum))))))))))

-- ---- the run

-- the made survey, without leaves
abbrev pub made_survey : OpenedSurvey
made_survey = record { conf = made; leaves = [] }

-- its script was served: the connection was closed at the end of the script, and no reply was 503
pub record RunsScript (survey : OpenedSurvey) (script : List ℕ) (states : List SurveyState) : Type 0 where
  pub exchange : Exchange
  pub input_is : input_of exchange ≡ script
  pub run : RunsAlone survey exchange states Closed 0

-- that is the summary of the last state that the script leads to
pub record IsMade (number edits : ℕ) (summary : Summary) : Type 0 where
  pub states : List SurveyState
  pub runs : RunsScript made_survey (made_script number edits) states
  pub is : summary ≡ summary_of made [] edits (last_of states)

-- how it can end
abbrev pub make_statuses : List ℕ
make_statuses = 0 ∷ 6 ∷ 11 ∷ []

-- `make`: the summary is written; or there was no memory, and nothing is
abbrev pub RunsMake : ℕ → ℕ → ℕ → SinkBytes → SinkBytes → Type 0
RunsMake number edits status sink sink' =
    ((summary : Summary) × IsMade number edits summary × Says 0 (line_of (summary_text summary)) status sink sink')
    ⊎ ((status ≡ 11) × (sink' ≡ sink))
