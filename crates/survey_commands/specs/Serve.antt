-- What `serve` does: it opens the shelf, and serves the connections of many doors at once, over boards of that survey.
use Rattle.std.specs.Prelude.{◌≡◌, ℕ, ◌≤◌, List, [], Option, Result, Ok, Err, ◌∷◌}
use Rattle.survey_link.specs.Shelf.{ShelfFiles}
use Rattle.command_output.specs.Output.{SinkBytes}
use Rattle.shelf_io.specs.Opening.{OpenedSurvey}
use Rattle.shelf_io.specs.declared.refusal.LoadRefusal.{LoadRefusal}
use Rattle.survey_core.specs.State.{StateContent}
use Rattle.hips_place.specs.declared.place.PlaceEnd.{PlaceEnd}
use Rattle.hips_place.specs.declared.place.PlaceEnd.TheVariants.{Done, Failed, OutOfMemory}
use Rattle.hips_place.specs.declared.doors.ServeRefusal.{ServeRefusal}
use Rattle.hips_place.specs.Place.{DoorContent, ServesAs}
use Rattle.survey_commands.specs.Survey.{SaysWhy}
use Rattle.survey_commands.specs.Session.{OpensAs, OpensNot}

-- ---- what is asked

-- connections of many doors: 1 to 65,536 of each, 1 to 64 doors
pub record IsServe (connections places : ℕ) : Type 0 where
  pub least_connections : 1 ≤ connections
  pub most_connections : connections ≤ 65536
  pub least_places : 1 ≤ places
  pub most_places : places ≤ 64

-- ---- the survey

-- the first state of a survey
abbrev pub state_of : OpenedSurvey → StateContent
state_of survey = record { conf = survey.conf; opening = survey.leaves; batches = []; tip = 0 }

-- ---- the status

abbrev pub place_status : PlaceEnd → ℕ
place_status Done = 0
place_status Failed = 8
place_status OutOfMemory = 11

-- that of places that ended so; 11 where the survey wasn't opened, or its boards couldn't meet
abbrev pub serve_status : Result PlaceEnd ServeRefusal → ℕ
serve_status (Ok end) = place_status end
serve_status (Err refusal) = 11

-- how it can end
abbrev pub serve_statuses : List ℕ
serve_statuses = 0 ∷ 2 ∷ 3 ∷ 6 ∷ 7 ∷ 8 ∷ 11 ∷ []

-- ---- the run

-- the doors of the survey were served, up to so many connections of each, and the status is that of it
abbrev pub Serves : OpenedSurvey → ℕ → List DoorContent → List DoorContent → ℕ → Type 0
Serves survey most doors doors' status = (served : Result PlaceEnd ServeRefusal) × ServesAs survey.conf survey.leaves most doors doors' served × (status ≡ serve_status served)

-- `serve`, over the files and these doors: the survey that the files open as is served, and nothing is written; or they open
-- as none, which is written, and the doors stay
abbrev pub ServeOf : Option ShelfFiles → ℕ → List DoorContent → List DoorContent → ℕ → SinkBytes → SinkBytes
    → Result OpenedSurvey LoadRefusal → Type 0
ServeOf found most doors doors' status sink sink' (Ok survey) =
    OpensAs found survey × Serves survey most doors doors' status × (sink' ≡ sink)
ServeOf found most doors doors' status sink sink' (Err refusal) =
    OpensNot found refusal × (doors' ≡ doors) × SaysWhy refusal status sink sink'

abbrev pub RunsServe : Option ShelfFiles → ℕ → List DoorContent → List DoorContent → ℕ → SinkBytes → SinkBytes → Type 0
RunsServe found most doors doors' status sink sink' =
    (opened : Result OpenedSurvey LoadRefusal) × ServeOf found most doors doors' status sink sink' opened
