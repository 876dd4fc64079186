-- What `past` does: it opens the shelf, and answers records about past states of its survey, over the source and the sink.
use Rattle.std.specs.Prelude.{◌≡◌, ◌≢◌, ℕ, ◌+◌, ◌≤◌, List, [], length, Option, Some, Result, Ok, Err, IfSome, ◌∷◌}
use Rattle.std.specs.Io.KnownBytes.{Consumes}
use Rattle.survey_link.specs.Door.{Connection}
use Rattle.survey_link.specs.Shelf.{ShelfFiles}
use Rattle.generation.specs.Files.{leaf_map}
use Rattle.generation.specs.Steps.{tiles_above}
use Rattle.shelf_io.specs.Opening.{OpenedSurvey, opening_steps}
use Rattle.shelf_io.specs.declared.refusal.LoadRefusal.{LoadRefusal}
use Rattle.past_session.specs.Run.{FlushesAll, PastRun}
use Rattle.past_session.specs.declared.ending.PastEnd.{PastEnd}
use Rattle.past_session.specs.declared.ending.PastEnd.TheVariants.{Done, Cut, BadLine, Spent, ReadFault, WriteFault, OutOfMemory}
use Rattle.survey_commands.specs.Survey.{SaysWhy, sink_of}
use Rattle.survey_commands.specs.Session.{OpensAs, OpensNot}

-- ---- what is asked

-- how many states may be held
pub record IsPast (cache : ℕ) : Type 0 where
  pub least : 1 ≤ cache
  pub most : cache ≤ 8

-- ---- the status

abbrev pub past_status : PastEnd → ℕ
past_status Done = 0
past_status Cut = 4
past_status ReadFault = 5
past_status WriteFault = 6
past_status OutOfMemory = 11
past_status Spent = 12
past_status (BadLine at) = 17

-- how records can end, and how the command can
abbrev pub ended_statuses : List ℕ
ended_statuses = 0 ∷ 4 ∷ 5 ∷ 6 ∷ 11 ∷ 12 ∷ 17 ∷ []

abbrev pub past_statuses : List ℕ
past_statuses = 2 ∷ 3 ∷ 7 ∷ ended_statuses

-- ---- the run

-- unless a writing failed, all that the sink holds was flushed, or nothing was written
abbrev pub FlushesPast : ℕ → Connection → Connection → Type 0
FlushesPast status old new = status ≢ 6 → FlushesAll (sink_of old) (sink_of new)

-- the records of the survey were answered, whose source had this input; the count of steps before and after
pub record AnswersPast (survey : OpenedSurvey) (input : List ℕ) (old new : Connection) (steps steps' status : ℕ) : Type 0 where
  pub end : PastEnd
  pub run : PastRun survey.conf survey.leaves input new.unread (sink_of old) (sink_of new) steps steps' end
  pub status_is : status ≡ past_status end

-- how many steps opening it takes at most: one for each leaf, and one for each tile above them
abbrev pub opened_cost : OpenedSurvey → ℕ
opened_cost survey = length survey.leaves + tiles_above survey.conf.shape (leaf_map survey.leaves)

-- the files open as this survey, and then its records were answered
pub record OpensAndAnswers (found : Option ShelfFiles) (survey : OpenedSurvey) (input : List ℕ) (old new : Connection) (steps steps' status : ℕ) : Type 0 where
  pub opens : OpensAs found survey
  pub steps_then : ℕ
  pub cost : steps_then ≤ steps + opened_cost survey
  pub answers : AnswersPast survey input old new steps_then steps' status

-- they open as none, which is written
pub record OpensAndSays (found : Option ShelfFiles) (refusal : LoadRefusal) (old new : Connection) (steps steps' status : ℕ) : Type 0 where
  pub opens_not : OpensNot found refusal
  pub unread : new.unread ≡ old.unread
  pub says : SaysWhy refusal status (sink_of old) (sink_of new)
  pub cost : IfSome found (λ files. steps' ≤ steps + opening_steps files)

-- `past`, over the files and an input, by what the files open as
abbrev pub PastOf : Option ShelfFiles → List ℕ → Connection → Connection → ℕ → ℕ → ℕ → Result OpenedSurvey LoadRefusal → Type 0
PastOf found input old new steps steps' status (Ok survey) = OpensAndAnswers found survey input old new steps steps' status
PastOf found input old new steps steps' status (Err refusal) = OpensAndSays found refusal old new steps steps' status

abbrev pub RunsPast : Option ShelfFiles → List ℕ → Connection → Connection → ℕ → ℕ → ℕ → Type 0
RunsPast found input old new steps steps' status = (opened : Result OpenedSurvey LoadRefusal) × PastOf found input old new steps steps' status opened

-- the same connection, where the proof sees these bytes in the source
abbrev pub with_input : List ℕ → Connection → Connection
with_input bytes connection = record connection { unread = Some bytes }

-- whatever the proof sees of the source, it is so of the bytes that were read, as though the input ended behind them
pub record RunsPastOver (found : Option ShelfFiles) (old new : Connection) (steps steps' status : ℕ) : Type 0 where
  pub came : List ℕ
  pub consumed : Consumes old.unread new.unread came
  pub run : RunsPast found came (with_input came old) (with_input [] new) steps steps' status
