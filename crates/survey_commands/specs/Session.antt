-- What `session` does: it opens the shelf, and serves one connection, over the source and the sink, by a board of that survey
-- that nobody else has.
use Rattle.std.specs.Prelude.{◌≡◌, ◌≢◌, ◌⊎◌, ℕ, ◌-◌, List, [], ◌∷◌, length, Option, Some, None, Result, Ok, Err, IfSome}
use Rattle.std.specs.List.{range_with_len}
use Rattle.std.specs.Result.{result_err}
use Rattle.std.specs.Io.KnownBytes.{Appends}
use Rattle.survey_link.specs.Door.{Connection}
use Rattle.survey_link.specs.Shelf.{ShelfFiles}
use Rattle.shelf_io.specs.Opening.{OpenedSurvey, opening, IsRefusedBy}
use Rattle.shelf_io.specs.declared.refusal.LoadRefusal.{LoadRefusal}
use Rattle.survey_core.specs.History.{SurveyState, opening_state}
use Rattle.reader_pin.specs.Board.{BoardContent}
use Rattle.reader_pin.specs.Solo.{only_seat}
use Rattle.hips_http.specs.declared.served.SessionEnd.{SessionEnd}
use Rattle.hips_http.specs.declared.served.SessionEnd.TheVariants.{Closed, Asked, Refused, Cut, Spent, ReadFault, WriteFault, OutOfMemory}
use Rattle.hips_http.specs.SessionRun.{Exchange, SessionRun, input_of}
use Rattle.survey_commands.specs.Survey.{SaysWhy, sink_of}

-- ---- the connection

-- the board of a survey with no edit
abbrev pub board_of : OpenedSurvey → BoardContent
board_of survey = record { conf = survey.conf; opening = survey.leaves; history = opening_state ∷ []; owners = []; seat = only_seat; own = []; held = None }

-- a connection from the first state of the survey on, of which these are all states: each step from one to the next is an
-- event of its own. So it is answered at the newest state each time
abbrev pub RunsAlone : OpenedSurvey → Exchange → List SurveyState → SessionEnd → ℕ → Type 0
RunsAlone survey exchange states end memory_faults =
    SessionRun survey.conf survey.leaves (opening_state ∷ []) exchange (range_with_len 1 (length states - 1)) states end memory_faults

-- ---- the status

abbrev pub end_status : SessionEnd → ℕ
end_status Closed = 0
end_status Asked = 0
end_status Cut = 4
end_status ReadFault = 5
end_status WriteFault = 6
end_status OutOfMemory = 11
end_status Spent = 12
end_status (Refused code) = 14

-- how one can end that is served, and how the command can
abbrev pub served_statuses : List ℕ
served_statuses = 0 ∷ 4 ∷ 5 ∷ 6 ∷ 11 ∷ 12 ∷ 14 ∷ []

abbrev pub session_statuses : List ℕ
session_statuses = 2 ∷ 3 ∷ 7 ∷ served_statuses

-- ---- the run

-- a connection as the proof sees it, whose source had this input, after all that the sink held back was flushed
pub record IsExchange (input : List ℕ) (old new : Connection) (exchange : Exchange) : Type 0 where
  pub input_is : input ≡ input_of exchange
  pub left : new.unread ≡ Some exchange.left
  pub written : Appends old.written new.written exchange.written
  pub flushed : Appends old.written new.flushed exchange.flushed
  pub source_faults : exchange.source_faults ≡ old.source_faults
  pub source_faults_then : exchange.source_faults_then ≡ new.source_faults
  pub sink_faults : exchange.sink_faults ≡ old.sink_faults
  pub sink_faults_then : exchange.sink_faults_then ≡ new.sink_faults

-- one connection of the survey was served, whose source had this input, and unless a writing failed all that the sink holds was
-- flushed
pub record Serves (survey : OpenedSurvey) (input : List ℕ) (old new : Connection) (status : ℕ) : Type 0 where
  pub exchange : Exchange
  pub exchanged : IsExchange input old new exchange
  pub states : List SurveyState
  pub end : SessionEnd
  pub memory_faults : ℕ
  pub run : RunsAlone survey exchange states end memory_faults
  pub status_is : status ≡ end_status end
  pub all_flushed : end ≢ WriteFault → new.flushed ≡ new.written

-- or none was, since the sink failed at what it held back
abbrev pub FailsToFlush : ℕ → Connection → Connection → Type 0
FailsToFlush status old new = (status ≡ 6) × (new.unread ≡ old.unread) × (new.written ≡ old.written) × (new.flushed ≡ old.flushed)

-- the files open as this survey, or as none by this refusal, where the proof can see them
abbrev pub OpensAs : Option ShelfFiles → OpenedSurvey → Type 0
OpensAs found survey = IfSome found (λ files. opening files ≡ Ok survey)

abbrev pub OpensNot : Option ShelfFiles → LoadRefusal → Type 0
OpensNot found refusal = IfSome found (λ files. IsRefusedBy (result_err (opening files)) refusal)

-- `session`, over the files and an input: the survey that the files open as is served; or they open as none, which is written
abbrev pub SessionOf : Option ShelfFiles → List ℕ → Connection → Connection → ℕ → Result OpenedSurvey LoadRefusal → Type 0
SessionOf found input old new status (Ok survey) =
    OpensAs found survey × (Serves survey input old new status ⊎ FailsToFlush status old new)
SessionOf found input old new status (Err refusal) = OpensNot found refusal × (new.unread ≡ old.unread)
    × SaysWhy refusal status (sink_of old) (sink_of new)

abbrev pub RunsSession : Option ShelfFiles → List ℕ → Connection → Connection → ℕ → Type 0
RunsSession found input old new status = (opened : Result OpenedSurvey LoadRefusal) × SessionOf found input old new status opened
