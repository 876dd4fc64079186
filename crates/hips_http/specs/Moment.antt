-- A connection at one moment, in one value: what the proof sees of its source, its frame and its sink, its board, and its
-- counts.
use Rattle.std.specs.Prelude.{◌≡◌, ℕ, ◌+◌, ◌≤◌, List, Option}
use Rattle.survey_link.specs.Door.{Connection}
use Rattle.survey_link.specs.declared.source.Source as source
use Rattle.survey_link.specs.declared.sink.Sink as sink
use Rattle.http_frame.specs.Frame.{FrameState, unread}
use Rattle.http_frame.specs.Readings.{ReadsWhile}
use Rattle.reader_pin.specs.Board.{BoardContent}
use Rattle.hips_http.specs.declared.open_connection.OpenConnection.{OpenConnection}

-- what is still to read: the frame, the bytes left in the source, where the proof can see them, and how often the source has
-- failed
pub record Input : Type 0 where
  pub frame : FrameState
  pub left : Option (List ℕ)
  pub faults : ℕ

-- what was written: the bytes that the sink holds and those of them that it flushed, where the proof can see them, and how
-- often it has failed
pub record Output : Type 0 where
  pub held : Option (List ℕ)
  pub flushed : Option (List ℕ)
  pub faults : ℕ

-- a connection: its input and its output, the board's content, how many steps were taken, and how many requests have found no
-- memory
pub record Moment : Type 0 where
  pub input : Input
  pub output : Output
  pub board : BoardContent
  pub steps : ℕ
  pub memory_faults : ℕ

-- the unread bytes: those held, and those left in the source, where the proof can see them
abbrev pub unread_of : Input → Option (List ℕ)
unread_of input = unread input.frame input.left

-- the connection as the proof sees it
abbrev pub connection_at : Moment → Connection
connection_at at = record {
  unread = at.input.left;
  written = at.output.held;
  flushed = at.output.flushed;
  source_faults = at.input.faults;
  sink_faults = at.output.faults;
}

-- ---- of the ends that a function has

abbrev pub connection_of : {S K : Type 0} → source.Ghosts S → sink.Ghosts K → S → K → Connection
connection_of told_source told_sink src end = record {
  unread = told_source.left src;
  written = told_sink.held end;
  flushed = told_sink.flushed end;
  source_faults = told_source.faults src;
  sink_faults = told_sink.faults end;
}

abbrev pub input_at : {S : Type 0} → source.Ghosts S → FrameState → S → Input
input_at told frame src = record { frame = frame; left = told.left src; faults = told.faults src }

abbrev pub output_at : {K : Type 0} → sink.Ghosts K → K → Output
output_at told end = record { held = told.held end; flushed = told.flushed end; faults = told.faults end }

abbrev pub moment : Input → Output → BoardContent → ℕ → ℕ → Moment
moment input output board steps memory_faults = record { input = input; output = output; board = board; steps = steps; memory_faults = memory_faults }

abbrev pub moment_of : {B S K : Type 0} → source.Ghosts S → sink.Ghosts K → (B → BoardContent) → OpenConnection B S K → Moment
moment_of told_source told_sink content connection =
    moment (input_at told_source connection.frame.now connection.src.now) (output_at told_sink connection.sink.now) (content connection.board.now) connection.steps.now connection.memory_faults

-- the ends are the same: what they are then is what they are where the connection was opened
pub record SameEnds {B S K : Type 0} (old new : OpenConnection B S K) : Type 0 where
  pub frame : new.frame.ghost_name ≡ old.frame.ghost_name
  pub board : new.board.ghost_name ≡ old.board.ghost_name
  pub src : new.src.ghost_name ≡ old.src.ghost_name
  pub sink : new.sink.ghost_name ≡ old.sink.ghost_name
  pub steps : new.steps.ghost_name ≡ old.steps.ghost_name

-- ---- what holds of any two moments, one after the other

-- no count falls, one request more at most has found no memory, and the frame keeps its room
pub record NeverFalls (old new : Moment) : Type 0 where
  pub source : old.input.faults ≤ new.input.faults
  pub sink : old.output.faults ≤ new.output.faults
  pub steps : old.steps ≤ new.steps
  pub memory_faults : new.memory_faults ≤ old.memory_faults + 1
  pub room : new.input.frame.room ≡ old.input.frame.room

-- the source was read only while the bytes held and those that came needed more
abbrev pub ReadsWhere : {S : Type 0} → source.Ghosts S → (List ℕ → Type 0) → List ℕ → S → S → Type 0
ReadsWhere told needs held old new = (came : List ℕ) × ReadsWhile told.left told.readings needs held old new came
