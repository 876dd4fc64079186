-- In which order a session reads and answers: one record after another, and each answer is flushed before the next record is
-- read. This is so whichever call fails, and no body can know which will: where a reading does, all answers before it are
-- flushed, and where a writing does, nothing was read behind the record that it answers.
use Rattle.std.specs.Prelude.{◌≡◌, ◌⊎◌, ℕ, ◌+◌, ◌<◌, ◌≤◌, Bool, List, [], ◌∷◌, ◌++◌, length}
use Rattle.std.specs.Io.KnownBytes.{IsAtEnd}
use Rattle.survey_conf.specs.Description.{Description}
use Rattle.edit_journal.specs.Leaves.{LeafTiles}
use Rattle.survey_link.specs.Inbox.{held}
use Rattle.survey_link.specs.Link.{CountsFault}
use Rattle.survey_link.specs.declared.source.Source as source
use Rattle.survey_link.specs.declared.sink.Sink as sink
use Rattle.http_frame.specs.Readings.{ReadsWhile}
use Rattle.past_frame.specs.Record.{PastRecord, then_rest, next_record}
use Rattle.past_frame.specs.Reading.{NeedsMore, Stops}
use Rattle.past_frame.specs.declared.record.RecordStop.{RecordStop}
use Rattle.past_frame.specs.declared.record.RecordStop.TheVariants as stop
use Rattle.past_session.specs.Answers.{first_state}
use Rattle.past_session.specs.Records.{room_of, most_records}
use Rattle.command_output.specs.Output.{sink_bytes}
use Rattle.past_session.specs.Session.{SessionContent}
use Rattle.past_session.specs.Steps.{answer_text, answer_cost, session_after, Sends, FailsToSend}
use Rattle.past_session.specs.declared.ends.Ends.{Ends}
use Rattle.past_session.specs.declared.ends.Input.{Input}
use Rattle.past_session.specs.declared.ending.Halt.{Halt}
use Rattle.past_session.specs.declared.ending.Halt.TheVariants as halt
use Rattle.past_session.specs.declared.ending.PastEnd.{PastEnd}
use Rattle.past_session.specs.declared.ending.PastEnd.TheVariants.{Done, Cut, BadLine, Spent, ReadFault, WriteFault, OutOfMemory}

-- a session at one moment: what it keeps, its two ends, the bytes that were read and belong to no record yet, and the count of
-- steps
pub record Moment (S K : Type 0) : Type 0 where
  pub session : SessionContent
  pub src : S
  pub sink : K
  pub held : List ℕ
  pub steps : ℕ

abbrev pub moment : {S K : Type 0} → SessionContent → Ends S K → Input → ℕ → Moment S K
moment session ends input steps = record { session = session; src = ends.src.now; sink = ends.sink.now; held = held input.inbox; steps = steps }

-- before its first record
abbrev pub first_moment : {S K : Type 0} → Description → LeafTiles → S → K → ℕ → Moment S K
first_moment d opening src end steps = record { session = record { conf = d; opening = opening; state = first_state }; src = src; sink = end; held = []; steps = steps }

-- the ends are the same: what they are then is what they are where the session began
pub record SameEnds {S K : Type 0} (old new : Ends S K) : Type 0 where
  pub src : new.src.ghost_name ≡ old.src.ghost_name
  pub sink : new.sink.ghost_name ≡ old.sink.ghost_name

module _ {S K : Type 0} (told_source : source.Ghosts S) (told_sink : sink.Ghosts K) where
  -- no count falls
  pub record NeverFalls (old new : Moment S K) : Type 0 where
    pub source : told_source.faults old.src ≤ told_source.faults new.src
    pub sink : told_sink.faults old.sink ≤ told_sink.faults new.sink
    pub steps : old.steps ≤ new.steps

  -- the count of faults of an end that failed rose, and else stayed
  pub record Faults (read write : Bool) (old new : Moment S K) : Type 0 where
    pub source : CountsFault read (told_source.faults old.src) (told_source.faults new.src)
    pub sink : CountsFault write (told_sink.faults old.sink) (told_sink.faults new.sink)

  -- these bytes came, each reading needed by the next record, and nothing else happened
  pub record IsRead (old new : Moment S K) (came : List ℕ) : Type 0 where
    pub session : new.session ≡ old.session
    pub sink : new.sink ≡ old.sink
    pub steps : new.steps ≡ old.steps
    pub reads : ReadsWhile told_source.left told_source.readings (NeedsMore (room_of old.session.conf)) old.held old.src new.src came

  -- the next record was read
  pub record IsAsked (asked : PastRecord) (old new : Moment S K) : Type 0 where
    pub came : List ℕ
    pub read : IsRead old new came
    pub is : next_record (room_of old.session.conf) (old.held ++ came) ≡ then_rest asked new.held

  -- it was answered, the answer flushed, and nothing was read
  pub record IsAnswered (asked : PastRecord) (old new : Moment S K) : Type 0 where
    pub session : new.session ≡ session_after old.session asked
    pub src : new.src ≡ old.src
    pub held : new.held ≡ old.held
    pub sends : Sends (answer_text old.session asked) (sink_bytes told_sink old.sink) (sink_bytes told_sink new.sink)
    pub cost : new.steps ≤ old.steps + answer_cost old.session asked

  -- these records were each read, and then answered, before the next was read
  abbrev pub Converses : List PastRecord → Moment S K → Moment S K → Type 0
  Converses [] old new = new ≡ old
  Converses (first ∷ later) old new = (asked : Moment S K) × (answered : Moment S K) × IsAsked first old asked × IsAnswered first asked answered × Converses later answered new

  -- no record was read
  pub record ReadsNone (old new : Moment S K) (why : RecordStop) : Type 0 where
    pub came : List ℕ
    pub read : IsRead old new came
    pub is : Stops (room_of old.session.conf) (old.held ++ came) (told_source.left new.src) why

  -- the next record was read, its answer wasn't written whole, and nothing more was read
  pub record AnswersPart (old new : Moment S K) (why : Halt) : Type 0 where
    pub asked : PastRecord
    pub mid : Moment S K
    pub is_asked : IsAsked asked old mid
    pub src : new.src ≡ mid.src
    pub fails : FailsToSend (answer_text mid.session asked) (sink_bytes told_sink mid.sink) (sink_bytes told_sink new.sink) why
    pub cost : new.steps ≤ mid.steps + answer_cost mid.session asked

  -- behind `at` records the session ends before another one is answered whole
  abbrev pub EndsAt : ℕ → Moment S K → Moment S K → PastEnd → Type 0
  EndsAt at old new Done = ReadsNone old new stop.End
  EndsAt at old new Cut = ReadsNone old new stop.Cut
  EndsAt at old new (BadLine told) = (told ≡ at) × ReadsNone old new stop.BadLine
  EndsAt at old new Spent = ⊥
  EndsAt at old new ReadFault = ReadsNone old new stop.ReadFault
  EndsAt at old new WriteFault = AnswersPart old new halt.WriteFault
  EndsAt at old new OutOfMemory = ReadsNone old new stop.OutOfMemory ⊎ AnswersPart old new halt.OutOfMemory

  -- so the input goes on behind all records that are taken, or not, or this reading failed
  abbrev pub GoesOn : List ℕ → Moment S K → PastEnd → Type 0
  GoesOn bytes new Done = (bytes ≡ []) × IsAtEnd (told_source.left new.src)
  GoesOn bytes new Spent = 0 < length bytes
  GoesOn bytes new ReadFault = bytes ≡ []
  GoesOn bytes new Cut = ⊥
  GoesOn bytes new (BadLine at) = ⊥
  GoesOn bytes new WriteFault = ⊥
  GoesOn bytes new OutOfMemory = ⊥

  pub record EndsBehindAll (old new : Moment S K) (end : PastEnd) : Type 0 where
    pub came : List ℕ
    pub read : IsRead old new came
    pub is : GoesOn (old.held ++ came) new end

  -- the whole session: some records were answered, one after another, and then it ended so
  pub record InOrder (old new : Moment S K) (end : PastEnd) : Type 0 where
    pub records : List PastRecord
    pub behind : Moment S K
    pub converses : Converses records old behind
    pub ends : ((length records < most_records) × EndsAt (length records) behind new end) ⊎ ((length records ≡ most_records) × EndsBehindAll behind new end)
