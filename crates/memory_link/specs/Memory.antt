-- The forms in memory: what they hold, and what a call does to it. Calls are numbered from 0, and those whose numbers are
-- listed fail.
use Rattle.std.specs.Prelude.{ℕ, ◌+◌, ◌-◌, ◌≤◌, ◌⊎◌, min, List, [], ◌∷◌, ◌++◌, length, take, drop, map, Option, Some, Contains, if◌then◌else◌, nat_lt}
use Rattle.survey_link.specs.Link.{next_count}
use Rattle.survey_link.specs.Door.{Numbered, Connections}
use Rattle.survey_link.specs.Shelf.{ShelfFiles}

-- a source: the number of its connection, where it came through a door, the bytes left, how many a read gives at most, the calls
-- that fail, and how many calls came and failed
pub record SourceState : Type 0 where
  pub number : Option ℕ
  pub unread : List ℕ
  pub piece : ℕ
  pub fails : List ℕ
  pub calls : ℕ
  pub faults : ℕ

-- how many bytes a read into so much room gives
abbrev pub piece_of : SourceState → ℕ → ℕ
piece_of source space = min (min (length source.unread) source.piece) space

-- a read gave the next m bytes
abbrev pub after_read : ℕ → SourceState → SourceState
after_read m source = record source { unread = drop m source.unread; calls = next_count source.calls }

-- a read failed
abbrev pub after_failed_read : SourceState → SourceState
after_failed_read source = record source { calls = next_count source.calls; faults = next_count source.faults }

-- a source that never fails: the bytes left, and how many calls came
pub record SureState : Type 0 where
  pub unread : List ℕ
  pub calls : ℕ

-- a sure source gave the next m bytes
abbrev pub after_sure_read : ℕ → SureState → SureState
after_sure_read m source = record source { unread = drop m source.unread; calls = next_count source.calls }

-- a sink: the number of its connection, where it came through a door, the bytes written, those of them that were flushed, how
-- many it holds at most, the calls that fail, and how many calls came and failed
pub record SinkState : Type 0 where
  pub number : Option ℕ
  pub written : List ℕ
  pub flushed : List ℕ
  pub room : ℕ
  pub fails : List ℕ
  pub calls : ℕ
  pub faults : ℕ

-- the next write fails: its number is listed, or the sink is full
abbrev pub WriteFails : SinkState → Type 0
WriteFails sink = Contains sink.fails sink.calls ⊎ (sink.room ≤ length sink.written)

-- how many of so many bytes a write takes
abbrev pub taken_of : SinkState → ℕ → ℕ
taken_of sink count = min count (sink.room - length sink.written)

-- a write took these bytes
abbrev pub after_write : List ℕ → SinkState → SinkState
after_write bytes sink = record sink { written = sink.written ++ bytes; calls = next_count sink.calls }

-- a flush went well: all that was written is flushed
abbrev pub after_flush : SinkState → SinkState
after_flush sink = record sink { flushed = sink.written; calls = next_count sink.calls }

-- a write or a flush failed
abbrev pub after_failed_write : SinkState → SinkState
after_failed_write sink = record sink { calls = next_count sink.calls; faults = next_count sink.faults }

-- a shelf: its files, the calls that fail, and how many calls came and failed
pub record ShelfState : Type 0 where
  pub files : ShelfFiles
  pub fails : List ℕ
  pub calls : ℕ
  pub faults : ℕ

-- a call went well, or there was no memory, and left these files
abbrev pub after_call : ShelfFiles → ShelfState → ShelfState
after_call files shelf = record shelf { files = files; calls = next_count shelf.calls }

-- a call failed
abbrev pub after_failed_call : ShelfState → ShelfState
after_failed_call shelf = record shelf { calls = next_count shelf.calls; faults = next_count shelf.faults }

-- a door: the connections it was given, how many of them were taken, those given back, the calls that fail, how many calls
-- came and failed, and how many found no memory
pub record DoorState : Type 0 where
  pub all : List (SourceState × SinkState)
  pub next : ℕ
  pub returned : List (SourceState × SinkState)
  pub fails : List ℕ
  pub calls : ℕ
  pub faults : ℕ
  pub memory_faults : ℕ

-- what the proof can see of a connection in memory
abbrev pub connection_of : SourceState × SinkState → Numbered
connection_of ends = record {
  source = ends.0.number;
  sink = ends.1.number;
  told = record {
    unread = Some ends.0.unread;
    written = Some ends.1.written;
    flushed = Some ends.1.flushed;
    source_faults = ends.0.faults;
    sink_faults = ends.1.faults;
  };
}

-- a connection as it is taken: with its number
abbrev pub numbered : ℕ → SourceState × SinkState → SourceState × SinkState
numbered number ends = (record ends.0 { number = Some number }, record ends.1 { number = Some number })

-- connections that have the numbers from this one on
abbrev pub numbered_from : ℕ → List (SourceState × SinkState) → List Numbered
numbered_from number [] = []
numbered_from number (ends ∷ rest) = connection_of (numbered number ends) ∷ numbered_from (number + 1) rest

-- what the proof can see of the connections of a door in memory
abbrev pub connections_of : DoorState → Connections
connections_of door = record {
  waiting = numbered_from door.next (drop door.next door.all);
  taken = numbered_from 0 (take door.next door.all);
  returned = map connection_of door.returned;
}

-- the next connection was taken
abbrev pub after_accept : DoorState → DoorState
after_accept door = record door { next = door.next + 1; calls = next_count door.calls }

-- no connection was left
abbrev pub after_none : DoorState → DoorState
after_none door = record door { calls = next_count door.calls }

-- an accept failed
abbrev pub after_failed_accept : DoorState → DoorState
after_failed_accept door = record door { calls = next_count door.calls; faults = next_count door.faults }

-- there was no memory for the next connection
abbrev pub after_memory_fault : DoorState → DoorState
after_memory_fault door = record door { memory_faults = next_count door.memory_faults }

-- a connection was given back: it is kept if fewer were given back than taken
abbrev pub after_done : SourceState × SinkState → DoorState → DoorState
after_done ends door = if nat_lt (length door.returned) door.next then record door { returned = door.returned ++ ends ∷ [] } else door
