-- What reading one record does.
use Rattle.std.specs.Prelude.{◌≡◌, ◌⊎◌, ℕ, Bool, true, false, ◌<◌, ◌≤◌, List, [], length, position, ◌==◌, Option, None, Result, Ok, Err, ⊤}
use Rattle.std.specs.Io.KnownBytes.{IsAtEnd}
use Rattle.survey_link.specs.declared.faults.Failed.{Failed}
use Rattle.past_frame.specs.Line.{line_feed}
use Rattle.past_frame.specs.Record.{PastRecord, batch, read, next_record, no_more, cut_short, no_line, then_rest, most_line}
use Rattle.past_frame.specs.declared.record.Record.{Record}
use Rattle.past_frame.specs.declared.record.Record.TheVariants.{Batch, Read}
use Rattle.past_frame.specs.declared.record.RecordStop.{RecordStop}
use Rattle.past_frame.specs.declared.record.RecordStop.TheVariants.{End, Cut, BadLine, ReadFault, OutOfMemory}

-- a record that was read, with its text: the body of a batch, or the path of a read
abbrev pub record_of : Record → List ℕ → PastRecord
record_of Batch text = batch text
record_of (Read k) text = read k text

-- the bytes end before a record or within it: more may make them one
abbrev pub NeedsMore : ℕ → List ℕ → Type 0
NeedsMore room bytes = (next_record room bytes ≡ no_more) ⊎ (next_record room bytes ≡ cut_short)

-- why no record comes first in these bytes, where these are left to be read
abbrev pub Stops : ℕ → List ℕ → Option (List ℕ) → RecordStop → Type 0
Stops room bytes left End = (bytes ≡ []) × IsAtEnd left
Stops room bytes left Cut = (next_record room bytes ≡ cut_short) × IsAtEnd left
Stops room bytes left BadLine = next_record room bytes ≡ no_line
Stops room bytes left ReadFault = NeedsMore room bytes
Stops room bytes left OutOfMemory = ⊤

-- the record with this text came first in these bytes, and the rest follows it; or why none did
abbrev pub ReadsRecord : ℕ → List ℕ → List ℕ → List ℕ → Option (List ℕ) → Result Record RecordStop → Type 0
ReadsRecord room bytes text rest left (Ok asked) = next_record room bytes ≡ then_rest (record_of asked text) rest
ReadsRecord room bytes text rest left (Err stop) = Stops room bytes left stop

-- the source failed
abbrev pub read_failed : {T : Type 0} → Result T RecordStop → Bool
read_failed (Err ReadFault) = true
read_failed _ = false

-- whether there are bytes behind the last record
abbrev pub LooksOn : List ℕ → Option (List ℕ) → Result Bool Failed → Type 0
LooksOn bytes left (Ok true) = 0 < length bytes
LooksOn bytes left (Ok false) = (bytes ≡ []) × IsAtEnd left
LooksOn bytes left (Err failed) = bytes ≡ []

-- ---- by its steps

-- no line is held, but one may come
pub record NeedsLine (held : List ℕ) : Type 0 where
  pub short : length held < most_line
  pub none : position (λ b. b == line_feed) held ≡ None

-- why no line is held
abbrev pub StopsLine : List ℕ → Option (List ℕ) → RecordStop → Type 0
StopsLine held left End = (held ≡ []) × IsAtEnd left
StopsLine held left Cut = (0 < length held) × NeedsLine held × IsAtEnd left
StopsLine held left BadLine = (most_line ≤ length held) × (position (λ b. b == line_feed) held ≡ None)
StopsLine held left ReadFault = NeedsLine held
StopsLine held left OutOfMemory = ⊥
