-- What a session about past states does.
use Rattle.std.specs.Prelude.{◌≡◌, ◌⊎◌, ℕ, ◌+◌, ◌≤◌, Bool, true, false, List, [], ◌∷◌, ◌++◌, take, Option, Some}
use Rattle.std.specs.Io.KnownBytes.{Appends, Consumes}
use Rattle.survey_link.specs.Link.{AppendsPrefix}
use Rattle.command_output.specs.Output.{SinkBytes}
use Rattle.survey_conf.specs.Description.{Description}
use Rattle.edit_journal.specs.Leaves.{LeafTiles}
use Rattle.past_frame.specs.Record.{PastRecord}
use Rattle.past_session.specs.Answers.{first_state, state_behind, record_text, output_of, past_records, past_out}
use Rattle.past_session.specs.Costs.{cost_of}
use Rattle.past_session.specs.declared.ending.PastEnd.{PastEnd}
use Rattle.past_session.specs.declared.ending.PastEnd.TheVariants.{Done, Cut, BadLine, Spent, ReadFault, WriteFault, OutOfMemory}

-- all was flushed with the answer to a record; without one nothing was touched
abbrev pub Flushes : List PastRecord → SinkBytes → SinkBytes → Type 0
Flushes [] sink sink' = sink' ≡ sink
Flushes (_ ∷ _) sink sink' = sink'.flushed ≡ sink'.held

-- all that the sink holds was flushed, or nothing was touched
abbrev pub FlushesAll : SinkBytes → SinkBytes → Type 0
FlushesAll sink sink' = (sink'.flushed ≡ sink'.held) ⊎ (sink' ≡ sink)

-- the sink has gained the answers to these records, and flushed them
pub record Answered (d : Description) (opening : LeafTiles) (records : List PastRecord) (sink sink' : SinkBytes) : Type 0 where
  pub written : Appends sink.held sink'.held (output_of d opening records)
  pub flushed : Flushes records sink sink'

-- nothing failed: the output and the end are those of the input
pub record RunsWhole (d : Description) (opening : LeafTiles) (input : List ℕ) (sink sink' : SinkBytes) (steps steps' : ℕ) (end : PastEnd) : Type 0 where
  pub written : Appends sink.held sink'.held (past_out d opening input).output
  pub end_is : end ≡ (past_out d opening input).end
  pub flushed : Flushes (past_records d input) sink sink'
  pub cost : steps' ≤ steps + cost_of d opening (past_records d input)

-- reading failed: the records before the first that isn't whole in the bytes that were read were answered
pub record ReadsPart (d : Description) (opening : LeafTiles) (input : List ℕ) (left' : Option (List ℕ)) (sink sink' : SinkBytes) (steps steps' : ℕ) : Type 0 where
  pub came : List ℕ
  pub consumed : Consumes (Some input) left' came
  pub answered : Answered d opening (past_records d came) sink sink'
  pub cost : steps' ≤ steps + cost_of d opening (past_records d came)

-- writing failed: a prefix of the records was answered whole, and a prefix of the answer to the next one was written
pub record BreaksOff (d : Description) (opening : LeafTiles) (input : List ℕ) (sink sink' : SinkBytes) (steps steps' : ℕ) : Type 0 where
  pub before : List PastRecord
  pub next : PastRecord
  pub later : List PastRecord
  pub are_records : past_records d input ≡ before ++ next ∷ later
  pub whole : SinkBytes
  pub answered : Answered d opening before sink whole
  pub part : AppendsPrefix whole.held sink'.held (record_text d opening (state_behind d opening first_state before) next)
  pub flushed : sink'.flushed ≡ whole.flushed
  pub cost : steps' ≤ steps + cost_of d opening (before ++ next ∷ [])

-- memory ran out: a prefix of the records was answered, and nothing of the next answer was written
pub record StopsEarly (d : Description) (opening : LeafTiles) (input : List ℕ) (sink sink' : SinkBytes) (steps steps' : ℕ) : Type 0 where
  pub before : List PastRecord
  pub later : List PastRecord
  pub are_records : past_records d input ≡ before ++ later
  pub answered : Answered d opening before sink sink'
  pub cost : steps' ≤ steps + cost_of d opening (before ++ take 1 later)

-- a session of a survey with these opening leaves, whose source had that input: what is left of it, the bytes of the sink and
-- the count of steps before and after it, by its end
abbrev pub PastRun : Description → LeafTiles → List ℕ → Option (List ℕ) → SinkBytes → SinkBytes → ℕ → ℕ → PastEnd → Type 0
PastRun d opening input left' sink sink' steps steps' ReadFault = ReadsPart d opening input left' sink sink' steps steps'
PastRun d opening input left' sink sink' steps steps' WriteFault = BreaksOff d opening input sink sink' steps steps'
PastRun d opening input left' sink sink' steps steps' OutOfMemory = StopsEarly d opening input sink sink' steps steps'
PastRun d opening input left' sink sink' steps steps' Done = RunsWhole d opening input sink sink' steps steps' Done
PastRun d opening input left' sink sink' steps steps' Cut = RunsWhole d opening input sink sink' steps steps' Cut
PastRun d opening input left' sink sink' steps steps' (BadLine at) = RunsWhole d opening input sink sink' steps steps' (BadLine at)
PastRun d opening input left' sink sink' steps steps' Spent = RunsWhole d opening input sink sink' steps steps' Spent

-- the source failed
abbrev pub is_read_fault : PastEnd → Bool
is_read_fault ReadFault = true
is_read_fault _ = false

-- the sink failed
abbrev pub is_write_fault : PastEnd → Bool
is_write_fault WriteFault = true
is_write_fault _ = false

-- whatever the proof sees of the source, the session is one of the bytes that were read, as though the input ended behind
-- them
pub record RunsOver (d : Description) (opening : LeafTiles) (left left' : Option (List ℕ)) (sink sink' : SinkBytes) (steps steps' : ℕ) (end : PastEnd) : Type 0 where
  pub came : List ℕ
  pub consumed : Consumes left left' came
  pub run : PastRun d opening came (Some []) sink sink' steps steps' end
