-- What a session about past states writes, by its description, its opening leaves and its input alone: no generation is held.
-- This project's profile.
use Rattle.std.specs.Prelude.{ℕ, ◌+◌, List, [], ◌∷◌, ◌++◌, length, codes, decimal, Option, Some, None, Ok, Err, if◌then◌else◌}
use Rattle.survey_conf.specs.Description.{Description}
use Rattle.edit_journal.specs.Edit.{LeafEdit}
use Rattle.edit_journal.specs.Leaves.{LeafTiles}
use Rattle.edit_journal.specs.Batches.{edits_of}
use Rattle.edit_journal.specs.Faults.{batch_fault, fault_number}
use Rattle.edit_journal.specs.declared.fault.BatchFault.{BatchFault}
use Rattle.survey_core.specs.BatchBody.{BatchEntries, batch_entries}
use Rattle.survey_core.specs.Faults.{entry_fault_text}
use Rattle.survey_core.specs.declared.fault.EntryFault.{EntryFault}
use Rattle.past_frame.specs.Line.{line_feed}
use Rattle.past_frame.specs.Record.{PastRecord, batch, read}
use Rattle.past_reads.specs.Answers.{PastAnswer, is_end, past_answer}
use Rattle.past_reads.specs.declared.refusal.PastRefusal.{PastRefusal}
use Rattle.past_reads.specs.declared.refusal.PastRefusal.TheVariants.{TooNew, Split, OutOfMemory}
use Rattle.past_session.specs.Records.{records_of, room_of}
use Rattle.past_session.specs.declared.ending.PastEnd.{PastEnd}

-- what the answers to the records before leave: the batches that were accepted, and after how many edits the survey was when
-- a file was last looked for in it
pub record PastState : Type 0 where
  pub batches : List (List LeafEdit)
  pub last : Option ℕ

abbrev pub first_state : PastState
first_state = record { batches = []; last = None }

-- ---- a batch

-- its body has a fault at this entry; or one of its edits has one after those before it; or it is accepted
pub data BatchVerdict : Type 0 where
  faulty : ℕ → EntryFault → BatchVerdict
  refused : BatchFault → BatchVerdict
  accepted : List LeafEdit → BatchVerdict

abbrev pub verdict_by : List LeafEdit → Option EntryFault → Option BatchFault → BatchVerdict
verdict_by edits (Some fault) found = faulty (length edits) fault
verdict_by edits None (Some fault) = refused fault
verdict_by edits None None = accepted edits

abbrev pub judged : LeafTiles → List LeafEdit → BatchEntries → BatchVerdict
judged opening edits entries = verdict_by entries.edits entries.fault (batch_fault opening edits entries.edits)

-- the verdict on the body of a batch after these edits
unfoldable pub batch_verdict : Description → LeafTiles → List LeafEdit → List ℕ → BatchVerdict
batch_verdict d opening edits body = judged opening edits (batch_entries d body)

-- the answer to a batch after so many edits
abbrev pub batch_text : ℕ → BatchVerdict → List ℕ
batch_text count (faulty at fault) = codes "refused " ++ decimal at ++ codes " " ++ entry_fault_text fault ++ line_feed ∷ []
batch_text count (refused fault) = codes "refused " ++ decimal fault.at ++ codes " edit " ++ decimal (fault_number fault.fault) ++ line_feed ∷ []
batch_text count (accepted edits) = codes "edits " ++ decimal (count + length edits) ++ line_feed ∷ []

abbrev pub batches_after : List (List LeafEdit) → BatchVerdict → List (List LeafEdit)
batches_after batches (faulty at fault) = batches
batches_after batches (refused fault) = batches
batches_after batches (accepted edits) = batches ++ edits ∷ []

-- ---- a read

-- the answer by the bytes of the file, where there is one
abbrev pub file_text : Option (List ℕ) → List ℕ
file_text None = codes "absent" ++ line_feed ∷ []
file_text (Some bytes) = codes "file " ++ decimal (length bytes) ++ line_feed ∷ bytes

-- the answer where there is no generation of the first k edits
abbrev pub refusal_text : PastRefusal → List ℕ
refusal_text (TooNew edits) = codes "future " ++ decimal edits ++ line_feed ∷ []
refusal_text (Split k) = codes "split " ++ decimal k ++ line_feed ∷ []
refusal_text OutOfMemory = []

abbrev pub read_text : PastAnswer → List ℕ
read_text (Ok file) = file_text file
read_text (Err refusal) = refusal_text refusal

-- ---- a record, and all

-- the answer to a record
abbrev pub record_text : Description → LeafTiles → PastState → PastRecord → List ℕ
record_text d opening state (batch body) = batch_text (length (edits_of state.batches)) (batch_verdict d opening (edits_of state.batches) body)
record_text d opening state (read k path) = read_text (past_answer d opening state.batches k path)

-- what it leaves
abbrev pub state_after : Description → LeafTiles → PastState → PastRecord → PastState
state_after d opening state (batch body) = record { batches = batches_after state.batches (batch_verdict d opening (edits_of state.batches) body); last = state.last }
state_after d opening state (read k path) = record { batches = state.batches; last = if is_end state.batches k then Some k else state.last }

-- the answers to records, one after another, and what they leave
unfoldable pub answers : Description → LeafTiles → PastState → List PastRecord → List ℕ
answers d opening state [] = []
answers d opening state (first ∷ later) = record_text d opening state first ++ answers d opening (state_after d opening state first) later

unfoldable pub state_behind : Description → LeafTiles → PastState → List PastRecord → PastState
state_behind d opening state [] = state
state_behind d opening state (first ∷ later) = state_behind d opening (state_after d opening state first) later

-- the output for records from the first on
abbrev pub output_of : Description → LeafTiles → List PastRecord → List ℕ
output_of d opening records = answers d opening first_state records

-- what is written for an input, and how the session ends where nothing fails
pub record PastOut : Type 0 where
  pub output : List ℕ
  pub end : PastEnd

-- the records of an input to a session about a survey of this description
abbrev pub past_records : Description → List ℕ → List PastRecord
past_records d input = (records_of (room_of d) input).records

unfoldable pub past_out : Description → LeafTiles → List ℕ → PastOut
past_out d opening input = record { output = output_of d opening (past_records d input); end = (records_of (room_of d) input).end }
