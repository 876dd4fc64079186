-- What `read_record` and `record_span` answer.
use Rattle.std.specs.Prelude.{◌≡◌, ◌≤◌, ℕ, ◌+◌, ◌*◌, false, List, length, take, map, Option, Some, None, Result, Ok, Err}
use Rattle.pyramid_model.specs.Shape.{PyramidShape}
use Rattle.edit_journal.specs.Edit.{edit_of}
use Rattle.wal_frame.specs.declared.record.Record.{Record}
use Rattle.wal_frame.specs.declared.record.Record.TheVariants.{Batch, Publication}
use Rattle.wal_frame.specs.declared.refusal.Reason.TheVariants.{Malformed}
use Rattle.wal_frame.specs.declared.refusal.WalRefusal.{WalRefusal}
use Rattle.wal_frame.specs.declared.refusal.ReadStop.{ReadStop}
use Rattle.wal_frame.specs.declared.refusal.ReadStop.TheVariants.{Refused, OutOfMemory}
use Rattle.wal_frame.specs.Record.{WalRecord, batch, publication}
use Rattle.wal_frame.specs.Reading.{StandsFirst, wal_end, malformed, ends_here}
use Rattle.wal_frame.specs.Survey.{tile_length}

-- a record as contracts see it
abbrev pub record_of : Record → WalRecord
record_of (Batch edits) = batch (map edit_of edits.items)
record_of (Publication tip) = publication tip

-- what is malformed is refused where it stands
abbrev pub malformed_at : ℕ → WalRefusal
malformed_at offset = record { reason = Malformed; offset = offset }

abbrev pub IsRefused : PyramidShape → ℕ → List ℕ → WalRefusal → Type 0
IsRefused shape offset bytes refusal = (refusal ≡ malformed_at offset) × StandsFirst shape bytes malformed

-- why none was read: it is malformed, or memory ran out, which it does only where a record stands
abbrev pub Stops : PyramidShape → ℕ → List ℕ → ReadStop → Type 0
Stops shape offset bytes (Refused refusal) = IsRefused shape offset bytes refusal
Stops shape offset bytes OutOfMemory = ends_here bytes ≡ false

-- the longest payload of a record: 1,024 edits with tiles
abbrev pub most_payload : PyramidShape → ℕ
most_payload shape = 4 + 1024 * (5 + tile_length shape)

-- what a record's head tells: that the WAL ends there, that the first so many bytes are enough to read what stands there, or that
-- it is malformed
abbrev pub Spans : PyramidShape → ℕ → List ℕ → Result (Option ℕ) WalRefusal → Type 0
Spans shape offset bytes (Ok None) = StandsFirst shape bytes wal_end
Spans shape offset bytes (Ok (Some count)) = (count ≤ length bytes) × (ends_here (take count bytes) ≡ false)
Spans shape offset bytes (Err refusal) = IsRefused shape offset bytes refusal
