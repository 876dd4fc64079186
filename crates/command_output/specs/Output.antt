-- What a command writes: a line, with the status that the command ends by.
use Rattle.std.specs.Prelude.{◌≡◌, ◌⊎◌, ℕ, List, [], ◌∷◌, ◌++◌, Option}
use Rattle.std.specs.Io.KnownBytes.{Appends}
use Rattle.survey_link.specs.Link.{AppendsPrefix}
use Rattle.survey_link.specs.declared.sink.Sink as sink

-- the bytes that a sink holds, and those of them that it has flushed, where the proof can see them
pub record SinkBytes : Type 0 where
  pub held : Option (List ℕ)
  pub flushed : Option (List ℕ)

abbrev pub sink_bytes : {K : Type 0} → sink.Ghosts K → K → SinkBytes
sink_bytes told end = record { held = told.held end; flushed = told.flushed end }

-- a text as a line
abbrev pub line_of : List ℕ → List ℕ
line_of text = text ++ 10 ∷ []

-- the bytes were written and all that the sink holds was flushed
pub record IsWritten (bytes : List ℕ) (sink sink' : SinkBytes) : Type 0 where
  pub appended : Appends sink.held sink'.held bytes
  pub flushed : sink'.flushed ≡ sink'.held

-- the line was written, and the status is the command's own; or the sink failed at it, or there was no memory for it
abbrev pub Says : ℕ → List ℕ → ℕ → SinkBytes → SinkBytes → Type 0
Says own line status sink sink' = ((status ≡ own) × IsWritten line sink sink')
    ⊎ (((status ≡ 6) × AppendsPrefix sink.held sink'.held line) ⊎ ((status ≡ 11) × (sink' ≡ sink)))

-- the status, and nothing was written
abbrev pub EndsBy : ℕ → ℕ → SinkBytes → SinkBytes → Type 0
EndsBy own status sink sink' = (status ≡ own) × (sink' ≡ sink)
