-- What `probe` answers and writes, over the source and the sink as a connection.
use Rattle.std.specs.Prelude.{◌≡◌, ◌≢◌, ◌⊎◌, ℕ, List, Some, [], ◌∷◌}
use Rattle.std.specs.Io.KnownBytes.{Appends, IsAtEnd}
use Rattle.survey_link.specs.Link.{AppendsPrefix}
use Rattle.survey_link.specs.Door.{Connection}
use Rattle.leaf_probe.specs.Probe.{probe_answer, probe_steps}
use Rattle.leaf_probe.specs.Merging.{steps_after}
use Rattle.leaf_probe.specs.declared.asked.Probe.{Probe}

-- how it can end
abbrev pub probe_statuses : List ℕ
probe_statuses = 0 ∷ 4 ∷ 5 ∷ 6 ∷ 10 ∷ 11 ∷ 12 ∷ 13 ∷ []

-- the status is this one, unless the source or the sink failed or there was no memory
abbrev pub EndsBy : ℕ → ℕ → Type 0
EndsBy status result = (result ≡ status) ⊎ ((result ≡ 5) ⊎ ((result ≡ 6) ⊎ (result ≡ 11)))

-- the answer is that of this input
pub record AnswersProbe (asked : Probe) (input : List ℕ) (old new : Connection) (steps steps' status : ℕ) : Type 0 where
  pub ended : EndsBy (probe_answer asked input).status status
  pub written : status ≡ 0 → Appends old.written new.written (probe_answer asked input).output
  pub part : status ≡ 6 → AppendsPrefix old.written new.written (probe_answer asked input).output
  pub counted : status ≡ 0 → steps' ≡ steps_after (probe_steps asked input) steps

-- `probe`: the answer is that of the input, where the proof can see it; the input is read to its end and the tile flushed, or
-- nothing is written, unless the sink failed
pub record RunsProbe (asked : Probe) (old new : Connection) (steps steps' status : ℕ) : Type 0 where
  pub answers : (input : List ℕ) → old.unread ≡ Some input → AnswersProbe asked input old new steps steps' status
  pub end : status ≡ 0 → IsAtEnd new.unread
  pub flushed : status ≡ 0 → new.flushed ≡ new.written
  pub untouched : status ≢ 0 → status ≢ 6 → new.written ≡ old.written
  pub kept : status ≢ 0 → status ≢ 6 → new.flushed ≡ old.flushed
