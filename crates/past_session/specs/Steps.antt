-- The answer to one record of a session.
use Rattle.std.specs.Prelude.{◌≡◌, ℕ, List}
use Rattle.std.specs.Io.KnownBytes.{Appends}
use Rattle.survey_link.specs.Link.{AppendsPrefix}
use Rattle.past_frame.specs.Record.{PastRecord}
use Rattle.past_session.specs.Answers.{record_text, state_after}
use Rattle.past_session.specs.Costs.{record_cost}
use Rattle.command_output.specs.Output.{SinkBytes}
use Rattle.past_session.specs.Session.{SessionContent}
use Rattle.past_session.specs.declared.ending.Halt.{Halt}
use Rattle.past_session.specs.declared.ending.Halt.TheVariants as halt

-- the answer to a record of a session
abbrev pub answer_text : SessionContent → PastRecord → List ℕ
answer_text session asked = record_text session.conf session.opening session.state asked

abbrev pub answer_cost : SessionContent → PastRecord → ℕ
answer_cost session asked = record_cost session.conf session.state asked

-- the session after it
abbrev pub session_after : SessionContent → PastRecord → SessionContent
session_after session asked = record { conf = session.conf; opening = session.opening; state = state_after session.conf session.opening session.state asked }

-- the whole text was written and flushed
pub record Sends (text : List ℕ) (sink sink' : SinkBytes) : Type 0 where
  pub written : Appends sink.held sink'.held text
  pub flushed : sink'.flushed ≡ sink'.held

-- writing failed after a prefix of the text; or memory ran out before any
abbrev pub FailsToSend : List ℕ → SinkBytes → SinkBytes → Halt → Type 0
FailsToSend text sink sink' halt.WriteFault = AppendsPrefix sink.held sink'.held text × (sink'.flushed ≡ sink.flushed)
FailsToSend text sink sink' halt.OutOfMemory = sink' ≡ sink
