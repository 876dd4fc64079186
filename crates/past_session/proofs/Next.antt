-- One record of a session.
use Rattle.std.proofs.Common.{ℕ, ◌<◌, inl, inr, List, [], ◌∷◌, length, refl, arith}
use Rattle.survey_link.specs.declared.source.Source as source
use Rattle.survey_link.specs.declared.sink.Sink as sink
use Rattle.past_frame.specs.Record.{next_record}
use Rattle.past_frame.specs.Reading.{NeedsMore}
use Rattle.past_frame.specs.declared.record.RecordStop.{RecordStop}
use Rattle.past_frame.specs.declared.record.RecordStop.TheVariants as stop
use Rattle.past_session.specs.Ending.{end_of_stop, end_of_halt}
use Rattle.past_session.specs.Order.{Moment, ReadsNone, AnswersPart, EndsAt}
use Rattle.past_session.specs.declared.ending.Halt.{Halt}
use Rattle.past_session.specs.declared.ending.Halt.TheVariants as halt

-- where nothing is held, more is needed
pub needs_first : (room : ℕ) (bytes : List ℕ) → length bytes < 1 → NeedsMore room bytes
unfolding next_record
needs_first room [] few = inl refl
needs_first room (b ∷ bytes) few = absurd (omega (arith, few))

module _ {S K : Type 0} (told_source : source.Ghosts S) (told_sink : sink.Ghosts K) (old new : Moment S K) where
  pub none_read : (at : ℕ) (why : RecordStop) → ReadsNone told_source told_sink old new why → EndsAt told_source told_sink at old new (end_of_stop why at)
  none_read at stop.End none = none
  none_read at stop.Cut none = none
  none_read at stop.BadLine none = (refl, none)
  none_read at stop.ReadFault none = none
  none_read at stop.OutOfMemory none = inl none

  pub part_answered : (at : ℕ) (why : Halt) → AnswersPart told_source told_sink old new why → EndsAt told_source told_sink at old new (end_of_halt why)
  part_answered at halt.WriteFault part = part
  part_answered at halt.OutOfMemory part = inr part
