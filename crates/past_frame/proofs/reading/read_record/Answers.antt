use Rattle.std.proofs.Common.{◌∙◌, subst}
use Rattle.std.specs.Prelude.{Err}
use Rattle.http_frame.proofs.ReadLemmas.{reads_for}
use Rattle.survey_link.specs.Inbox.{held}
use Rattle.past_frame.specs.Reading.{NeedsLine, NeedsMore, ReadsRecord}
use Rattle.past_frame.proofs.Readings.{held_most, needs_more, stops_line, read_both}
use Rattle.past_frame.proofs.reading.read_record.Goals as goal

pub returns-in-Ok-clause-read : goal.returns-in-Ok-clause-read
returns-in-Ok-clause-read g c =
    read_both _ _ c.args.room (held c.args.inbox.now) (held c.fill_line.new.inbox) _ _ _ c.in-Ok.end c.in-Ok.ensures.found c.fill_line.ensures.read
    (λ bytes. ReadsRecord c.args.room bytes c.take_record.new.text.items (held c.take_record.new.inbox) (g.S.Source.left c.take_record.new.src) c.take_record.result) c.take_record.ensures.read

pub returns-in-Err-clause-read : goal.returns-in-Err-clause-read
returns-in-Err-clause-read g c =
    let read = c.fill_line.ensures.read in (
      read.0,
      reads_for _ _ NeedsLine (NeedsMore c.args.room) _ _ read.0 (λ more needs. needs_more c.args.room _ needs) _ _ read.1,
      subst (λ bytes. ReadsRecord c.args.room bytes c.args.text.now.items (held c.fill_line.new.inbox) (g.S.Source.left c.fill_line.new.src) (Err c.in-Err.stop)) read.2
          (stops_line c.args.room _ _ c.in-Err.stop (held_most c.fill_line.new.inbox (c.fill_line.ensures.size ∙ c.requires.size)) c.in-Err.ensures.stop),
    )
