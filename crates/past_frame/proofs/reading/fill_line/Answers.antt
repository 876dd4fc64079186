use Rattle.std.proofs.Common.{sym, ◌∙◌}
use Rattle.survey_link.specs.Inbox.{held}
use Rattle.http_frame.proofs.ReadingSteps.{gave_some, filling_more, filling_last}
use Rattle.past_frame.specs.Reading.{NeedsLine}
use Rattle.past_frame.proofs.reading.fill_line.Goals as goal

pub loop-end-preserved : goal.loop-end-preserved
loop-end-preserved g c =
    let e = c.in_ok-read_more.ensures in
    let needs : NeedsLine (held c.loop-end.inbox) = record {
      short = rw c.held-held.ensures at c.if-held-ge-MAX_LINE.false;
      none = sym (rw c.held-held.ensures at c.in_default.ensures);
    } in
    record {
      filling = filling_more _ _ _ (held c.args.inbox.now) (held c.loop-end.inbox) (held c.read_more.new.inbox) _ _ _ e.taken.more c.loop-end.invariant.filling needs
          (record { given = e.taken.consumed; counted = e.counted }) e.taken.grown (gave_some (held c.loop-end.inbox) e.taken.more (held c.read_more.new.inbox) e.taken.grown e.more);
      faults = e.faults ∙ c.loop-end.invariant.faults;
      size = e.size ∙ c.loop-end.invariant.size;
    }

pub returns-in_err-read_more-clause-read : goal.returns-in_err-read_more-clause-read
returns-in_err-read_more-clause-read g c =
    let e = c.in_err-read_more.ensures in
    let needs : NeedsLine (held c.loop-end.inbox) = record {
      short = rw c.held-held.ensures at c.if-held-ge-MAX_LINE.false;
      none = sym (rw c.held-held.ensures at c.in_default.ensures);
    } in
    filling_last _ _ _ (held c.args.inbox.now) (held c.loop-end.inbox) (held c.read_more.new.inbox) _ _ _ e.taken.more c.loop-end.invariant.filling needs
    (record { given = e.taken.consumed; counted = e.counted }) e.taken.grown
