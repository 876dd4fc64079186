use Rattle.std.proofs.Common.{rules, refl, sym, ◌∙◌, inr}
use Rattle.survey_link.specs.Inbox.{held}
use Rattle.http_frame.specs.Next.{NeedsMore}
use Rattle.http_frame.proofs.Fills.{takes_both, needs_before, searched_before}
use Rattle.http_frame.proofs.ReadingSteps.{gave_some, filling_more, filling_last, filling_done}
use Rattle.http_frame.proofs.fill.fill_head.Goals as goal

pub head_length-requires-clause-none : goal.head_length-requires-clause-none
head_length-requires-clause-none g c = rw c.held-held.ensures c.loop-length.invariant.none

pub returns-then-held-ge-MAX_HEAD-clause-stop : goal.returns-then-held-ge-MAX_HEAD-clause-stop
returns-then-held-ge-MAX_HEAD-clause-stop g c =
    (refl, rw c.held-held.ensures at c.if-held-ge-MAX_HEAD.true, rw c.held-held.ensures at (c.in_default.ensures.none refl))

pub read_more-requires-clause-needed : goal.read_more-requires-clause-needed
read_more-requires-clause-needed g c = record {
  short = rw c.held-held.ensures at c.if-held-ge-MAX_HEAD.false;
  none = rw c.held-held.ensures at (c.in_default.ensures.none refl);
}

pub loop-length-preserved : goal.loop-length-preserved
loop-length-preserved g c =
    let before = c.loop-length.invariant.taken in
    let taken = c.in_ok-read_more.ensures.taken in
    let needs : NeedsMore (held c.loop-length.buffer) = record {
      short = rw c.held-held.ensures at c.if-held-ge-MAX_HEAD.false;
      none = rw c.held-held.ensures at (c.in_default.ensures.none refl);
    } in
    record {
      searched = search rules;
      none = rw (c.held-held.ensures, taken.grown) (searched_before (held c.loop-length.buffer) taken.more needs);
      taken = takes_both (held c.args.buffer.now) (held c.loop-length.buffer) (held c.read_more.new.buffer) _ _ _ before taken;
      filling = filling_more _ _ _ (held c.args.buffer.now) (held c.loop-length.buffer) (held c.read_more.new.buffer) _ _ _ taken.more c.loop-length.invariant.filling needs
          (record { given = taken.consumed; counted = c.in_ok-read_more.ensures.counted }) taken.grown
          (gave_some (held c.loop-length.buffer) taken.more (held c.read_more.new.buffer) taken.grown c.in_ok-read_more.ensures.more);
      untouched = λ no. absurd (no (needs_before (held c.args.buffer.now) before.more (rw (sym before.grown) needs)));
      faults = c.in_ok-read_more.ensures.faults ∙ c.loop-length.invariant.faults;
      places = inr c.in_ok-read_more.ensures.places;
      size = c.in_ok-read_more.ensures.size ∙ c.loop-length.invariant.size;
    }

pub returns-in_err-read_more-clause-taken : goal.returns-in_err-read_more-clause-taken
returns-in_err-read_more-clause-taken g c =
    takes_both (held c.args.buffer.now) (held c.loop-length.buffer) (held c.read_more.new.buffer) _ _ _ c.loop-length.invariant.taken c.in_err-read_more.ensures.taken

pub returns-in_err-read_more-clause-needed : goal.returns-in_err-read_more-clause-needed
returns-in_err-read_more-clause-needed g c =
    let needs : NeedsMore (held c.loop-length.buffer) = record {
      short = rw c.held-held.ensures at c.if-held-ge-MAX_HEAD.false;
      none = rw c.held-held.ensures at (c.in_default.ensures.none refl);
    } in
    let taken = c.in_err-read_more.ensures.taken in
    filling_last _ _ _ (held c.args.buffer.now) (held c.loop-length.buffer) (held c.read_more.new.buffer) _ _ _ taken.more c.loop-length.invariant.filling needs
    (record { given = taken.consumed; counted = c.in_err-read_more.ensures.counted }) taken.grown

pub returns-in_err-read_more-clause-untouched : goal.returns-in_err-read_more-clause-untouched
returns-in_err-read_more-clause-untouched g c = λ no.
    let before = c.loop-length.invariant.taken in
    let needs : NeedsMore (held c.loop-length.buffer) = record {
      short = rw c.held-held.ensures at c.if-held-ge-MAX_HEAD.false;
      none = rw c.held-held.ensures at (c.in_default.ensures.none refl);
    } in
    absurd (no (needs_before (held c.args.buffer.now) before.more (rw (sym before.grown) needs)))

pub returns-in-Some-clause-needed : goal.returns-in-Some-clause-needed
returns-in-Some-clause-needed g c = filling_done _ _ _ _ _ _ _ c.loop-length.invariant.filling

pub returns-then-held-ge-MAX_HEAD-clause-needed : goal.returns-then-held-ge-MAX_HEAD-clause-needed
returns-then-held-ge-MAX_HEAD-clause-needed g c = filling_done _ _ _ _ _ _ _ c.loop-length.invariant.filling
