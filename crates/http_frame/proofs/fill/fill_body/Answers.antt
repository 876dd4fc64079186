use Rattle.std.proofs.Common.{arith, [], length, inr, sym, ap, ◌∙◌, length-append}
use Rattle.std.proofs.lemmas.List.{append-nil}
use Rattle.survey_link.specs.Inbox.{held}
use Rattle.http_frame.specs.Frame.{IsShort}
use Rattle.http_frame.proofs.Fills.{consumes_none, takes_both}
use Rattle.http_frame.proofs.ReadingSteps.{filling_more, filling_last, filling_done}
use Rattle.http_frame.proofs.fill.fill_body.Goals as goal

pub loop-buffer-preserved : goal.loop-buffer-preserved
loop-buffer-preserved g c =
    let before = c.loop-buffer.invariant in
    let read = c.in-Ok.ensures.read in
    let short : IsShort c.args.count (held c.loop-buffer.buffer) = rw c.held.ensures at c.loop-buffer-test.true in
    let longer = ap length before.taken.grown in
    record {
      taken = takes_both (held c.args.buffer.now) (held c.loop-buffer.buffer) (held c.read.new.self) _ _ _ before.taken (record { more = read.0; grown = read.2; consumed = read.3 });
      filling = filling_more _ _ _ (held c.args.buffer.now) (held c.loop-buffer.buffer) (held c.read.new.self) _ _ _ read.0 before.filling short
          (record { given = read.3; counted = c.read.ensures.counted }) read.2 (omega (arith, read.1, c.if-read-eq0.false));
      exact = inr c.read.ensures.limit;
      untouched = λ whole. absurd (omega (arith, whole, short, longer, length-append (held c.args.buffer.now) before.taken.more));
      faults = c.in-Ok.ensures.faults ∙ before.faults;
      start = c.read.ensures.start ∙ before.start;
      size = c.read.ensures.size ∙ before.size;
    }

pub returns-then-read-eq0-clause-needed : goal.returns-then-read-eq0-clause-needed
returns-then-read-eq0-clause-needed g c =
    let read = c.in-Ok.ensures.read in
    let short : IsShort c.args.count (held c.loop-buffer.buffer) = rw c.held.ensures at c.loop-buffer-test.true in
    filling_last _ _ _ (held c.args.buffer.now) (held c.loop-buffer.buffer) (held c.read.new.self) _ _ _ read.0 c.loop-buffer.invariant.filling short
    (record { given = read.3; counted = c.read.ensures.counted }) read.2

pub returns-in-Err-clause-needed : goal.returns-in-Err-clause-needed
returns-in-Err-clause-needed g c =
    let short : IsShort c.args.count (held c.loop-buffer.buffer) = rw c.held.ensures at c.loop-buffer-test.true in
    filling_last _ _ _ (held c.args.buffer.now) (held c.loop-buffer.buffer) (held c.read.new.self) _ _ _ [] c.loop-buffer.invariant.filling short
    (record { given = rw c.in-Err.ensures.kept.1 (consumes_none (g.S.Source.left c.loop-buffer.src)); counted = c.read.ensures.counted })
    (c.in-Err.ensures.kept.0 ∙ sym (append-nil (held c.loop-buffer.buffer)))

pub returns-clause-needed : goal.returns-clause-needed
returns-clause-needed g c = filling_done _ _ _ _ _ _ _ c.loop-buffer.invariant.filling
