use Rattle.std.proofs.Common.{arith, refl, sym, ap, ◌≡◌, ◌+◌, ◌<◌, ◌∙◌, [], length, take, length-append}
use Rattle.std.proofs.lemmas.List.{length-take-le, append-nil}
use Rattle.http_frame.specs.Frame.{IsShort}
use Rattle.http_frame.proofs.Fills.{takes_both, consumes_none}
use Rattle.http_frame.proofs.ReadingSteps.{filling_more, filling_last}
use Rattle.http_frame.proofs.fill.fill_behind.Goals as goal

pub returns-in-Ok-eq0-clause-cut : goal.returns-in-Ok-eq0-clause-cut
returns-in-Ok-eq0-clause-cut g c = λ _.
    let zero : c.in-Ok-eq0.field-0 ≡ 0 = omega (arith, c.in-Ok-eq0.field-0-test) in
    let taken = length-take-le (c.loop-at.at + c.in-Ok-eq0.field-0) c.read_behind.new.bytes c.in-Ok-eq0.ensures.within in
    record {
      all = take (c.loop-at.at + c.in-Ok-eq0.field-0) c.read_behind.new.bytes;
      taken = takes_both _ _ _ _ _ _ c.loop-at.invariant.taken c.in-Ok-eq0.ensures.read;
      short = omega (arith, taken, zero, c.read_behind.ensures.len, c.loop-at.invariant.len, c.loop-at-test.true);
      end = c.in-Ok-eq0.ensures.end (rw zero refl);
    }

pub returns-in-Ok-eq0-clause-needed : goal.returns-in-Ok-eq0-clause-needed
returns-in-Ok-eq0-clause-needed g c =
    let read = c.in-Ok-eq0.ensures.read in
    let held = length-take-le c.loop-at.at c.loop-at.out c.loop-at.invariant.within in
    let short : IsShort (length c.args.out.now) (take c.loop-at.at c.loop-at.out) = omega (arith, held, c.loop-at-test.true, c.loop-at.invariant.len) in
    let last =
    filling_last _ _ _ (take c.args.start c.args.out.now) (take c.loop-at.at c.loop-at.out) (take (c.loop-at.at + c.in-Ok-eq0.field-0) c.read_behind.new.bytes) _ _ _
    read.more c.loop-at.invariant.filling short (record { given = read.consumed; counted = c.read_behind.ensures.counted }) read.grown in
    let zero : c.in-Ok-eq0.field-0 ≡ 0 = omega (arith, c.in-Ok-eq0.field-0-test) in
    let taken = length-take-le (c.loop-at.at + c.in-Ok-eq0.field-0) c.read_behind.new.bytes c.in-Ok-eq0.ensures.within in
    (last.0, last.1, λ no. cc, λ _. omega (arith, ap length last.2, taken, zero, c.loop-at.invariant.len, c.loop-at-test.true))

pub loop-at-preserved : goal.loop-at-preserved
loop-at-preserved g c =
    let read = c.in-Ok.ensures.read in
    let held = length-take-le c.loop-at.at c.loop-at.out c.loop-at.invariant.within in
    let held' = length-take-le (c.loop-at.at + c.in-Ok.count) c.read_behind.new.bytes c.in-Ok.ensures.within in
    let short : IsShort (length c.args.out.now) (take c.loop-at.at c.loop-at.out) = omega (arith, held, c.loop-at-test.true, c.loop-at.invariant.len) in
    let some : 0 < length read.more = omega (arith, held, held', ap length read.grown, length-append (take c.loop-at.at c.loop-at.out) read.more, c.in-Ok.count-test) in
    record {
      within = c.in-Ok.ensures.within;
      taken = takes_both _ _ _ _ _ _ c.loop-at.invariant.taken read;
      filling =
          filling_more _ _ _ (take c.args.start c.args.out.now) (take c.loop-at.at c.loop-at.out) (take (c.loop-at.at + c.in-Ok.count) c.read_behind.new.bytes) _ _ _
          read.more c.loop-at.invariant.filling short (record { given = read.consumed; counted = c.read_behind.ensures.counted }) read.grown some;
      faults = c.in-Ok.ensures.faults ∙ c.loop-at.invariant.faults;
      len = c.read_behind.ensures.len ∙ c.loop-at.invariant.len;
    }

pub returns-in-Err-clause-needed : goal.returns-in-Err-clause-needed
returns-in-Err-clause-needed g c =
    let held = length-take-le c.loop-at.at c.loop-at.out c.loop-at.invariant.within in
    let short : IsShort (length c.args.out.now) (take c.loop-at.at c.loop-at.out) = omega (arith, held, c.loop-at-test.true, c.loop-at.invariant.len) in
    let last =
    filling_last _ _ _ (take c.args.start c.args.out.now) (take c.loop-at.at c.loop-at.out) (take c.loop-at.at c.read_behind.new.bytes) _ _ _
    [] c.loop-at.invariant.filling short
    (record { given = rw c.in-Err.ensures.kept (consumes_none (g.S.Source.left c.loop-at.src)); counted = c.read_behind.ensures.counted })
    (c.read_behind.ensures.front ∙ sym (append-nil (take c.loop-at.at c.loop-at.out))) in
    let same : length (take c.loop-at.at c.read_behind.new.bytes) ≡ c.loop-at.at = rw c.read_behind.ensures.front held in
    (last.0, last.1, λ no. cc, λ _. omega (arith, ap length last.2, same, c.loop-at-test.true, c.loop-at.invariant.len))
