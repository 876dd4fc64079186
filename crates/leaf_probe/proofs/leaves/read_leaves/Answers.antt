use Rattle.std.proofs.Common.{◌≡◌, ◌*◌, ◌/◌, ◌^◌, [], drop, length, Some, Ok, ap, ◌∙◌, arith, rules, take_at}
use Rattle.std.proofs.lemmas.Result.{err_from_is_err_and}
use Rattle.leaf_probe.specs.Probe.{shape_of, leaves_read}
use Rattle.leaf_probe.specs.Reading.{empty_readings}
use Rattle.leaf_probe.specs.Records.{record_length}
use Rattle.leaf_probe.proofs.ReadLemmas.{few_numbers}
use Rattle.leaf_probe.proofs.PieceLemmas.{reads_then, reads_piece, reads_refused}
use Rattle.leaf_probe.proofs.MergingLemmas.{leaves_level}
use Rattle.leaf_probe.proofs.LeavesLemmas.{ReadSoFar, step, at_end, at_more, at_stop, some_left, none_left, keeps_more, counts_more}
use Rattle.leaf_probe.proofs.leaves.read_leaves.Goals as goal

pub pow-requires : goal.pow-requires
pow-requires g c =
    let same : 4 ^ c.from.result ≡ 4 ^ c.args.asked.now.n = ap (λ n. 4 ^ n) c.from.ensures in
    omega (arith, few_numbers c.args.asked.now.n c.requires.greatest_n)

pub overflow_mul-pow : goal.overflow_mul-pow
overflow_mul-pow g c =
    let same : 4 ^ c.from.result ≡ 4 ^ c.args.asked.now.n = ap (λ n. 4 ^ n) c.from.ensures in
    omega (arith, few_numbers c.args.asked.now.n c.requires.greatest_n)

pub returns-in_err-next_record-clause-refused : goal.returns-in_err-next_record-clause-refused
returns-in_err-next_record-clause-refused g c = λ input e.
    let so = c.loop-count.invariant.told input e in
    let p = err_from_is_err_and c.from_residual-in_err-next_record.result c.from_residual-in_err-next_record.ensures.1 in
    rw (p.1, p.2) (at_stop c.args.asked.now.top c.args.asked.now.n input c.loop-count._count _ c.in_err-next_record.field-0.0 so c.loop-count-test.true (c.in_err-next_record.ensures.stopped _ so.rest))

pub returns-in_err-next_record-clause-reads : goal.returns-in_err-next_record-clause-reads
returns-in_err-next_record-clause-reads g c =
    let p = err_from_is_err_and c.from_residual-in_err-next_record.result c.from_residual-in_err-next_record.ensures.1 in
    rw (p.1, p.2) (reads_then (empty_readings c.in_err-next_record.field-0.0) _ _ _ _ _ _ c.loop-count.invariant.reads c.in_err-next_record.ensures.reads)

pub returns-in-None-clause-whole : goal.returns-in-None-clause-whole
returns-in-None-clause-whole g c = λ input e.
    let so = c.loop-count.invariant.told input e in
    let none : drop (c.loop-count._count * record_length c.args.asked.now.n) input ≡ [] = rw c.in-None.is at c.in_ok-next_record.ensures.told _ so.rest in
    (at_end c.args.asked.now.top c.args.asked.now.n input c.loop-count._count _ so (omega arith) (so.rest ∙ ap Some none)).0

pub returns-in-None-clause-leaves : goal.returns-in-None-clause-leaves
returns-in-None-clause-leaves g c = λ input e.
    let so = c.loop-count.invariant.told input e in
    let none : drop (c.loop-count._count * record_length c.args.asked.now.n) input ≡ [] = rw c.in-None.is at c.in_ok-next_record.ensures.told _ so.rest in
    let all : c.loop-count._count ≡ length input / record_length c.args.asked.now.n = (at_end c.args.asked.now.top c.args.asked.now.n input c.loop-count._count _ so (omega arith) (so.rest ∙ ap Some none)).1 in
    leaves_level (shape_of c.args.asked.now) (leaves_read c.args.asked.now input) c.args.asked.now.order c.args.asked.now.npix c.loop-count.leaves.entries c.requires.greatest_n
    c.loop-count.invariant.tiles c.loop-count.invariant.sizes (rw all at c.loop-count.invariant.keeps input e)

pub returns-in-None-clause-counted : goal.returns-in-None-clause-counted
returns-in-None-clause-counted g c = λ input e.
    let so = c.loop-count.invariant.told input e in
    let none : drop (c.loop-count._count * record_length c.args.asked.now.n) input ≡ [] = rw c.in-None.is at c.in_ok-next_record.ensures.told _ so.rest in
    let all : c.loop-count._count ≡ length input / record_length c.args.asked.now.n = (at_end c.args.asked.now.top c.args.asked.now.n input c.loop-count._count _ so (omega arith) (so.rest ∙ ap Some none)).1 in
    rw all at c.loop-count.invariant.counted input e

pub returns-in-None-clause-reads : goal.returns-in-None-clause-reads
returns-in-None-clause-reads g c = reads_then 1 _ _ _ _ _ _ c.loop-count.invariant.reads (rw c.in-None.is at c.in_ok-next_record.ensures.reads)

pub returns-in_err-keep-in-Some-clause-reads : goal.returns-in_err-keep-in-Some-clause-reads
returns-in_err-keep-in-Some-clause-reads g c =
    let p = err_from_is_err_and c.from_residual-in_err-keep-in-Some.result c.from_residual-in_err-keep-in-Some.ensures.1 in
    rw (p.1, p.2) (reads_then 0 _ _ _ _ _ _ c.loop-count.invariant.reads (rw c.in-Some.is at c.in_ok-next_record.ensures.reads))

pub loop-count-preserved : goal.loop-count-preserved
loop-count-preserved g c = record {
  told = λ input e.
      let so = c.loop-count.invariant.told input e in
      let taken = rw c.in-Some.is at c.in_ok-next_record.ensures.told _ so.rest in
      step c.args.asked.now.top c.args.asked.now.n input c.loop-count._count c.in-Some.leaf _ _ _ so taken (rw c.in-Some.is at c.in_ok-next_record.ensures.leaf);
  keeps = λ input e.
      let so = c.loop-count.invariant.told input e in
      let taken = rw c.in-Some.is at c.in_ok-next_record.ensures.told _ so.rest in
      let raw_is : c.deref.result.now ≡ c.next_record.new.raw = c.deref.ensures.value ∙ take_at c.next_record.new.raw _ c.loop-count.raw.len (search rules) in
      keeps_more c.args.asked.now input c.loop-count._count c.in-Some.leaf _ _ c.loop-count.leaves.entries _ taken (rw raw_is at c.in_ok-keep-in-Some.ensures.kept) (c.loop-count.invariant.keeps input e);
  counted = λ input e.
      let so = c.loop-count.invariant.told input e in
      let taken = rw c.in-Some.is at c.in_ok-next_record.ensures.told _ so.rest in
      counts_more c.args.asked.now input c.loop-count._count c.in-Some.leaf _ _ _ _ _ taken c.in_ok-keep-in-Some.ensures.counted (c.loop-count.invariant.counted input e);
  tiles = c.in_ok-keep-in-Some.ensures.tiles;
  sizes = c.in_ok-keep-in-Some.ensures.sizes;
  room = search rules;
  reads = reads_then 0 _ _ _ _ _ _ c.loop-count.invariant.reads (rw c.in-Some.is at c.in_ok-next_record.ensures.reads);
  faults = c.in_ok-next_record.ensures.faults ∙ c.loop-count.invariant.faults;
  steps = omega arith;
}

pub returns-in_err-read-clause-reads : goal.returns-in_err-read-clause-reads
returns-in_err-read-clause-reads g c =
    let p = err_from_is_err_and c.from_residual-in_err-read.result c.from_residual-in_err-read.ensures.1 in
    rw (p.1, p.2) (reads_then 1 _ _ _ _ _ _ c.loop-count.invariant.reads (reads_refused _ _ _ _ c.in_err-read.ensures.kept c.in_err-read.ensures.counted))

pub returns-then-branch-gt0-clause-refused : goal.returns-then-branch-gt0-clause-refused
returns-then-branch-gt0-clause-refused g c = λ input e.
    let so = c.loop-count.invariant.told input e in
    let all : c.loop-count._count ≡ 65536 = omega arith in
    let full : ReadSoFar c.args.asked.now.top c.args.asked.now.n input 65536 (g.S.Source.left c.loop-count.source) = rw all at so in
    at_more c.args.asked.now.top c.args.asked.now.n input _ full (some_left _ _ _ _ _ full.rest c.in_ok-read.ensures.taken c.if-branch-gt0.true (rw c.read.auto.buf c.in_ok-read.ensures.count))

pub returns-then-branch-gt0-clause-reads : goal.returns-then-branch-gt0-clause-reads
returns-then-branch-gt0-clause-reads g c =
    reads_then 0 _ _ _ _ _ _ c.loop-count.invariant.reads
    (reads_piece _ _ _ _ _ _ c.in_ok-read.ensures.taken c.if-branch-gt0.true (rw c.read.auto.buf c.in_ok-read.ensures.count) c.in_ok-read.ensures.counted)

pub returns-clause-whole : goal.returns-clause-whole
returns-clause-whole g c = λ input e.
    let so = c.loop-count.invariant.told input e in
    let zero : c.in_ok-read.field-0 ≡ 0 = omega arith in
    let none : drop (c.loop-count._count * record_length c.args.asked.now.n) input ≡ [] = none_left _ _ _ _ _ so.rest c.in_ok-read.ensures.taken zero (c.in_ok-read.ensures.end (ap (λ m. Ok m) zero)) in
    (at_end c.args.asked.now.top c.args.asked.now.n input c.loop-count._count _ so (omega arith) (so.rest ∙ ap Some none)).0

pub returns-clause-leaves : goal.returns-clause-leaves
returns-clause-leaves g c = λ input e.
    let so = c.loop-count.invariant.told input e in
    let zero : c.in_ok-read.field-0 ≡ 0 = omega arith in
    let none : drop (c.loop-count._count * record_length c.args.asked.now.n) input ≡ [] = none_left _ _ _ _ _ so.rest c.in_ok-read.ensures.taken zero (c.in_ok-read.ensures.end (ap (λ m. Ok m) zero)) in
    let all : c.loop-count._count ≡ length input / record_length c.args.asked.now.n = (at_end c.args.asked.now.top c.args.asked.now.n input c.loop-count._count _ so (omega arith) (so.rest ∙ ap Some none)).1 in
    leaves_level (shape_of c.args.asked.now) (leaves_read c.args.asked.now input) c.args.asked.now.order c.args.asked.now.npix c.loop-count.leaves.entries c.requires.greatest_n
    c.loop-count.invariant.tiles c.loop-count.invariant.sizes (rw all at c.loop-count.invariant.keeps input e)

pub returns-clause-counted : goal.returns-clause-counted
returns-clause-counted g c = λ input e.
    let so = c.loop-count.invariant.told input e in
    let zero : c.in_ok-read.field-0 ≡ 0 = omega arith in
    let none : drop (c.loop-count._count * record_length c.args.asked.now.n) input ≡ [] = none_left _ _ _ _ _ so.rest c.in_ok-read.ensures.taken zero (c.in_ok-read.ensures.end (ap (λ m. Ok m) zero)) in
    let all : c.loop-count._count ≡ length input / record_length c.args.asked.now.n = (at_end c.args.asked.now.top c.args.asked.now.n input c.loop-count._count _ so (omega arith) (so.rest ∙ ap Some none)).1 in
    rw all at c.loop-count.invariant.counted input e
