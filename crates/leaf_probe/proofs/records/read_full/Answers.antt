use Rattle.std.proofs.Common.{rules, arith, ◌≡◌, true, length}
use Rattle.std.specs.Prelude.{nat_lt}
use Rattle.std.proofs.lemmas.Bool.Decides.{nat_tests}
use Rattle.leaf_probe.proofs.PieceLemmas.{reads_then, reads_piece, reads_end}
use Rattle.leaf_probe.proofs.ReadLemmas.{filled_more}
use Rattle.leaf_probe.proofs.records.read_full.Goals as goal

pub loop-filled-preserved : goal.loop-filled-preserved
loop-filled-preserved g c = record {
  same_length = search rules;
  within = search rules;
  taken = filled_more _ _ _ _ _ _ _ _ c.loop-filled.invariant.within (search rules) c.loop-filled.invariant.taken c.in_ok-count.ensures.taken;
  reads = reads_then 0 _ _ _ _ _ _ c.loop-filled.invariant.reads (reads_piece _ _ _ _ _ _ c.in_ok-count.ensures.taken (search rules) (search rules) c.in_ok-count.ensures.counted);
  faults = search rules;
}

pub returns-then-count-eq0-clause-reads : goal.returns-then-count-eq0-clause-reads
returns-then-count-eq0-clause-reads g c =
    let part : nat_lt c.loop-filled.filled (length c.args.buf.now) ≡ true = grind (arith, nat_tests) in
    rw part (reads_then 1 _ _ _ _ _ _ c.loop-filled.invariant.reads (reads_end _ _ _ _ _ _ c.in_ok-count.ensures.taken c.if-count-eq0.true c.in_ok-count.ensures.counted))
