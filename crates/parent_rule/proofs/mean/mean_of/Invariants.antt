-- The sum so far is that of the numbers so far, and each of them is a number of 64 bits.
use Rattle.std.proofs.Common.{◌≡◌, take, pos, negsuc, ◌*ℤ◌, ◌≤ℤ◌}
use Rattle.parent_rule.specs.Combined.{int_sum}
use Rattle.parent_rule.proofs.mean.mean_of.Given as goal

abbrev pub invariant-loop-x : goal.invariant-loop-x
invariant-loop-x l = record {
  sum : l.sum ≡ int_sum (take l.x-index l.kept);
  low : (pos l.x-index *ℤ negsuc 9_223_372_036_854_775_807) ≤ℤ l.sum;
  high : l.sum ≤ℤ (pos l.x-index *ℤ pos 9_223_372_036_854_775_807);
}
