use Rattle.std.proofs.Common.{rules, ◌≡◌, length, take, ◌+◌, w64, pos, ◌+ℤ◌, ◌*ℤ◌, ◌≤ℤ◌, FitsSigned, get_or, arith, negsuc, ap, ◌∙◌, sym, take_all}
use Rattle.std.proofs.lemmas.Int.{ints}
use Rattle.parent_rule.specs.Combined.{rounded_mean, int_sum, mean_of_sum}
use Rattle.parent_rule.proofs.Sums.{int_sum_more, mean_fits}
use Rattle.parent_rule.proofs.mean.mean_of.Goals.{After-divided}
use Rattle.parent_rule.proofs.mean.mean_of.Goals as goal

pub loop-x-preserved : goal.loop-x-preserved
loop-x-preserved c =
    let more : int_sum (take (c.loop-x.x-index + 1) c.args.kept.now) ≡ int_sum (take c.loop-x.x-index c.args.kept.now) +ℤ get_or c.args.kept.now c.loop-x.x-index (pos 0) = int_sum_more c.args.kept.now c.loop-x.x-index (pos 0) (omega arith) in
    let fits : FitsSigned w64 (get_or c.args.kept.now c.loop-x.x-index (pos 0)) = search rules in
    record {
      sum = omega (arith, ints);
      low = omega (arith, ints);
      high = omega (arith, ints);
    }

-- the mean of the sum after the loop
the_mean : (c : After-divided) → c.divided.result ≡ mean_of_sum c.loop-x.sum (length c.args.kept.now)
the_mean c = c.divided.ensures ∙ ap (λ sum. mean_of_sum sum (length c.args.kept.now)) c.loop-x.sum-is

the_fit : (c : After-divided) → FitsSigned w64 c.divided.result
the_fit c =
    let all : c.loop-x.x-index ≡ length c.args.kept.now = omega arith in
    let low : (pos (length c.args.kept.now) *ℤ negsuc 9_223_372_036_854_775_807) ≤ℤ c.loop-x.sum = omega (arith, ints) in
    let high : c.loop-x.sum ≤ℤ (pos (length c.args.kept.now) *ℤ pos 9_223_372_036_854_775_807) = omega (arith, ints) in
    rw (the_mean c) (mean_fits c.loop-x.sum (length c.args.kept.now) c.requires.some low high)

pub overflow_cast-result : goal.overflow_cast-result
overflow_cast-result c =
    let fit : FitsSigned w64 c.divided.result = the_fit c in
    omega (arith, ints)

pub returns : goal.returns
returns c =
    let fit : FitsSigned w64 c.divided.result = the_fit c in
    let all : take c.loop-x.x-index c.args.kept.now ≡ c.args.kept.now = take_all c.loop-x.x-index c.args.kept.now c.loop-x-test.false in
    let total : c.loop-x.sum ≡ int_sum c.args.kept.now = sym c.loop-x.sum-is ∙ c.loop-x.invariant.sum ∙ ap int_sum all in
    let mean : c.divided.result ≡ rounded_mean c.args.kept.now = the_mean c ∙ ap (λ s. mean_of_sum s (length c.args.kept.now)) total in
    omega (arith, ints)
