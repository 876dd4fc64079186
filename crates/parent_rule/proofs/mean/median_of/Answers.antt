use Rattle.std.proofs.Common.{◌≡◌, slice_index_or, w64, to_z, of_z, ℤ, pos, arith, FitsSigned, rules}
use Rattle.std.specs.Int.{int_min, int_max}
use Rattle.std.proofs.lemmas.Int.{to_z-of_z}
use Rattle.parent_rule.specs.Combined.{lower_median}
use Rattle.parent_rule.proofs.Medians.{median_of_list_of_three, median_of_list_of_four}
use Rattle.parent_rule.proofs.mean.median_of.Goals as goal

-- a number of 64 bits comes back from its bits
back : (z : ℤ) → FitsSigned w64 z → to_z w64 (of_z w64 z) ≡ z
back z fits = to_z-of_z w64 z fits

pub returns-in-len3 : goal.returns-in-len3
returns-in-len3 c = λ blank.
    let vs = c.args.kept.now in
    let median : int_max (int_min (slice_index_or vs 1 (pos 0)) (slice_index_or vs 2 (pos 0))) (int_min (slice_index_or vs 0 (pos 0)) (int_max (slice_index_or vs 1 (pos 0)) (slice_index_or vs 2 (pos 0)))) ≡ lower_median blank vs = median_of_list_of_three vs blank (omega arith) in
    let first : to_z w64 (of_z w64 (slice_index_or vs 0 (pos 0))) ≡ slice_index_or vs 0 (pos 0) = back _ (search rules) in
    let second : to_z w64 (of_z w64 (slice_index_or vs 1 (pos 0))) ≡ slice_index_or vs 1 (pos 0) = back _ (search rules) in
    let third : to_z w64 (of_z w64 (slice_index_or vs 2 (pos 0))) ≡ slice_index_or vs 2 (pos 0) = back _ (search rules) in
    let least : to_z w64 (of_z w64 c.min-in-len3.result) ≡ c.min-in-len3.result = back _ (search rules) in
    let greatest : to_z w64 (of_z w64 c.max.result) ≡ c.max.result = back _ (search rules) in
    let result : to_z w64 (of_z w64 c.clamp.result) ≡ c.clamp.result = back _ (search rules) in
    cc

pub returns-in-len4 : goal.returns-in-len4
returns-in-len4 c = λ blank.
    let vs = c.args.kept.now in
    let median : int_max (int_min (slice_index_or vs 1 (pos 0)) (int_min (slice_index_or vs 2 (pos 0)) (slice_index_or vs 3 (pos 0)))) (int_min (slice_index_or vs 0 (pos 0)) (int_max (int_min (slice_index_or vs 2 (pos 0)) (slice_index_or vs 3 (pos 0))) (int_min (slice_index_or vs 1 (pos 0)) (int_max (slice_index_or vs 2 (pos 0)) (slice_index_or vs 3 (pos 0)))))) ≡ lower_median blank vs = median_of_list_of_four vs blank (omega arith) in
    let first : to_z w64 (of_z w64 (slice_index_or vs 0 (pos 0))) ≡ slice_index_or vs 0 (pos 0) = back _ (search rules) in
    let second : to_z w64 (of_z w64 (slice_index_or vs 1 (pos 0))) ≡ slice_index_or vs 1 (pos 0) = back _ (search rules) in
    let third : to_z w64 (of_z w64 (slice_index_or vs 2 (pos 0))) ≡ slice_index_or vs 2 (pos 0) = back _ (search rules) in
    let fourth : to_z w64 (of_z w64 (slice_index_or vs 3 (pos 0))) ≡ slice_index_or vs 3 (pos 0) = back _ (search rules) in
    let low : to_z w64 (of_z w64 c.min-low.result) ≡ c.min-low.result = back _ (search rules) in
    let high : to_z w64 (of_z w64 c.max-high.result) ≡ c.max-high.result = back _ (search rules) in
    let least : to_z w64 (of_z w64 c.min-in-len4.result) ≡ c.min-in-len4.result = back _ (search rules) in
    let greatest : to_z w64 (of_z w64 c.clamp-in-len4.result) ≡ c.clamp-in-len4.result = back _ (search rules) in
    let result : to_z w64 (of_z w64 c.clamp-in-len4-2.result) ≡ c.clamp-in-len4-2.result = back _ (search rules) in
    cc
