-- A sum that a loop takes number by number.
use Rattle.std.proofs.Common.{◌≡◌, ℕ, ◌+◌, ◌<◌, List, [], ◌∷◌, ◌++◌, length, take, get_or, arith, ℤ, pos, negsuc, ◌+ℤ◌, ◌*ℤ◌, ◌≤ℤ◌, FitsSigned, w64}
use Rattle.std.proofs.lemmas.Int.{ints}
use Rattle.std.proofs.lemmas.List.{take_more}
use Rattle.parent_rule.specs.Combined.{int_sum, mean_of_sum}
use Rattle.parent_rule.specs.CombinedLaws.{mean_of_sum-low, mean_of_sum-high}

int_sum-push : (vs : List ℤ) (v : ℤ) → int_sum (vs ++ v ∷ []) ≡ int_sum vs +ℤ v
int_sum-push [] v = omega (arith, ints)
int_sum-push (w ∷ vs) v = omega (arith, ints, int_sum-push vs v)

pub int_sum_more : (vs : List ℤ) (i : ℕ) (d : ℤ) → i < length vs → int_sum (take (i + 1) vs) ≡ int_sum (take i vs) +ℤ get_or vs i d
int_sum_more vs i d h = rw (take_more vs i d h) (int_sum-push (take i vs) (get_or vs i d))

-- the mean of a sum of numbers of 64 bits is a number of 64 bits
pub mean_fits : (sum : ℤ) (n : ℕ) → 0 < n → (pos n *ℤ negsuc 9_223_372_036_854_775_807) ≤ℤ sum → sum ≤ℤ (pos n *ℤ pos 9_223_372_036_854_775_807) → FitsSigned w64 (mean_of_sum sum n)
mean_fits sum n some low high =
    let least : negsuc 9_223_372_036_854_775_807 ≤ℤ mean_of_sum sum n = mean_of_sum-low sum (negsuc 9_223_372_036_854_775_807) n some low in
    let greatest : mean_of_sum sum n ≤ℤ pos 9_223_372_036_854_775_807 = mean_of_sum-high sum (pos 9_223_372_036_854_775_807) n some high in
    omega (arith, ints)
