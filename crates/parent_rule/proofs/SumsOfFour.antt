-- The mean of a sum of up to four numbers, by a division of that sum.
use Rattle.std.proofs.Common.{◌≡◌, ◌≢◌, ℕ, zero, suc, ◌-◌, ◌*◌, ◌<◌, ◌≤◌, Bool, false, IsTrue, ◌↔◌, refl, arith, ℤ, pos, negsuc, ◌+ℤ◌, ◌*ℤ◌, ◌≤ℤ◌, ◌<ℤ◌}
use Rattle.std.proofs.lemmas.Int.{ints}
use Rattle.std.specs.Prelude.{int_div}
use Rattle.parent_rule.specs.Kept.{IsMean}

pub natural_sum : {a b : ℤ} → pos 0 ≤ℤ a → pos 0 ≤ℤ b → pos 0 ≤ℤ (a +ℤ b)
natural_sum first second = omega (arith, ints)

pub lt-le : {a b : ℤ} → a <ℤ b → a ≤ℤ b
lt-le below = omega (arith, ints)

pub few_fit : (k n : ℕ) → k ≤ 4 → 0 < n → pos k ≤ℤ pos (4 * n)
few_fit k n few some = omega (arith, ints)

pub differs : {P : Type 0} (b : Bool) → (IsTrue b ↔ P) → b ≡ false → ¬ P
differs b says is = λ holds. let e : IsTrue b = says.1 holds in cc

-- a sum of up to four numbers below n, and up to 3 more
pub below_four : (n : ℕ) (sum count : ℤ) (k : ℕ) → k ≤ 3 → 0 < n → pos 0 ≤ℤ count → count ≤ℤ pos 4 → sum ≤ℤ (pos (n - 1) *ℤ count) → (sum +ℤ pos k) <ℤ pos (4 * n)
below_four n sum (negsuc c) k few some natural four most = absurd (omega (arith, ints))
below_four n sum (pos zero) k few some natural four most = omega (arith, ints)
below_four n sum (pos (suc zero)) k few some natural four most = omega (arith, ints)
below_four n sum (pos (suc (suc zero))) k few some natural four most = omega (arith, ints)
below_four n sum (pos (suc (suc (suc zero)))) k few some natural four most = omega (arith, ints)
below_four n sum (pos (suc (suc (suc (suc zero))))) k few some natural four most = omega (arith, ints)
below_four n sum (pos (suc (suc (suc (suc (suc c)))))) k few some natural four most = absurd (omega (arith, ints))

pub mean_of_four : (n : ℕ) (sum count mean : ℤ) → pos 0 ≤ℤ sum → count ≡ pos 4 → sum ≤ℤ (pos (n - 1) *ℤ count) → 0 < n → mean ≡ int_div (sum +ℤ pos 2) (pos 4) → IsMean n sum count mean
mean_of_four n (negsuc s) count mean low is room some at = absurd (omega (arith, ints))
mean_of_four n (pos s) count mean low is room some at = rw (is, at) (record {
  is = λ _. omega (arith, ints);
  below = let most : pos s ≤ℤ (pos (n - 1) *ℤ pos 4) = rw is at room in omega (arith, ints);
})

pub mean_of_three : (n : ℕ) (sum count mean : ℤ) → pos 0 ≤ℤ sum → count ≡ pos 3 → sum ≤ℤ (pos (n - 1) *ℤ count) → 0 < n → mean ≡ int_div (sum +ℤ pos 1) (pos 3) → IsMean n sum count mean
mean_of_three n (negsuc s) count mean low is room some at = absurd (omega (arith, ints))
mean_of_three n (pos s) count mean low is room some at = rw (is, at) (record {
  is = λ _. omega (arith, ints);
  below = let most : pos s ≤ℤ (pos (n - 1) *ℤ pos 3) = rw is at room in omega (arith, ints);
})

pub mean_of_two : (n : ℕ) (sum count mean : ℤ) → pos 0 ≤ℤ sum → count ≡ pos 2 → sum ≤ℤ (pos (n - 1) *ℤ count) → 0 < n → mean ≡ int_div (sum +ℤ pos 1) (pos 2) → IsMean n sum count mean
mean_of_two n (negsuc s) count mean low is room some at = absurd (omega (arith, ints))
mean_of_two n (pos s) count mean low is room some at = rw (is, at) (record {
  is = λ _. omega (arith, ints);
  below = let most : pos s ≤ℤ (pos (n - 1) *ℤ pos 2) = rw is at room in omega (arith, ints);
})

pub mean_of_rest : (n : ℕ) (sum count : ℤ) → pos 0 ≤ℤ sum → pos 0 ≤ℤ count → count ≤ℤ pos 4 → count ≢ pos 4 → count ≢ pos 3 → count ≢ pos 2 → sum ≤ℤ (pos (n - 1) *ℤ count) → 0 < n → IsMean n sum count sum
mean_of_rest n (negsuc s) count low natural four e4 e3 e2 room some = absurd (omega (arith, ints))
mean_of_rest n (pos s) (negsuc k) low natural four e4 e3 e2 room some = absurd (omega (arith, ints))
mean_of_rest n (pos s) (pos zero) low natural four e4 e3 e2 room some = record {
  is = λ none. absurd (omega (arith, ints));
  below = omega (arith, ints);
}
mean_of_rest n (pos s) (pos (suc zero)) low natural four e4 e3 e2 room some = record {
  is = λ _. omega (arith, ints);
  below = omega (arith, ints);
}
mean_of_rest n (pos s) (pos (suc (suc zero))) low natural four e4 e3 e2 room some = absurd (e2 refl)
mean_of_rest n (pos s) (pos (suc (suc (suc zero)))) low natural four e4 e3 e2 room some = absurd (e3 refl)
mean_of_rest n (pos s) (pos (suc (suc (suc (suc zero))))) low natural four e4 e3 e2 room some = absurd (e4 refl)
mean_of_rest n (pos s) (pos (suc (suc (suc (suc (suc k)))))) low natural four e4 e3 e2 room some = absurd (omega (arith, ints))
