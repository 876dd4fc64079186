-- Numbers of a few digits.
use Rattle.std.proofs.Common.{◌≡◌, ℕ, ◌+◌, ◌*◌, ◌^◌, ◌<◌, ◌≤◌, ap, ◌∙◌, arith, add-one, pow-suc}
use Rattle.std.proofs.Math.Nat.{pow-le-pow_right, mul-le-mul_right}
use Rattle.std.proofs.lemmas.Nat.{pow-add}

-- a number of `count` digits, and then `zeros` zeros and another digit
pub more_digits : (value count zeros digit : ℕ) → value < 10 ^ count → digit < 10 → value * 10 ^ (zeros + 1) + digit < 10 ^ (count + (zeros + 1))
more_digits value count zeros digit small below =
    let split : 10 ^ (count + (zeros + 1)) ≡ 10 ^ count * 10 ^ (zeros + 1) = pow-add 10 count (zeros + 1) in
    let ten : 10 ^ (zeros + 1) ≡ 10 ^ zeros * 10 = ap (λ (n : ℕ). 10 ^ n) (add-one zeros) ∙ pow-suc 10 zeros in
    let one : 10 ^ 0 ≤ 10 ^ zeros = pow-le-pow_right {n = 10} (omega arith) {i = 0} {j = zeros} (omega arith) in
    let product : (value + 1) * 10 ^ (zeros + 1) ≤ 10 ^ count * 10 ^ (zeros + 1) = mul-le-mul_right (10 ^ (zeros + 1)) (omega arith) in
    omega (arith, split, ten, one, product)

pub at_most_18 : (count : ℕ) → count ≤ 18 → 10 ^ count ≤ 1000000000000000000
at_most_18 count h = pow-le-pow_right {n = 10} (omega arith) {i = count} {j = 18} h
