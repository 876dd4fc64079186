-- The whole numbers of a tile's cards fit 64 bits.
use Rattle.std.proofs.Common.{◌≡◌, ℕ, ◌^◌, ◌<◌, ◌≤◌, true, IsTrue, ℤ, pos, negsuc, arith}
use Rattle.std.proofs.Math.Nat.{pow-le-pow_right}
use Rattle.std.proofs.lemmas.Bool.Decides.{nat_tests}
use Rattle.std.proofs.lemmas.Int.{ints}
use Rattle.decimal_scale.specs.Whole.{fits_64_bits}
use Rattle.parent_rule.specs.Depth.{is_bitpix, IsNumber}
use Rattle.tile_pixels.specs.StoredLaws.{by_bitpix}

pub fits-pos : (n : ℕ) → n < 2 ^ 63 → fits_64_bits (pos n) ≡ true
fits-pos n h = grind (arith, nat_tests)

fits-neg : (n : ℕ) → n < 2 ^ 63 → fits_64_bits (negsuc n) ≡ true
fits-neg n h = grind (arith, nat_tests)

pub fits-number : (bits : ℕ) (v : ℤ) → IsTrue (is_bitpix bits) → IsNumber bits v → fits_64_bits v ≡ true
fits-number bits v known of = by_bitpix (λ b. IsNumber b v → fits_64_bits v ≡ true) bits known (at8 v) (at16 v) (at32 v) (at64 v) of
  where
    at8 : (v : ℤ) → IsNumber 8 v → fits_64_bits v ≡ true
    at8 (pos n) of = fits-pos n (omega (arith, ints))
    at8 (negsuc n) of = absurd (omega (arith, ints))

    at16 : (v : ℤ) → IsNumber 16 v → fits_64_bits v ≡ true
    at16 (pos n) of = fits-pos n (omega (arith, ints))
    at16 (negsuc n) of = fits-neg n (omega (arith, ints))

    at32 : (v : ℤ) → IsNumber 32 v → fits_64_bits v ≡ true
    at32 (pos n) of = fits-pos n (omega (arith, ints))
    at32 (negsuc n) of = fits-neg n (omega (arith, ints))

    at64 : (v : ℤ) → IsNumber 64 v → fits_64_bits v ≡ true
    at64 (pos n) of = fits-pos n (omega (arith, ints))
    at64 (negsuc n) of = fits-neg n (omega (arith, ints))

pub fits-bitpix : (bits : ℕ) → IsTrue (is_bitpix bits) → fits_64_bits (pos bits) ≡ true
fits-bitpix bits known = by_bitpix (λ b. fits_64_bits (pos b) ≡ true) bits known (fits-pos 8 (omega arith)) (fits-pos 16 (omega arith)) (fits-pos 32 (omega arith)) (fits-pos 64 (omega arith))

pub fits-width : (n : ℕ) → n ≤ 9 → fits_64_bits (pos (2 ^ n)) ≡ true
fits-width n few = let most : 2 ^ n ≤ 512 = pow-le-pow_right {n = 2} (omega arith) {i = n} {j = 9} few in fits-pos (2 ^ n) (omega arith)
