-- How long a batch body may be.
use Rattle.std.proofs.Common.{ℕ, ◌+◌, ◌*◌, ◌/◌, ◌^◌, ◌≤◌, arith}
use Rattle.std.specs.Prelude.{IsTrue}
use Rattle.std.proofs.lemmas.Bool.Decides.{nat_tests}
use Rattle.std.proofs.lemmas.Nat.{mul-le}
use Rattle.healpix_nested.specs.CellLaws.{four_pow_mono}
use Rattle.parent_rule.specs.Depth.{is_bitpix}
use Rattle.fits_header.specs.Cards.{whole_blocks}

few_bits : (bits : ℕ) → IsTrue (is_bitpix bits) → bits ≤ 64
few_bits bits known = grind (arith, nat_tests)

pub room_fits : (bits n : ℕ) → IsTrue (is_bitpix bits) → n ≤ 9 → 4 * (106560 + whole_blocks (4 ^ n * (bits / 8))) ≤ 16777216
room_fits bits n known few =
    let small : bits ≤ 64 = few_bits bits known in
    let numbers : 4 ^ n ≤ 262144 = four_pow_mono n 9 few in
    let most : 4 ^ n * (bits / 8) ≤ 262144 * 8 = mul-le (4 ^ n) (bits / 8) 262144 8 numbers (omega arith) in
    omega arith
