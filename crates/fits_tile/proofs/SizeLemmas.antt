-- How long a tile's numbers are.
use Rattle.std.proofs.Common.{◌≡◌, ℕ, ◌*◌, ◌/◌, ◌%◌, ◌^◌, ◌<◌, ◌≤◌, ap, ◌∙◌, arith}
use Rattle.std.proofs.Math.Nat.{mul_comm}
use Rattle.std.proofs.Math.Pow.{shl_exact}
use Rattle.std.proofs.lemmas.Nat.{mul-le}
use Rattle.healpix_nested.specs.Cells.{IsCell}
use Rattle.healpix_nested.specs.CellLaws.{four_pow, four_pow_mono, known_power}

-- the shift that computes it
pub shifted-len : (bytes bits n : ℕ) → 8 * bytes ≡ bits → bits < 256 → n ≤ 9 → (bytes * 2 ^ (2 * n)) % 2 ^ 64 ≡ 4 ^ n * (bits / 8)
shifted-len bytes bits n is small few =
    let w : bytes ≡ bits / 8 = omega arith in
    shl_exact {a = bytes} 8 (2 * n) 64 (omega arith) (omega arith)
    ∙ ap (λ (k : ℕ). bytes * k) (four_pow n)
    ∙ mul_comm bytes (4 ^ n)
    ∙ ap (λ (k : ℕ). 4 ^ n * k) w

pub len-at_most : (bits n : ℕ) → bits < 256 → n ≤ 9 → 4 ^ n * (bits / 8) < 2 ^ 24
len-at_most bits n small few =
    let numbers : 4 ^ n ≤ 262144 = four_pow_mono n 9 few in
    let most : 4 ^ n * (bits / 8) ≤ 262144 * 31 = mul-le (4 ^ n) (bits / 8) 262144 31 numbers (omega arith) in
    omega arith

-- the number of a cell fits a signed number of 64 bits
pub cell-small : (order npix : ℕ) → IsCell order npix → npix < 2 ^ 63
cell-small order npix cell =
    let cells : 4 ^ order ≤ 2 ^ 40 = known_power order (cell.known_order) in
    let below : npix < 12 * 4 ^ order = cell.in_order in
    omega arith
