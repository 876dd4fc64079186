-- Cells of an order, and those below a cell, are numbered in 64 bits.
use Rattle.std.proofs.Common.{◌≡◌, ℕ, ◌+◌, ◌-◌, ◌*◌, ◌^◌, ◌<◌, ◌≤◌, sym, ap, ◌∙◌, refl, arith}
use Rattle.std.proofs.lemmas.Nat.{pow-add}
use Rattle.std.proofs.Math.Nat.{mul-le-mul_right, mul_assoc}
use Rattle.healpix_nested.specs.CellLaws.{four_pow_mono}

-- the cells below cell p of an order end within the deeper order
pub cells_end : (order below top p : ℕ) → order + below ≡ top → p < 12 * 4 ^ order → (p + 1) * 4 ^ below ≤ 12 * 4 ^ top
cells_end order below top p e h =
    let bound : (p + 1) * 4 ^ below ≤ (12 * 4 ^ order) * 4 ^ below = mul-le-mul_right (4 ^ below) (omega arith) in
    let split : 4 ^ top ≡ 4 ^ order * 4 ^ below = ap (λ n. 4 ^ n) (sym e) ∙ pow-add 4 order below in
    let joined : (12 * 4 ^ order) * 4 ^ below ≡ 12 * 4 ^ top = mul_assoc 12 (4 ^ order) (4 ^ below) ∙ ap (λ n. 12 * n) (sym split) in
    omega arith

-- the cells of orders up to 20 are numbered in 64 bits
pub cells_fit : (order : ℕ) → order ≤ 20 → 12 * 4 ^ order < 2 ^ 64
cells_fit order h = let bound : 4 ^ order ≤ 4 ^ 20 = four_pow_mono order 20 h in omega arith

-- the cells below a cell end at a number of 64 bits
pub end_fits : (order top p : ℕ) → order ≤ top → top ≤ 20 → p < 12 * 4 ^ order → (p + 1) * 4 ^ (top - order) < 2 ^ 64
end_fits order top p deep known in_order =
    let end : (p + 1) * 4 ^ (top - order) ≤ 12 * 4 ^ top = cells_end order (top - order) top p (omega arith) in_order in
    let fits : 12 * 4 ^ top < 2 ^ 64 = cells_fit top known in
    omega arith

-- the children of a cell are cells of the next order, numbered in 64 bits
pub children_fit : (order cell : ℕ) → order < 20 → cell < 12 * 4 ^ order → (4 * cell + 3 < 12 * 4 ^ (order + 1)) × (4 * cell + 3 < 2 ^ 64)
children_fit order cell known in_order =
    let next : 4 ^ (order + 1) ≡ 4 ^ order * 4 ^ 1 = pow-add 4 order 1 in
    let fits : 12 * 4 ^ (order + 1) < 2 ^ 64 = cells_fit (order + 1) (omega arith) in
    (omega arith, omega arith)

-- a cell within a tile is a cell of its order
pub within_tile : (order n p z : ℕ) → p < 12 * 4 ^ order → z < 4 ^ n → p * 4 ^ n + z < 12 * 4 ^ (order + n)
within_tile order n p z in_order in_tile =
    let end : (p + 1) * 4 ^ n ≤ 12 * 4 ^ (order + n) = cells_end order n (order + n) p refl in_order in
    omega arith
