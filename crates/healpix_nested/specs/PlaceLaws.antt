-- What follows from the definitions of `Place`: z(c, r) and the column and the line of a z undo each other, the rule
-- on bits names one number, and stored numbers and numbers z of a tile are in one to one correspondence.
use Rattle.std.proofs.Common.{ap₂, refl, ◌≡◌, ℕ, zero, suc, ◌+◌, ◌-◌, ◌*◌, ◌/◌, ◌%◌, ◌^◌, ◌<◌, ◌≤◌, refl, sym, ap, ◌∙◌, subst, arith, pow-suc, pow_pos, ◌⊎◌, inl, inr}
use Rattle.std.proofs.Math.Nat.{pow-le-pow_right}
use Rattle.std.specs.Int.{bit_at}
use Rattle.std.proofs.Math.Nat.{div-add-mod'}
use Rattle.std.proofs.lemmas.Nat.{mul-pow, mul-add-lt, div-mul-add, mod-mul-add, div_below, mod_below}
use Rattle.std.proofs.lemmas.Nat.Bits.{bit_at_lowest, bit_at-suc, bit_at-zero, same_from_bits}
use Rattle.healpix_nested.specs.Place.{Interleaves, spread, gathered, z_order, column_of, line_of, stored_column, stored_line, stored_z, stored_at_z}

-- 2^n columns and 2^n lines are 4^n places
pub square_of_side : (n : ℕ) → 2 ^ n * 2 ^ n ≡ 4 ^ n
square_of_side n = sym (mul-pow 2 2 n)

pos_four_pow : (n : ℕ) → 0 < 4 ^ n
pos_four_pow zero = omega arith
pos_four_pow (suc n) = let h : 0 < 4 ^ n = pos_four_pow n in rw (pow-suc 4 n) (omega arith)

-- ---- how large

-- the spread bits of a number of n bits are less than a third of 4^n
pub spread_below_third : (k n x : ℕ) → x < 2 ^ n → 3 * spread k x < 4 ^ n
unfolding spread
spread_below_third zero n x h = pos_four_pow n
spread_below_third (suc k) zero x h =
    let z : x ≡ 0 = omega arith in
    let s : 3 * spread k (x / 2) < 4 ^ 0 = spread_below_third k zero (x / 2) (omega arith) in
    omega arith
spread_below_third (suc k) (suc n) x h =
    let h2 : x < 2 ^ n * 2 = rw (pow-suc 2 n) at h in
    let s : 3 * spread k (x / 2) < 4 ^ n = spread_below_third k n (x / 2) (omega arith) in
    rw (pow-suc 4 n) (omega arith)

-- k bits gathered from a number below 4^n are a number below 2^n
pub gathered_below : (k n z : ℕ) → z < 4 ^ n → gathered k z < 2 ^ n
unfolding gathered
gathered_below zero n z h = pow_pos n
gathered_below (suc k) zero z h =
    let s : gathered k (z / 4) < 2 ^ 0 = gathered_below k zero (z / 4) (omega arith) in
    omega arith
gathered_below (suc k) (suc n) z h =
    let h2 : z < 4 ^ n * 4 = rw (pow-suc 4 n) at h in
    let s : gathered k (z / 4) < 2 ^ n = gathered_below k n (z / 4) (omega arith) in
    rw (pow-suc 2 n) (omega arith)

-- z(c, r) of a column and a line of n bits is below 4^n
pub woven_below : (k n x y : ℕ) → x < 2 ^ n → y < 2 ^ n → spread k x + 2 * spread k y < 4 ^ n
woven_below k n x y hx hy =
    let sx : 3 * spread k x < 4 ^ n = spread_below_third k n x hx in
    let sy : 3 * spread k y < 4 ^ n = spread_below_third k n y hy in
    omega arith

-- ---- there and back

low_of_weave : (x y s t : ℕ) → (x % 2 + 4 * s + 2 * (y % 2 + 4 * t)) % 2 ≡ x % 2
low_of_weave x y s t = omega arith

rest_of_weave : (x y s t : ℕ) → (x % 2 + 4 * s + 2 * (y % 2 + 4 * t)) / 4 ≡ s + 2 * t
rest_of_weave x y s t = omega arith

pub line_of_woven : (k x y : ℕ) → x < 2 ^ k → gathered k (spread k x + 2 * spread k y) ≡ x
unfolding gathered spread
line_of_woven zero x y h = omega arith
line_of_woven (suc k) x y h =
    let h2 : x < 2 ^ k * 2 = rw (pow-suc 2 k) at h in
    let g : gathered k (spread k (x / 2) + 2 * spread k (y / 2)) ≡ x / 2 = line_of_woven k (x / 2) (y / 2) (omega arith) in
    rw (low_of_weave x y (spread k (x / 2)) (spread k (y / 2)), rest_of_weave x y (spread k (x / 2)) (spread k (y / 2)), g)
    (omega arith)

half_low_of_weave : (x y s t : ℕ) → ((x % 2 + 4 * s + 2 * (y % 2 + 4 * t)) / 2) % 2 ≡ y % 2
half_low_of_weave x y s t = omega arith

half_rest_of_weave : (x y s t : ℕ) → (x % 2 + 4 * s + 2 * (y % 2 + 4 * t)) / 2 / 4 ≡ (s + 2 * t) / 2
half_rest_of_weave x y s t = omega arith

pub column_of_woven : (k x y : ℕ) → y < 2 ^ k → gathered k ((spread k x + 2 * spread k y) / 2) ≡ y
unfolding gathered spread
column_of_woven zero x y h = omega arith
column_of_woven (suc k) x y h =
    let h2 : y < 2 ^ k * 2 = rw (pow-suc 2 k) at h in
    let g : gathered k ((spread k (x / 2) + 2 * spread k (y / 2)) / 2) ≡ y / 2 = column_of_woven k (x / 2) (y / 2) (omega arith) in
    rw (half_low_of_weave x y (spread k (x / 2)) (spread k (y / 2)), half_rest_of_weave x y (spread k (x / 2)) (spread k (y / 2)), g)
    (omega arith)

bit_on_top : (b g : ℕ) → (b % 2 + 2 * g) % 2 ≡ b % 2
bit_on_top b g = omega arith

rest_on_top : (b g : ℕ) → (b % 2 + 2 * g) / 2 ≡ g
rest_on_top b g = omega arith

half_then_quarter : (z : ℕ) → z / 2 / 4 ≡ z / 4 / 2
half_then_quarter z = omega arith

pub woven_of_parts : (k z : ℕ) → z < 4 ^ k → spread k (gathered k z) + 2 * spread k (gathered k (z / 2)) ≡ z
unfolding gathered spread
woven_of_parts zero z h = omega arith
woven_of_parts (suc k) z h =
    let h2 : z < 4 ^ k * 4 = rw (pow-suc 4 k) at h in
    let g : spread k (gathered k (z / 4)) + 2 * spread k (gathered k (z / 4 / 2)) ≡ z / 4 = woven_of_parts k (z / 4) (omega arith) in
    rw (bit_on_top z (gathered k (z / 4)), rest_on_top z (gathered k (z / 4)), bit_on_top (z / 2) (gathered k (z / 2 / 4)), rest_on_top (z / 2) (gathered k (z / 2 / 4)), half_then_quarter z)
    (omega arith)

-- ---- the rule on bits

two_more : (z i : ℕ) → bit_at z (2 * suc i) ≡ bit_at (z / 4) (2 * i)
two_more z i =
    let p : 2 * suc i ≡ suc (suc (2 * i)) = omega arith in
    let q : z / 2 / 2 ≡ z / 4 = omega arith in
    ap (λ (j : ℕ). bit_at z j) p ∙ bit_at-suc z (suc (2 * i)) ∙ bit_at-suc (z / 2) (2 * i) ∙ ap (λ (y : ℕ). bit_at y (2 * i)) q

pub woven_lines : (k x y i : ℕ) → x < 2 ^ k → y < 2 ^ k → bit_at (spread k x + 2 * spread k y) (2 * i) ≡ bit_at x i
unfolding spread
woven_lines zero x y i hx hy =
    let z : x ≡ 0 = omega arith in
    bit_at-zero (2 * i) ∙ sym (bit_at-zero i) ∙ ap (λ (n : ℕ). bit_at n i) (sym z)
woven_lines (suc k) x y zero hx hy =
    bit_at_lowest (x % 2 + 4 * spread k (x / 2) + 2 * (y % 2 + 4 * spread k (y / 2)))
    ∙ low_of_weave x y (spread k (x / 2)) (spread k (y / 2)) ∙ sym (bit_at_lowest x)
woven_lines (suc k) x y (suc i) hx hy =
    let hx2 : x < 2 ^ k * 2 = rw (pow-suc 2 k) at hx in
    let hy2 : y < 2 ^ k * 2 = rw (pow-suc 2 k) at hy in
    two_more (x % 2 + 4 * spread k (x / 2) + 2 * (y % 2 + 4 * spread k (y / 2))) i
    ∙ ap (λ (n : ℕ). bit_at n (2 * i)) (rest_of_weave x y (spread k (x / 2)) (spread k (y / 2)))
    ∙ woven_lines k (x / 2) (y / 2) i (omega arith) (omega arith) ∙ sym (bit_at-suc x i)

two_more_and_one : (z i : ℕ) → bit_at z (2 * suc i + 1) ≡ bit_at (z / 4) (2 * i + 1)
two_more_and_one z i =
    let p : 2 * suc i + 1 ≡ suc (suc (2 * i + 1)) = omega arith in
    let q : z / 2 / 2 ≡ z / 4 = omega arith in
    ap (λ (j : ℕ). bit_at z j) p ∙ bit_at-suc z (suc (2 * i + 1)) ∙ bit_at-suc (z / 2) (2 * i + 1) ∙ ap (λ (y : ℕ). bit_at y (2 * i + 1)) q

pub woven_columns : (k x y i : ℕ) → x < 2 ^ k → y < 2 ^ k → bit_at (spread k x + 2 * spread k y) (2 * i + 1) ≡ bit_at y i
unfolding spread
woven_columns zero x y i hx hy =
    let z : y ≡ 0 = omega arith in
    bit_at-zero (2 * i + 1) ∙ sym (bit_at-zero i) ∙ ap (λ (n : ℕ). bit_at n i) (sym z)
woven_columns (suc k) x y zero hx hy =
    let w : ℕ = x % 2 + 4 * spread k (x / 2) + 2 * (y % 2 + 4 * spread k (y / 2)) in
    bit_at-suc w 0 ∙ bit_at_lowest (w / 2) ∙ half_low_of_weave x y (spread k (x / 2)) (spread k (y / 2)) ∙ sym (bit_at_lowest y)
woven_columns (suc k) x y (suc i) hx hy =
    let hx2 : x < 2 ^ k * 2 = rw (pow-suc 2 k) at hx in
    let hy2 : y < 2 ^ k * 2 = rw (pow-suc 2 k) at hy in
    two_more_and_one (x % 2 + 4 * spread k (x / 2) + 2 * (y % 2 + 4 * spread k (y / 2))) i
    ∙ ap (λ (n : ℕ). bit_at n (2 * i + 1)) (rest_of_weave x y (spread k (x / 2)) (spread k (y / 2)))
    ∙ woven_columns k (x / 2) (y / 2) i (omega arith) (omega arith) ∙ sym (bit_at-suc y i)

pub z_order_interleaves : (column line : ℕ) → column < 512 → line < 512 → Interleaves (z_order column line) column line
z_order_interleaves column line hc hl = record {
  lines = λ i. woven_lines 9 line column i hl hc;
  columns = λ i. woven_columns 9 line column i hl hc;
}

below_two : (r : ℕ) → r < 2 → (r ≡ 0) ⊎ (r ≡ 1)
below_two zero h = inl refl
below_two (suc zero) h = inr refl
below_two (suc (suc r)) h = absurd (omega arith)

even_or_odd : (j : ℕ) → (j ≡ 2 * (j / 2)) ⊎ (j ≡ 2 * (j / 2) + 1)
even_or_odd j = elim (below_two (j % 2) (omega arith)) [ inl e ↦ inl (omega arith) | inr e ↦ inr (omega arith) ]

-- the rule on bits leaves no choice
pub interleaving_is_unique : (column line a b : ℕ) → Interleaves a column line → Interleaves b column line → a ≡ b
interleaving_is_unique column line a b p q = same_from_bits a b (λ j. elim (even_or_odd j) [
  | inl e ↦ ap (λ (i : ℕ). bit_at a i) e ∙ p.lines (j / 2) ∙ sym (q.lines (j / 2)) ∙ ap (λ (i : ℕ). bit_at b i) (sym e)
  | inr e ↦ ap (λ (i : ℕ). bit_at a i) e ∙ p.columns (j / 2) ∙ sym (q.columns (j / 2)) ∙ ap (λ (i : ℕ). bit_at b i) (sym e)
])

-- ---- columns and lines of nine bits

pub z_order_below : (n column line : ℕ) → column < 2 ^ n → line < 2 ^ n → z_order column line < 4 ^ n
z_order_below n column line hc hl = woven_below 9 n line column hl hc

pub column_of-z_order : (column line : ℕ) → column < 512 → column_of (z_order column line) ≡ column
column_of-z_order column line h = column_of_woven 9 line column h

pub line_of-z_order : (column line : ℕ) → line < 512 → line_of (z_order column line) ≡ line
line_of-z_order column line h = line_of_woven 9 line column h

pub z_order-parts : (z : ℕ) → z < 4 ^ 9 → z_order (column_of z) (line_of z) ≡ z
z_order-parts z h = woven_of_parts 9 z h

pub column_of_below : (n z : ℕ) → z < 4 ^ n → column_of z < 2 ^ n
column_of_below n z h = gathered_below 9 n (z / 2) (omega arith)

pub line_of_below : (n z : ℕ) → z < 4 ^ n → line_of z < 2 ^ n
line_of_below n z h = gathered_below 9 n z h

pub parts_interleave : (z : ℕ) → z < 4 ^ 9 → Interleaves z (column_of z) (line_of z)
parts_interleave z h =
    let w : Interleaves (z_order (column_of z) (line_of z)) (column_of z) (line_of z) =
    z_order_interleaves (column_of z) (line_of z) (column_of_below 9 z h) (line_of_below 9 z h) in
    subst (λ (y : ℕ). Interleaves y (column_of z) (line_of z)) (z_order-parts z h) w

-- ---- stored numbers

-- a side of at most 2^9 is at most 512
pub side_at_most : (n : ℕ) → n ≤ 9 → 2 ^ n ≤ 512
side_at_most n h = pow-le-pow_right {n = 2} (omega arith) {i = n} {j = 9} h

area_at_most : (n : ℕ) → n ≤ 9 → 4 ^ n ≤ 4 ^ 9
area_at_most n h = pow-le-pow_right {n = 4} (omega arith) {i = n} {j = 9} h

pub stored_column_below : (n s : ℕ) → stored_column n s < 2 ^ n
stored_column_below n s = mod_below s (2 ^ n) (pow_pos n)

pub stored_line_below : (n s : ℕ) → stored_line n s < 2 ^ n
stored_line_below n s = let h : 0 < 2 ^ n = pow_pos n in omega arith

pub stored_z_below : (n s : ℕ) → stored_z n s < 4 ^ n
stored_z_below n s = z_order_below n (stored_column n s) (stored_line n s) (stored_column_below n s) (stored_line_below n s)

pub column_of-stored_z : (n s : ℕ) → n ≤ 9 → column_of (stored_z n s) ≡ stored_column n s
column_of-stored_z n s h =
    let side : 2 ^ n ≤ 512 = side_at_most n h in
    let below : stored_column n s < 2 ^ n = stored_column_below n s in
    column_of-z_order (stored_column n s) (stored_line n s) (omega arith)

pub line_of-stored_z : (n s : ℕ) → n ≤ 9 → line_of (stored_z n s) ≡ stored_line n s
line_of-stored_z n s h =
    let side : 2 ^ n ≤ 512 = side_at_most n h in
    let below : stored_line n s < 2 ^ n = stored_line_below n s in
    line_of-z_order (stored_column n s) (stored_line n s) (omega arith)

turned_twice : (w q : ℕ) → q < w → w - 1 - (w - 1 - q) ≡ q
turned_twice w q h = omega arith

pub stored_at_z-stored_z : (n s : ℕ) → n ≤ 9 → s < 4 ^ n → stored_at_z n (stored_z n s) ≡ s
stored_at_z-stored_z n s h below =
    let area : s < 2 ^ n * 2 ^ n = rw (square_of_side n) below in
    let row : s / 2 ^ n < 2 ^ n = div_below s (2 ^ n) (2 ^ n) (pow_pos n) area in
    rw (line_of-stored_z n s h, column_of-stored_z n s h, turned_twice (2 ^ n) (s / 2 ^ n) row) (div-add-mod' s (2 ^ n))

pub stored_at_z_below : (n z : ℕ) → z < 4 ^ n → stored_at_z n z < 4 ^ n
stored_at_z_below n z h =
    let c : column_of z < 2 ^ n = column_of_below n z h in
    let l : line_of z < 2 ^ n = line_of_below n z h in
    let p : stored_at_z n z < 2 ^ n * 2 ^ n = mul-add-lt (2 ^ n - 1 - line_of z) (2 ^ n) (column_of z) (2 ^ n) (omega arith) c in
    rw (square_of_side n) at p

pub stored_z-stored_at_z : (n z : ℕ) → n ≤ 9 → z < 4 ^ n → stored_z n (stored_at_z n z) ≡ z
stored_z-stored_at_z n z h below =
    let c : column_of z < 2 ^ n = column_of_below n z below in
    let l : line_of z < 2 ^ n = line_of_below n z below in
    let area : 4 ^ n ≤ 4 ^ 9 = area_at_most n h in
    let small : z < 4 ^ 9 = omega arith in
    rw (mod-mul-add (2 ^ n - 1 - line_of z) (2 ^ n) (column_of z) c, div-mul-add (2 ^ n - 1 - line_of z) (2 ^ n) (column_of z) c, turned_twice (2 ^ n) (line_of z) l)
    (z_order-parts z small)

-- ---- four cells under one

spread_wider : (k x : ℕ) → x < 2 ^ k → spread (suc k) x ≡ spread k x
unfolding spread
spread_wider zero x h = omega arith
spread_wider (suc k) x h =
    let h2 : x < 2 ^ k * 2 = rw (pow-suc 2 k) at h in
    ap (λ (s : ℕ). x % 2 + 4 * s) (spread_wider k (x / 2) (omega arith))

gathered_wider : (k z : ℕ) → z < 4 ^ k → gathered (suc k) z ≡ gathered k z
unfolding gathered
gathered_wider zero z h = omega arith
gathered_wider (suc k) z h =
    let h2 : z < 4 ^ k * 4 = rw (pow-suc 4 k) at h in
    ap (λ (g : ℕ). z % 2 + 2 * g) (gathered_wider k (z / 4) (omega arith))

spread_twice : (x b : ℕ) → x < 256 → b < 2 → spread 9 (2 * x + b) ≡ b + 4 * spread 9 x
unfolding spread
spread_twice x b hx hb =
    let low : (2 * x + b) % 2 ≡ b = omega arith in
    let rest : (2 * x + b) / 2 ≡ x = omega arith in
    let one : spread 9 (2 * x + b) ≡ (2 * x + b) % 2 + 4 * spread 8 ((2 * x + b) / 2) = refl in
    let wide : spread 9 x ≡ spread 8 x = spread_wider 8 x hx in
    one ∙ ap₂ (λ (m : ℕ) (n : ℕ). m + 4 * spread 8 n) low rest ∙ ap (λ (s : ℕ). b + 4 * s) (sym wide)

-- the four places under the place (column, line) stand in a square, two by two
pub z_order_of_four : (column line dc dl : ℕ) → column < 256 → line < 256 → dc < 2 → dl < 2 →
    z_order (2 * column + dc) (2 * line + dl) ≡ 4 * z_order column line + (2 * dc + dl)
z_order_of_four column line dc dl hc hl hdc hdl =
    let c : spread 9 (2 * column + dc) ≡ dc + 4 * spread 9 column = spread_twice column dc hc hdc in
    let l : spread 9 (2 * line + dl) ≡ dl + 4 * spread 9 line = spread_twice line dl hl hdl in
    omega arith

gathered_quarter : (z : ℕ) → z < 4 ^ 9 → gathered 9 (z / 4) ≡ gathered 9 z / 2
unfolding gathered
gathered_quarter z h =
    let one : gathered 9 z ≡ z % 2 + 2 * gathered 8 (z / 4) = refl in
    let wide : gathered 9 (z / 4) ≡ gathered 8 (z / 4) = gathered_wider 8 (z / 4) (omega arith) in
    omega arith

-- the cell of the order above has half the column and half the line
pub column_of_quarter : (z : ℕ) → z < 4 ^ 9 → column_of (z / 4) ≡ column_of z / 2
column_of_quarter z h =
    let e : z / 4 / 2 ≡ z / 2 / 4 = sym (half_then_quarter z) in
    ap (λ (y : ℕ). gathered 9 y) e ∙ gathered_quarter (z / 2) (omega arith)

pub line_of_quarter : (z : ℕ) → z < 4 ^ 9 → line_of (z / 4) ≡ line_of z / 2
line_of_quarter z h = gathered_quarter z h
