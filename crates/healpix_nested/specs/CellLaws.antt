-- What follows from the definitions of `Cells`: numbers of cells fit 64 bits, ancestors are cells, and no two cells
-- have one uniq number.
use Rattle.std.proofs.Common.{◌≡◌, ◌↔◌, ℕ, suc, ◌+◌, ◌-◌, ◌*◌, ◌/◌, ◌%◌, ◌^◌, ◌<◌, ◌≤◌, refl, sym, ap, subst, ◌∙◌, arith, pow-suc, inl, inr, mul_assoc, mod-eq_of_lt, true, eqb, leb, eq-eqb, eqb-true, leb-true, le-leb, add-mul, one-mul, div-mul-le_self, div-one}
use Rattle.std.proofs.lemmas.Bool.{cases_order, and_parts, and_from}
use Rattle.std.proofs.Math.Nat.{pow-le-pow_right, lt-div-mul-add, div-eq_of_lt-le, div-div-eq-div-mul}
use Rattle.std.proofs.lemmas.Nat.{mul-pow, pow-add, div_below}
use Rattle.healpix_nested.specs.Cells.{IsCell, lies_under, uniq_number}

-- a shift by 2k places multiplies by 4^k
pub four_pow : (k : ℕ) → 2 ^ (2 * k) ≡ 4 ^ k
four_pow k =
    let e : 2 * k ≡ k + k = omega arith in
    ap (λ (j : ℕ). 2 ^ j) e ∙ pow-add 2 k k ∙ sym (mul-pow 2 2 k)

pub four_pow_mono : (i j : ℕ) → i ≤ j → 4 ^ i ≤ 4 ^ j
four_pow_mono i j h = pow-le-pow_right {n = 4} (omega arith) {i = i} {j = j} h

pub four_pow_pos : (k : ℕ) → 0 < 4 ^ k
four_pow_pos k = let h : 4 ^ 0 ≤ 4 ^ k = four_pow_mono 0 k (omega arith) in omega arith

-- 4^order is at most 2^40
pub known_power : (order : ℕ) → order ≤ 20 → 4 ^ order ≤ 2 ^ 40
known_power order h = four_pow_mono order 20 h

-- what the shift `4 << 2·order` computes in 64 bits
pub shifted_four : (order : ℕ) → order ≤ 20 → 4 * 2 ^ (2 * order) % 18446744073709551616 ≡ 4 * 4 ^ order
shifted_four order h =
    let small : 4 ^ order ≤ 2 ^ 40 = known_power order h in
    rw (four_pow order) (mod-eq_of_lt (omega arith))

four_pow_split : (i j : ℕ) → i ≤ j → 4 ^ j ≡ 4 ^ i * 4 ^ (j - i)
four_pow_split i j h =
    let e : j ≡ i + (j - i) = omega arith in
    ap (λ (k : ℕ). 4 ^ k) e ∙ pow-add 4 i (j - i)

-- the cell of a lower order that a cell lies under
pub ancestor_is_cell : (order npix above : ℕ) → IsCell order npix → above ≤ order → IsCell above (npix / 4 ^ (order - above))
ancestor_is_cell order npix above cell h = record {
  known_order = let k : order ≤ 20 = cell.known_order in omega arith;
  in_order = div_below npix (4 ^ (order - above)) (12 * 4 ^ above) (four_pow_pos (order - above)) (
      let e : 12 * 4 ^ order ≡ 12 * 4 ^ above * 4 ^ (order - above) =
      ap (λ (n : ℕ). 12 * n) (four_pow_split above order h) ∙ sym (mul_assoc 12 (4 ^ above) (4 ^ (order - above))) in
      let below : npix < 12 * 4 ^ order = cell.in_order in
      rw e at below);
}

pub parent_is_cell : (order npix : ℕ) → IsCell order npix → 0 < order → IsCell (order - 1) (npix / 4)
parent_is_cell order npix cell positive =
    let e : order - (order - 1) ≡ 1 = omega arith in
    let above : IsCell (order - 1) (npix / 4 ^ (order - (order - 1))) = ancestor_is_cell order npix (order - 1) cell (omega arith) in
    rw e at above

-- the numbers of one order: from 4·4^order up to 16·4^order
pub order_of_number : (a b u : ℕ) → 4 * 4 ^ a ≤ u → u < 16 * 4 ^ a → 4 * 4 ^ b ≤ u → u < 16 * 4 ^ b → a ≡ b
order_of_number a b u la ha lb hb = elim (cases_order a b) [
  | inl e ↦ e
  | inr (inl l) ↦ let m : 4 ^ suc a ≤ 4 ^ b = four_pow_mono (suc a) b l in
      let m2 : 4 ^ a * 4 ≤ 4 ^ b = rw (pow-suc 4 a) at m in absurd (omega arith)
  | inr (inr l) ↦ let m : 4 ^ suc b ≤ 4 ^ a = four_pow_mono (suc b) a l in
      let m2 : 4 ^ b * 4 ≤ 4 ^ a = rw (pow-suc 4 b) at m in absurd (omega arith)
]

-- a number finds its cell: the order is the one whose numbers it stands among
pub cell_of_number : (a b p u : ℕ) → 4 * 4 ^ a ≤ u → u < 16 * 4 ^ a → IsCell b p → uniq_number b p ≡ u → (a ≡ b) × (u - 4 * 4 ^ a ≡ p)
cell_of_number a b p u la ha cell e =
    let below : p < 12 * 4 ^ b = cell.in_order in
    let same : a ≡ b = order_of_number a b u la ha (omega arith) (omega arith) in
    let power : 4 ^ a ≡ 4 ^ b = ap (λ (k : ℕ). 4 ^ k) same in
    (same, omega arith)

-- no two cells have one number
pub uniq_number_injective : (a p b q : ℕ) → IsCell a p → IsCell b q → uniq_number a p ≡ uniq_number b q → (a ≡ b) × (p ≡ q)
uniq_number_injective a p b q first second e =
    let below : p < 12 * 4 ^ a = first.in_order in
    let found : (a ≡ b) × (uniq_number a p - 4 * 4 ^ a ≡ q) =
    cell_of_number a b q (uniq_number a p) (omega arith) (omega arith) second (sym e) in
    (found.0, omega arith)

-- ---- lying under

under_parts : (k p j q : ℕ) → lies_under k p j q ≡ true → (j ≤ k) × (p / 4 ^ (k - j) ≡ q)
under_parts k p j q h =
    let both : (leb j k ≡ true) × (eqb (p / 4 ^ (k - j)) q ≡ true) = and_parts (leb j k) (eqb (p / 4 ^ (k - j)) q) h in
    (leb-true j k both.0, eqb-true (p / 4 ^ (k - j)) q both.1)

under_from_parts : (k p j q : ℕ) → j ≤ k → p / 4 ^ (k - j) ≡ q → lies_under k p j q ≡ true
under_from_parts k p j q h e =
    and_from (leb j k) (eqb (p / 4 ^ (k - j)) q) (le-leb j k h) (eq-eqb (p / 4 ^ (k - j)) q e)

-- the cells of order k under a cell of order j stand side by side
pub range_under : (k p j q : ℕ) → lies_under k p j q ≡ true → (j ≤ k) × (q * 4 ^ (k - j) ≤ p) × (p < (q + 1) * 4 ^ (k - j))
range_under k p j q h =
    let parts : (j ≤ k) × (p / 4 ^ (k - j) ≡ q) = under_parts k p j q h in
    let low : p / 4 ^ (k - j) * 4 ^ (k - j) ≤ p = div-mul-le_self p (4 ^ (k - j)) in
    let high : p < p / 4 ^ (k - j) * 4 ^ (k - j) + 4 ^ (k - j) = lt-div-mul-add (four_pow_pos (k - j)) in
    let next : (q + 1) * 4 ^ (k - j) ≡ q * 4 ^ (k - j) + 4 ^ (k - j) = add-mul q 1 (4 ^ (k - j)) ∙ ap (λ (n : ℕ). q * 4 ^ (k - j) + n) (one-mul (4 ^ (k - j))) in
    (parts.0, rw parts.1 at low, rw next (rw parts.1 at high))

pub under_from_range : (k p j q : ℕ) → j ≤ k → q * 4 ^ (k - j) ≤ p → p < (q + 1) * 4 ^ (k - j) → lies_under k p j q ≡ true
under_from_range k p j q h low high = under_from_parts k p j q h (div-eq_of_lt-le (4 ^ (k - j)) low high)

pub under_self : (k p : ℕ) → lies_under k p k p ≡ true
under_self k p =
    let e : k - k ≡ 0 = omega arith in
    under_from_parts k p k p (omega arith) (ap (λ (n : ℕ). p / 4 ^ n) e ∙ div-one p)

pub under_trans : (k p j q i r : ℕ) → lies_under k p j q ≡ true → lies_under j q i r ≡ true → lies_under k p i r ≡ true
under_trans k p j q i r first second =
    let one : (j ≤ k) × (p / 4 ^ (k - j) ≡ q) = under_parts k p j q first in
    let two : (i ≤ j) × (q / 4 ^ (j - i) ≡ r) = under_parts j q i r second in
    let steps : k - i ≡ (k - j) + (j - i) = omega arith in
    let power : 4 ^ (k - i) ≡ 4 ^ (k - j) * 4 ^ (j - i) = ap (λ (n : ℕ). 4 ^ n) steps ∙ pow-add 4 (k - j) (j - i) in
    under_from_parts k p i r (omega arith) (
    ap (λ (n : ℕ). p / n) power ∙ sym (div-div-eq-div-mul p (4 ^ (k - j)) (4 ^ (j - i)))
    ∙ ap (λ (n : ℕ). n / 4 ^ (j - i)) one.1 ∙ two.1)

-- a cell lies under one cell of each order
pub under_one : (k p j q r : ℕ) → lies_under k p j q ≡ true → lies_under k p j r ≡ true → q ≡ r
under_one k p j q r first second = sym (under_parts k p j q first).1 ∙ (under_parts k p j r second).1

-- the children of p are 4p to 4p + 3
pub under_means_child : (k p c : ℕ) → (lies_under (k + 1) c k p ≡ true) ↔ ((4 * p ≤ c) × (c < 4 * p + 4))
under_means_child k p c =
    let e : k + 1 - k ≡ 1 = omega arith in
    let power : 4 ^ (k + 1 - k) ≡ 4 = ap (λ (n : ℕ). 4 ^ n) e in (
      λ under.
          let quarter : c / 4 ^ (k + 1 - k) ≡ p = (under_parts (k + 1) c k p under).1 in
          let q : c / 4 ≡ p = rw power at quarter in
          (omega arith, omega arith),
      λ range. under_from_parts (k + 1) c k p (omega arith) (rw power (
          let low : 4 * p ≤ c = range.0 in
          let high : c < 4 * p + 4 = range.1 in
          omega arith)),
    )

pub child_under : (k p i : ℕ) → i < 4 → lies_under (k + 1) (4 * p + i) k p ≡ true
child_under k p i h = (under_means_child k p (4 * p + i)).1 (omega arith, omega arith)

-- a cell lies under one cell of each order up to its own, that of its parent too
pub under_ancestor : (k p j : ℕ) → j ≤ k → lies_under k p j (p / 4 ^ (k - j)) ≡ true
under_ancestor k p j h = under_from_parts k p j (p / 4 ^ (k - j)) h refl

pub under_parent : (k p : ℕ) → lies_under (k + 1) p k (p / 4) ≡ true
under_parent k p = (under_means_child k (p / 4) p).1 (omega arith, omega arith)

-- the parent of a cell under a cell of an order above lies under that cell too
pub parent_under : (k p j q : ℕ) → j ≤ k → lies_under (k + 1) p j q ≡ true → lies_under k (p / 4) j q ≡ true
parent_under k p j q h under =
    let above : lies_under k (p / 4) j (p / 4 / 4 ^ (k - j)) ≡ true = under_ancestor k (p / 4) j h in
    let whole = under_trans (k + 1) p k (p / 4) j (p / 4 / 4 ^ (k - j)) (under_parent k p) above in
    let same : p / 4 / 4 ^ (k - j) ≡ q = under_one (k + 1) p j _ _ whole under in
    subst (λ (r : ℕ). lies_under k (p / 4) j r ≡ true) same above
