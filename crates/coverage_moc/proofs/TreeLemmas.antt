-- Which numbers are rows of a cover: order by order, and the leaves under them.
use Rattle.std.proofs.Common.{◌≡◌, inl, inr, ℕ, zero, suc, ◌+◌, ◌-◌, ◌*◌, ◌/◌, ◌^◌, ◌<◌, ◌≤◌, Bool, true, false, not, ◌&&◌, ◌||◌, List, [], ◌∷◌, ◌++◌, map, filter, refl, sym, ap, ap₂, ◌∙◌, subst, arith, add-one, div-one}
use Rattle.std.proofs.Math.Nat.{div-div-eq-div-mul}
use Rattle.std.specs.List.{list_any, range_with_len}
use Rattle.std.proofs.lemmas.Bool.{cases_lt, or_cases, or_right, and_parts, and_from}
use Rattle.std.proofs.lemmas.List.Folds.{list_any-append}
use Rattle.healpix_nested.specs.Cells.{cell_count, uniq_number}
use Rattle.coverage_moc.specs.Cover.{has, IsAscending, cover, is_under, leaves_under}
use Rattle.coverage_moc.specs.Rows.{four, AgreesUpTo, SameAbove}
use Rattle.coverage_moc.proofs.MemberLemmas.{same_bools, false_where, has-tail, has-cases, has-append, has-filter, has-map, map_source, in_range, range_bound, range_more, filter_in_range, up-filter, up-map, up-append, up-range, up-same}
use Rattle.coverage_moc.proofs.CoverLemmas.{power_more, power_positive, parent_below, four_at, four_agree, above, has-above, single, cover-zero, cover-suc}

-- ---- the rows of one order

pub has-block : (k : ℕ) (test : ℕ → Bool) (p : ℕ) → p < cell_count k → has (map (uniq_number k) (filter test (range_with_len 0 (cell_count k)))) (uniq_number k p) ≡ test p
has-block k test p below = same_bools (has (map (uniq_number k) (filter test (range_with_len 0 (cell_count k)))) (uniq_number k p)) (test p)
    (λ h.
    let from : (q : ℕ) × (has (filter test (range_with_len 0 (cell_count k))) q ≡ true) × (uniq_number k q ≡ uniq_number k p) = map_source (uniq_number k) (filter test (range_with_len 0 (cell_count k))) (uniq_number k p) h in
    let same : from.0 ≡ p = (let e : uniq_number k from.0 ≡ uniq_number k p = from.2 in omega arith) in
    let both : (has (range_with_len 0 (cell_count k)) from.0 ≡ true) × (test from.0 ≡ true) = and_parts (has (range_with_len 0 (cell_count k)) from.0) (test from.0) (sym (has-filter test (range_with_len 0 (cell_count k)) from.0) ∙ from.1) in
    subst (λ (z : ℕ). test z ≡ true) same both.1)
    (λ t. has-map (uniq_number k) (filter test (range_with_len 0 (cell_count k))) p (has-filter test (range_with_len 0 (cell_count k)) p ∙ and_from (has (range_with_len 0 (cell_count k)) p) (test p) (in_range (cell_count k) p below) t))

pub block_bounds : (k : ℕ) (test : ℕ → Bool) (row : ℕ) → has (map (uniq_number k) (filter test (range_with_len 0 (cell_count k)))) row ≡ true → (4 * 4 ^ k ≤ row) × (row < 16 * 4 ^ k)
block_bounds k test row h =
    let from : (q : ℕ) × (has (filter test (range_with_len 0 (cell_count k))) q ≡ true) × (uniq_number k q ≡ row) = map_source (uniq_number k) (filter test (range_with_len 0 (cell_count k))) row h in
    let both : (has (range_with_len 0 (cell_count k)) from.0 ≡ true) × (test from.0 ≡ true) = and_parts (has (range_with_len 0 (cell_count k)) from.0) (test from.0) (sym (has-filter test (range_with_len 0 (cell_count k)) from.0) ∙ from.1) in
    let lt : from.0 < cell_count k = range_bound (cell_count k) from.0 both.0 in
    let e : uniq_number k from.0 ≡ row = from.2 in
    (omega arith, omega arith)

pub up-block : (k : ℕ) (test : ℕ → Bool) → IsAscending (map (uniq_number k) (filter test (range_with_len 0 (cell_count k))))
up-block k test = up-map (uniq_number k) (λ x y lt. omega arith) (filter test (range_with_len 0 (cell_count k))) (up-filter test (range_with_len 0 (cell_count k)) (up-range 0 (cell_count k)))

-- a number between is that of a cell of the order
pub number_of : (k row : ℕ) → 4 * 4 ^ k ≤ row → row < 16 * 4 ^ k → (p : ℕ) × (p < cell_count k) × (uniq_number k p ≡ row)
number_of k row low high = (row - 4 * 4 ^ k, omega arith, omega arith)

-- ---- the rows of a cover

pub cover_bounds : (t : ℕ) (cells : List ℕ) (row : ℕ) → has (cover t cells) row ≡ true → (4 ≤ row) × (row < 16 * 4 ^ t)
cover_bounds zero cells row h =
    let b : (4 * 4 ^ 0 ≤ row) × (row < 16 * 4 ^ 0) = block_bounds 0 (has cells) row (ap (λ (rows : List ℕ). has rows row) (sym (cover-zero cells)) ∙ h) in
    let low : 4 * 4 ^ 0 ≤ row = b.0 in
    (omega arith, b.1)
cover_bounds (suc t) cells row h =
    let p : 4 ^ suc t ≡ 4 * 4 ^ t = power_more t in
    let q : 0 < 4 ^ t = power_positive t in
    let block : List ℕ = map (uniq_number (suc t)) (filter (single cells) (range_with_len 0 (cell_count (suc t)))) in
    let e : (has (cover t (above t cells)) row || has block row) ≡ true = sym (has-append (cover t (above t cells)) block row) ∙ ap (λ (rows : List ℕ). has rows row) (sym (cover-suc t cells)) ∙ h in
    elim (or_cases (has (cover t (above t cells)) row) (has block row) e) [
      | inl a ↦ let b : (4 ≤ row) × (row < 16 * 4 ^ t) = cover_bounds t (above t cells) row a in let lt : row < 16 * 4 ^ t = b.1 in (b.0, omega arith)
      | inr a ↦ let b : (4 * 4 ^ suc t ≤ row) × (row < 16 * 4 ^ suc t) = block_bounds (suc t) (single cells) row a in let low : 4 * 4 ^ suc t ≤ row = b.0 in (omega arith, b.1)
    ]

pub up-cover : (t : ℕ) (cells : List ℕ) → IsAscending (cover t cells)
up-cover zero cells = subst IsAscending (sym (cover-zero cells)) (up-block 0 (has cells))
up-cover (suc t) cells =
    let p : 4 ^ suc t ≡ 4 * 4 ^ t = power_more t in
    subst IsAscending (sym (cover-suc t cells)) (up-append (cover t (above t cells)) (map (uniq_number (suc t)) (filter (single cells) (range_with_len 0 (cell_count (suc t))))) (up-cover t (above t cells)) (up-block (suc t) (single cells)) (λ x y hx hy.
    let a : x < 16 * 4 ^ t = (cover_bounds t (above t cells) x hx).1 in
    let b : 4 * 4 ^ suc t ≤ y = (block_bounds (suc t) (single cells) y hy).0 in
    omega arith))

-- the rows of the orders above the last are those of the cells above
pub cover-low : (t : ℕ) (cells : List ℕ) (row : ℕ) → row < 16 * 4 ^ t → has (cover (suc t) cells) row ≡ has (cover t (above t cells)) row
cover-low t cells row below =
    let p : 4 ^ suc t ≡ 4 * 4 ^ t = power_more t in
    let block : List ℕ = map (uniq_number (suc t)) (filter (single cells) (range_with_len 0 (cell_count (suc t)))) in
    let none : has block row ≡ false = false_where (has block row) (λ h. let low : 4 * 4 ^ suc t ≤ row = (block_bounds (suc t) (single cells) row h).0 in absurd (omega arith)) in
    ap (λ (rows : List ℕ). has rows row) (cover-suc t cells) ∙ has-append (cover t (above t cells)) block row ∙ ap (λ b. has (cover t (above t cells)) row || b) none ∙ or_false (has (cover t (above t cells)) row)
  where
    or_false : (b : Bool) → (b || false) ≡ b
    or_false true = refl
    or_false false = refl

-- the rows of the last order
pub cover-own : (t : ℕ) (cells : List ℕ) (p : ℕ) → p < cell_count (suc t) → has (cover (suc t) cells) (uniq_number (suc t) p) ≡ single cells p
cover-own t cells p below =
    let e : 4 ^ suc t ≡ 4 * 4 ^ t = power_more t in
    let none : has (cover t (above t cells)) (uniq_number (suc t) p) ≡ false = false_where (has (cover t (above t cells)) (uniq_number (suc t) p)) (λ h. let high : uniq_number (suc t) p < 16 * 4 ^ t = (cover_bounds t (above t cells) (uniq_number (suc t) p) h).1 in absurd (omega arith)) in
    ap (λ (rows : List ℕ). has rows (uniq_number (suc t) p)) (cover-suc t cells)
    ∙ has-append (cover t (above t cells)) (map (uniq_number (suc t)) (filter (single cells) (range_with_len 0 (cell_count (suc t))))) (uniq_number (suc t) p)
    ∙ ap₂ (λ a b. a || b) none (has-block (suc t) (single cells) p below)

pub cover-first : (cells : List ℕ) (p : ℕ) → p < cell_count 0 → has (cover 0 cells) (uniq_number 0 p) ≡ has cells p
cover-first cells p below = ap (λ (rows : List ℕ). has rows (uniq_number 0 p)) (cover-zero cells) ∙ has-block 0 (has cells) p below

-- ---- nothing but which cells are there decides the cover

pub cover-same : (t : ℕ) (cells other : List ℕ) → ((p : ℕ) → p < cell_count t → has cells p ≡ has other p) → cover t cells ≡ cover t other
cover-same zero cells other same = cover-zero cells ∙ ap (map (uniq_number 0)) (filter_in_range (has cells) (has other) (cell_count 0) same) ∙ sym (cover-zero other)
cover-same (suc t) cells other same =
    let e : 4 ^ suc t ≡ 4 * 4 ^ t = power_more t in
    let fours : (q : ℕ) → q < cell_count t → four (has cells) q ≡ four (has other) q = λ q lt. four_agree (has cells) (has other) q (λ c k. same c (omega arith)) in
    cover-suc t cells
    ∙ ap₂ (λ xs ys. xs ++ ys)
    (cover-same t (above t cells) (above t other) (λ q lt. has-above t cells q lt ∙ fours q lt ∙ sym (has-above t other q lt)))
    (ap (map (uniq_number (suc t))) (filter_in_range (single cells) (single other) (cell_count (suc t)) (λ p lt. ap₂ (λ a b. a && not b) (same p lt) (fours (p / 4) (parent_below t p lt)))))
    ∙ sym (cover-suc t other)

-- ---- the leaves under rows

pub under-zero : (rows : List ℕ) (p : ℕ) → is_under 0 rows p ≡ has rows (uniq_number 0 p)
unfolding is_under
under-zero rows p = or_false (has rows (uniq_number 0 (p / 4 ^ (0 - 0)))) ∙ ap (λ (z : ℕ). has rows (uniq_number 0 z)) (div-one p)
  where
    or_false : (b : Bool) → (b || false) ≡ b
    or_false true = refl
    or_false false = refl

any_range : (f g : ℕ → Bool) (a n : ℕ) → ((k : ℕ) → a ≤ k → k < a + n → f k ≡ g k) → list_any f (range_with_len a n) ≡ list_any g (range_with_len a n)
any_range f g a zero agree = refl
any_range f g a (suc n) agree = ap₂ (λ x y. x || y) (agree a (omega arith) (omega arith)) (any_range f g (a + 1) n (λ k low high. agree k (omega arith) (omega arith)))

pub under-suc : (t : ℕ) (rows : List ℕ) (p : ℕ) → is_under (suc t) rows p ≡ (is_under t rows (p / 4) || has rows (uniq_number (suc t) p))
unfolding is_under
under-suc t rows p =
    let at : ℕ → Bool = λ k. has rows (uniq_number k (p / 4 ^ (suc t - k))) in
    let orders : range_with_len 0 (suc t + 1) ≡ range_with_len 0 (t + 1) ++ suc t ∷ [] =
    ap (range_with_len 0) (add-one (suc t)) ∙ range_more 0 (suc t) ∙ ap₂ (λ xs (z : ℕ). range_with_len 0 xs ++ z ∷ []) (sym (add-one t)) (omega arith) in
    ap (list_any at) orders ∙ list_any-append at (range_with_len 0 (t + 1)) (suc t ∷ [])
    ∙ ap₂ (λ x y. x || y)
    (any_range at (λ k. has rows (uniq_number k (p / 4 / 4 ^ (t - k)))) 0 (t + 1) (λ k low high. ap (λ (z : ℕ). has rows (uniq_number k z)) (shorter t k p (omega arith))))
    (or_false (at (suc t)) ∙ ap (λ (z : ℕ). has rows (uniq_number (suc t) z)) (ap (λ (z : ℕ). p / 4 ^ z) (let e : suc t - suc t ≡ 0 = omega arith in e) ∙ div-one p))
  where
    or_false : (b : Bool) → (b || false) ≡ b
    or_false true = refl
    or_false false = refl

    shorter : (t k p : ℕ) → k ≤ t → p / 4 ^ (suc t - k) ≡ p / 4 / 4 ^ (t - k)
    shorter t k p h =
        let e : suc t - k ≡ suc (t - k) = omega arith in
        ap (λ (z : ℕ). p / 4 ^ z) e ∙ ap (λ (z : ℕ). p / z) (power_more (t - k)) ∙ sym (div-div-eq-div-mul p 4 (4 ^ (t - k)))

-- only the rows of orders up to t matter
pub under-low : (t : ℕ) (rows other : List ℕ) (p : ℕ) → p < cell_count t → ((row : ℕ) → row < 16 * 4 ^ t → has rows row ≡ has other row) → is_under t rows p ≡ is_under t other p
under-low zero rows other p below same = under-zero rows p ∙ same (uniq_number 0 p) (omega arith) ∙ sym (under-zero other p)
under-low (suc t) rows other p below same =
    let e : 4 ^ suc t ≡ 4 * 4 ^ t = power_more t in
    under-suc t rows p
    ∙ ap₂ (λ a b. a || b) (under-low t rows other (p / 4) (parent_below t p below) (λ row lt. same row (omega arith))) (same (uniq_number (suc t) p) (omega arith))
    ∙ sym (under-suc t other p)

-- the same by the order
pub under_first : (k : ℕ) (rows : List ℕ) (p : ℕ) → k ≡ 0 → has rows (uniq_number k p) ≡ is_under k rows p
under_first zero rows p e = sym (under-zero rows p)
under_first (suc t) rows p e = absurd (omega arith)

pub under_or : (k : ℕ) (rows : List ℕ) (p : ℕ) → 0 < k → (has rows (uniq_number k p) || is_under (k - 1) rows (p / 4)) ≡ is_under k rows p
under_or zero rows p some = absurd (omega arith)
under_or (suc t) rows p some =
    let same : suc t - 1 ≡ t = omega arith in
    ap (λ (j : ℕ). has rows (uniq_number (suc t) p) || is_under j rows (p / 4)) same ∙ turn (has rows (uniq_number (suc t) p)) (is_under t rows (p / 4)) ∙ sym (under-suc t rows p)
  where
    turn : (a b : Bool) → (a || b) ≡ (b || a)
    turn true true = refl
    turn true false = refl
    turn false true = refl
    turn false false = refl

pub under_own : (k : ℕ) (rows : List ℕ) (p : ℕ) → has rows (uniq_number k p) ≡ true → is_under k rows p ≡ true
under_own zero rows p row = under-zero rows p ∙ row
under_own (suc t) rows p row = under-suc t rows p ∙ or_right (is_under t rows (p / 4)) (has rows (uniq_number (suc t) p)) row

-- a cell lies under the rows of a cover exactly where it is among the cells that the cover was made of
pub under-cover : (t : ℕ) (cells : List ℕ) (p : ℕ) → p < cell_count t → is_under t (cover t cells) p ≡ has cells p
under-cover zero cells p below = under-zero (cover 0 cells) p ∙ cover-first cells p below
under-cover (suc t) cells p below =
    let lt : p / 4 < cell_count t = parent_below t p below in
    under-suc t (cover (suc t) cells) p
    ∙ ap₂ (λ a b. a || b)
    (under-low t (cover (suc t) cells) (cover t (above t cells)) (p / 4) lt (cover-low t cells) ∙ under-cover t (above t cells) (p / 4) lt ∙ has-above t cells (p / 4) lt)
    (cover-own t cells p below)
    ∙ either (has cells p) (four (has cells) (p / 4)) (λ h. four_at (has cells) (p / 4) h p refl)
  where
    either : (a b : Bool) → (b ≡ true → a ≡ true) → (b || (a && not b)) ≡ a
    either true true f = refl
    either true false f = refl
    either false true f = sym (f refl)
    either false false f = refl

-- ---- a cover is known by its leaves

pub has-leaves_under : (t : ℕ) (rows : List ℕ) (p : ℕ) → p < cell_count t → has (leaves_under t rows) p ≡ is_under t rows p
unfolding leaves_under
has-leaves_under t rows p below = has-filter (is_under t rows) (range_with_len 0 (cell_count t)) p ∙ ap (λ b. b && is_under t rows p) (in_range (cell_count t) p below)

pub leaves_below : (t : ℕ) (rows : List ℕ) (p : ℕ) → has (leaves_under t rows) p ≡ true → p < cell_count t
unfolding leaves_under
leaves_below t rows p h = range_bound (cell_count t) p (and_parts (has (range_with_len 0 (cell_count t)) p) (is_under t rows p) (sym (has-filter (is_under t rows) (range_with_len 0 (cell_count t)) p) ∙ h)).0

pub up-leaves_under : (t : ℕ) (rows : List ℕ) → IsAscending (leaves_under t rows)
unfolding leaves_under
up-leaves_under t rows = up-filter (is_under t rows) (range_with_len 0 (cell_count t)) (up-range 0 (cell_count t))

-- the leaves that a cover was made of are those under its rows
pub has-leaves-cover : (t : ℕ) (cells : List ℕ) (p : ℕ) → p < cell_count t → has (leaves_under t (cover t cells)) p ≡ has cells p
has-leaves-cover t cells p below = has-leaves_under t (cover t cells) p below ∙ under-cover t cells p below

pub leaves-cover : (t : ℕ) (cells : List ℕ) → IsAscending cells → ((p : ℕ) → has cells p ≡ true → p < cell_count t) → leaves_under t (cover t cells) ≡ cells
leaves-cover t cells up below = up-same (leaves_under t (cover t cells)) cells (up-leaves_under t (cover t cells)) up (λ p. same_bools (has (leaves_under t (cover t cells)) p) (has cells p)
    (λ h. sym (has-leaves-cover t cells p (leaves_below t (cover t cells) p h)) ∙ h)
    (λ h. has-leaves-cover t cells p (below p h) ∙ h))

-- and they have the same cover
pub cover-leaves : (t : ℕ) (cells : List ℕ) → cover t cells ≡ cover t (leaves_under t (cover t cells))
cover-leaves t cells = cover-same t cells (leaves_under t (cover t cells)) (λ p lt. sym (has-leaves-cover t cells p lt))

-- ---- rows that agree with a cover

pub agrees_none : (t : ℕ) (rows cells : List ℕ) → AgreesUpTo t rows cells → (row : ℕ) → row < 4 → has rows row ≡ false
agrees_none t rows cells agrees row below =
    let q : 0 < 4 ^ t = power_positive t in
    agrees row (omega arith) ∙ false_where (has (cover t cells) row) (λ h. let low : 4 ≤ row = (cover_bounds t cells row h).0 in absurd (omega arith))

pub agrees_first : (rows cells : List ℕ) → AgreesUpTo 0 rows cells → (p : ℕ) → p < cell_count 0 → has rows (uniq_number 0 p) ≡ has cells p
agrees_first rows cells agrees p below = agrees (uniq_number 0 p) (omega arith) ∙ cover-first cells p below

pub agrees_low : (t : ℕ) (rows cells : List ℕ) → AgreesUpTo (suc t) rows cells → AgreesUpTo t rows (above t cells)
agrees_low t rows cells agrees = λ row below. let e : 4 ^ suc t ≡ 4 * 4 ^ t = power_more t in agrees row (omega arith) ∙ cover-low t cells row below

pub agrees_own : (t : ℕ) (rows cells : List ℕ) → AgreesUpTo (suc t) rows cells → (p : ℕ) → p < cell_count (suc t) → has rows (uniq_number (suc t) p) ≡ single cells p
agrees_own t rows cells agrees p below = agrees (uniq_number (suc t) p) (omega arith) ∙ cover-own t cells p below

pub agrees_zero : (rows cells : List ℕ) → ((row : ℕ) → row < 4 → has rows row ≡ false) → ((p : ℕ) → p < cell_count 0 → has rows (uniq_number 0 p) ≡ has cells p) → AgreesUpTo 0 rows cells
agrees_zero rows cells none first = λ row below. elim (cases_lt row 4) [
  | inl lt ↦ none row lt ∙ sym (false_where (has (cover 0 cells) row) (λ h. let low : 4 ≤ row = (cover_bounds 0 cells row h).0 in absurd (omega arith)))
  | inr ge ↦
      let n : (p : ℕ) × (p < cell_count 0) × (uniq_number 0 p ≡ row) = number_of 0 row (omega arith) below in
      subst (λ (z : ℕ). has rows z ≡ has (cover 0 cells) z) n.2 (first n.0 n.1 ∙ sym (cover-first cells n.0 n.1))
]

pub agrees_suc : (t : ℕ) (rows cells : List ℕ) → AgreesUpTo t rows (above t cells) → ((p : ℕ) → p < cell_count (suc t) → has rows (uniq_number (suc t) p) ≡ single cells p) → AgreesUpTo (suc t) rows cells
agrees_suc t rows cells low own = λ row below. elim (cases_lt row (16 * 4 ^ t)) [
  | inl lt ↦ low row lt ∙ sym (cover-low t cells row lt)
  | inr ge ↦
      let e : 4 ^ suc t ≡ 4 * 4 ^ t = power_more t in
      let n : (p : ℕ) × (p < cell_count (suc t)) × (uniq_number (suc t) p ≡ row) = number_of (suc t) row (omega arith) below in
      subst (λ (z : ℕ). has rows z ≡ has (cover (suc t) cells) z) n.2 (own n.0 n.1 ∙ sym (cover-own t cells n.0 n.1))
]

pub agrees_same : (t : ℕ) (rows cells other : List ℕ) → ((p : ℕ) → p < cell_count t → has cells p ≡ has other p) → AgreesUpTo t rows cells → AgreesUpTo t rows other
agrees_same t rows cells other same agrees = λ row below. agrees row below ∙ ap (λ (zs : List ℕ). has zs row) (cover-same t cells other same)

-- ascending rows that agree with a cover, and have no row of a further order, are the cover
pub agrees_all : (t : ℕ) (rows cells : List ℕ) → IsAscending rows → AgreesUpTo t rows cells → ((row : ℕ) → 16 * 4 ^ t ≤ row → has rows row ≡ false) → rows ≡ cover t cells
agrees_all t rows cells up agrees none = up-same rows (cover t cells) up (up-cover t cells) (λ row. elim (cases_lt row (16 * 4 ^ t)) [
  | inl lt ↦ agrees row lt
  | inr ge ↦ none row ge ∙ sym (false_where (has (cover t cells) row) (λ h. let lt : row < 16 * 4 ^ t = (cover_bounds t cells row h).1 in absurd (omega arith)))
])

-- ---- covers as values

-- the cover of some cells is that of the leaves under it
pub is_cover : (t : ℕ) (rows cells : List ℕ) → rows ≡ cover t cells → rows ≡ cover t (leaves_under t rows)
is_cover t rows cells e = e ∙ cover-leaves t cells ∙ ap (λ (zs : List ℕ). cover t (leaves_under t zs)) (sym e)

pub agrees_itself : (t : ℕ) (rows cells : List ℕ) → rows ≡ cover t cells → AgreesUpTo t rows cells
agrees_itself t rows cells e = λ row below. ap (λ (zs : List ℕ). has zs row) e

pub up-itself : (t : ℕ) (rows cells : List ℕ) → rows ≡ cover t cells → IsAscending rows
up-itself t rows cells e = subst IsAscending (sym e) (up-cover t cells)

none_above : (t : ℕ) (rows cells : List ℕ) → rows ≡ cover t cells → (row : ℕ) → 16 * 4 ^ t ≤ row → has rows row ≡ false
none_above t rows cells e row high = ap (λ (zs : List ℕ). has zs row) e ∙ false_where (has (cover t cells) row) (λ h. let lt : row < 16 * 4 ^ t = (cover_bounds t cells row h).1 in absurd (omega arith))

-- whether a leaf is there
pub leaf_there : (t : ℕ) (rows : List ℕ) (leaf : ℕ) (b : Bool) → leaf < cell_count t → b ≡ is_under t rows leaf → has (leaves_under t rows) leaf ≡ b
leaf_there t rows leaf b below e = has-leaves_under t rows leaf below ∙ sym e

-- a leaf that is there changes nothing
pub add_again : (t : ℕ) (rows : List ℕ) (leaf : ℕ) → rows ≡ cover t (leaves_under t rows) → has (leaves_under t rows) leaf ≡ true → rows ≡ cover t (leaf ∷ leaves_under t rows)
add_again t rows leaf e there = e ∙ cover-same t (leaves_under t rows) (leaf ∷ leaves_under t rows) (λ p lt. same_bools (has (leaves_under t rows) p) (has (leaf ∷ leaves_under t rows) p)
    (λ h. has-tail leaf (leaves_under t rows) p h)
    (λ h. elim (has-cases leaf (leaves_under t rows) p h) [
      | inl same ↦ subst (λ (z : ℕ). has (leaves_under t rows) z ≡ true) same there
      | inr h ↦ h
    ]))

-- changed rows that agree with the cover of other cells, and are the same above
pub changed : (t : ℕ) (rows rows1 cells other : List ℕ) → rows ≡ cover t cells → IsAscending rows1 → AgreesUpTo t rows1 other → SameAbove t rows1 rows → rows1 ≡ cover t other
changed t rows rows1 cells other e up agrees same = agrees_all t rows1 other up agrees (λ row high. same row high ∙ none_above t rows cells e row high)
