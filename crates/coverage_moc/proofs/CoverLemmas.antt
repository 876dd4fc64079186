-- The cover, order by order: the cover of some cells of an order is the cover of the cells above them that are full, and then
-- those cells that have no full cell above them.
use Rattle.std.proofs.Common.{◌≡◌, ◌⊎◌, inl, inr, ℕ, zero, suc, ◌+◌, ◌-◌, ◌*◌, ◌/◌, ◌^◌, ◌<◌, ◌≤◌, Bool, true, false, not, ◌&&◌, ◌||◌, eqb, leb, List, [], ◌∷◌, ◌++◌, map, filter, flat_map, refl, sym, ap, ap₂, ◌∙◌, subst, arith, append-nil, pow-suc, add-one}
use Rattle.std.specs.List.{range_with_len}
use Rattle.std.proofs.lemmas.Bool.{true≢false, cases_eq, cases_Bool, or_cases, or_left, or_right, and_parts, and_from, not-true, not_from_false, le-leb, eq-eqb, ne_eqb}
use Rattle.std.proofs.lemmas.List.Concat.{flat_map-append}
use Rattle.healpix_nested.specs.Cells.{cell_count, lies_under, uniq_number}
use Rattle.healpix_nested.specs.CellLaws.{under_self, under_trans, under_one, under_means_child}
use Rattle.coverage_moc.specs.Cover.{has, is_full, is_row, rows_of_order, cover}
use Rattle.coverage_moc.specs.Rows.{four}
use Rattle.coverage_moc.proofs.MemberLemmas.{same_bools, false_where, has-filter, in_range, range_bound, all_pass, pass_all, range_more, flat_map_range, filter_in_range}

-- ---- four children

pub power_more : (t : ℕ) → 4 ^ suc t ≡ 4 * 4 ^ t
power_more t = let e : 4 ^ suc t ≡ 4 ^ t * 4 = pow-suc 4 t in omega arith

pub power_positive : (t : ℕ) → 0 < 4 ^ t
power_positive zero = omega arith
power_positive (suc t) = let h : 0 < 4 ^ t = power_positive t in let e : 4 ^ suc t ≡ 4 * 4 ^ t = power_more t in omega arith

pub child_cases : (c q : ℕ) → c / 4 ≡ q → (c ≡ 4 * q) ⊎ ((c ≡ 4 * q + 1) ⊎ ((c ≡ 4 * q + 2) ⊎ (c ≡ 4 * q + 3)))
child_cases c q e = elim (cases_eq c (4 * q)) [
  | inl h ↦ inl h
  | inr n0 ↦ elim (cases_eq c (4 * q + 1)) [
    | inl h ↦ inr (inl h)
    | inr n1 ↦ elim (cases_eq c (4 * q + 2)) [
      | inl h ↦ inr (inr (inl h))
      | inr n2 ↦ inr (inr (inr (last c q e n0 n1 n2)))
    ]
  ]
]
  where
    last : (c q : ℕ) → c / 4 ≡ q → (c ≡ 4 * q → ⊥) → (c ≡ 4 * q + 1 → ⊥) → (c ≡ 4 * q + 2 → ⊥) → c ≡ 4 * q + 3
    last c q e n0 n1 n2 = omega arith

pub four_at : (test : ℕ → Bool) (q : ℕ) → four test q ≡ true → (c : ℕ) → c / 4 ≡ q → test c ≡ true
four_at test q h c e =
    let a : (test (4 * q) ≡ true) × ((test (4 * q + 1) && (test (4 * q + 2) && test (4 * q + 3))) ≡ true) = and_parts (test (4 * q)) (test (4 * q + 1) && (test (4 * q + 2) && test (4 * q + 3))) h in
    let b : (test (4 * q + 1) ≡ true) × ((test (4 * q + 2) && test (4 * q + 3)) ≡ true) = and_parts (test (4 * q + 1)) (test (4 * q + 2) && test (4 * q + 3)) a.1 in
    let d : (test (4 * q + 2) ≡ true) × (test (4 * q + 3) ≡ true) = and_parts (test (4 * q + 2)) (test (4 * q + 3)) b.1 in
    elim (child_cases c q e) [
      | inl k ↦ ap test k ∙ a.0
      | inr (inl k) ↦ ap test k ∙ b.0
      | inr (inr (inl k)) ↦ ap test k ∙ d.0
      | inr (inr (inr k)) ↦ ap test k ∙ d.1
    ]

pub four_from : (test : ℕ → Bool) (q : ℕ) → ((c : ℕ) → c / 4 ≡ q → test c ≡ true) → four test q ≡ true
four_from test q f =
    and_from (test (4 * q)) (test (4 * q + 1) && (test (4 * q + 2) && test (4 * q + 3))) (f (4 * q) (omega arith))
    (and_from (test (4 * q + 1)) (test (4 * q + 2) && test (4 * q + 3)) (f (4 * q + 1) (omega arith))
    (and_from (test (4 * q + 2)) (test (4 * q + 3)) (f (4 * q + 2) (omega arith)) (f (4 * q + 3) (omega arith))))

-- one child is missing
pub four_misses : (test : ℕ → Bool) (c : ℕ) → test c ≡ false → four test (c / 4) ≡ false
four_misses test c f = false_where (four test (c / 4)) (λ t. sym f ∙ four_at test (c / 4) t c refl)

-- tests that agree on the children
pub four_agree : (test other : ℕ → Bool) (q : ℕ) → ((c : ℕ) → c / 4 ≡ q → test c ≡ other c) → four test q ≡ four other q
four_agree test other q agree = same_bools (four test q) (four other q)
    (λ t. four_from other q (λ c e. sym (agree c e) ∙ four_at test q t c e))
    (λ t. four_from test q (λ c e. agree c e ∙ four_at other q t c e))

-- ---- full cells

pub full_at : (top : ℕ) (leaves : List ℕ) (k p : ℕ) → is_full top leaves k p ≡ true → (leaf : ℕ) → leaf < cell_count top → lies_under top leaf k p ≡ true → has leaves leaf ≡ true
unfolding is_full
full_at top leaves k p full leaf below under =
    elim (or_cases (not (lies_under top leaf k p)) (has leaves leaf) (all_pass (λ leaf. not (lies_under top leaf k p) || has leaves leaf) (range_with_len 0 (cell_count top)) full leaf (in_range (cell_count top) leaf below))) [
      | inl n ↦ absurd (true≢false (sym under ∙ not-true (lies_under top leaf k p) n))
      | inr h ↦ h
    ]

pub full_from : (top : ℕ) (leaves : List ℕ) (k p : ℕ) → ((leaf : ℕ) → leaf < cell_count top → lies_under top leaf k p ≡ true → has leaves leaf ≡ true) → is_full top leaves k p ≡ true
unfolding is_full
full_from top leaves k p f = pass_all (λ leaf. not (lies_under top leaf k p) || has leaves leaf) (range_with_len 0 (cell_count top)) (λ leaf h. elim (cases_Bool (lies_under top leaf k p)) [
  | inl t ↦ or_right (not (lies_under top leaf k p)) (has leaves leaf) (f leaf (range_bound (cell_count top) leaf h) t)
  | inr n ↦ or_left (not (lies_under top leaf k p)) (has leaves leaf) (not_from_false (lies_under top leaf k p) n)
])

-- at the order of the leaves
full-leaf : (t : ℕ) (leaves : List ℕ) (p : ℕ) → p < cell_count t → is_full t leaves t p ≡ has leaves p
full-leaf t leaves p below = same_bools (is_full t leaves t p) (has leaves p)
    (λ full. full_at t leaves t p full p below (under_self t p))
    (λ h. full_from t leaves t p (λ leaf lt under. subst (λ (z : ℕ). has leaves z ≡ true) (sym (under_one t leaf t leaf p (under_self t leaf) under)) h))

-- the cells of order t all of whose children are there
abbrev pub above : ℕ → List ℕ → List ℕ
above t cells = filter (four (has cells)) (range_with_len 0 (cell_count t))

pub has-above : (t : ℕ) (cells : List ℕ) (q : ℕ) → q < cell_count t → has (above t cells) q ≡ four (has cells) q
has-above t cells q below = has-filter (four (has cells)) (range_with_len 0 (cell_count t)) q ∙ ap (λ b. b && four (has cells) q) (in_range (cell_count t) q below)

pub child_below : (t c q : ℕ) → c / 4 ≡ q → q < cell_count t → c < cell_count (suc t)
child_below t c q e below = let p : 4 ^ suc t ≡ 4 * 4 ^ t = power_more t in omega arith

pub parent_below : (t c : ℕ) → c < cell_count (suc t) → c / 4 < cell_count t
parent_below t c below = let p : 4 ^ suc t ≡ 4 * 4 ^ t = power_more t in omega arith

pub parent_of_order : (k c : ℕ) → 0 < k → c < cell_count k → c / 4 < cell_count (k - 1)
parent_of_order zero c some below = absurd (omega arith)
parent_of_order (suc t) c some below = let order : suc t - 1 ≡ t = omega arith in subst (λ (j : ℕ). c / 4 < cell_count j) (sym order) (parent_below t c below)

child_lies : (t c q : ℕ) → c / 4 ≡ q → lies_under (suc t) c t q ≡ true
child_lies t c q e = rw add-one at ((under_means_child t q c).1 (omega arith, omega arith))

lies_at : (t q k : ℕ) → k ≤ t → lies_under t q k (q / 4 ^ (t - k)) ≡ true
lies_at t q k h = and_from (leb k t) (eqb (q / 4 ^ (t - k)) (q / 4 ^ (t - k))) (le-leb k t h) (eq-eqb (q / 4 ^ (t - k)) (q / 4 ^ (t - k)) refl)

-- a cell is full where the cells of the next order above the leaves are
full-above : (t : ℕ) (leaves : List ℕ) (k p : ℕ) → k ≤ t → is_full (suc t) leaves k p ≡ is_full t (above t leaves) k p
full-above t leaves k p h = same_bools (is_full (suc t) leaves k p) (is_full t (above t leaves) k p)
    (λ full. full_from t (above t leaves) k p (λ q below under. has-above t leaves q below ∙ four_from (has leaves) q (λ c e.
    full_at (suc t) leaves k p full c (child_below t c q e below) (under_trans (suc t) c t q k p (child_lies t c q e) under))))
    (λ full. full_from (suc t) leaves k p (λ leaf below under.
    let up : lies_under (suc t) leaf k (leaf / 4 / 4 ^ (t - k)) ≡ true = under_trans (suc t) leaf t (leaf / 4) k (leaf / 4 / 4 ^ (t - k)) (child_lies t leaf (leaf / 4) refl) (lies_at t (leaf / 4) k h) in
    let same : leaf / 4 / 4 ^ (t - k) ≡ p = under_one (suc t) leaf k (leaf / 4 / 4 ^ (t - k)) p up under in
    let there : lies_under t (leaf / 4) k p ≡ true = subst (λ (z : ℕ). lies_under t (leaf / 4) k z ≡ true) same (lies_at t (leaf / 4) k h) in
    let lt : leaf / 4 < cell_count t = parent_below t leaf below in
    four_at (has leaves) (leaf / 4) (sym (has-above t leaves (leaf / 4) lt) ∙ full_at t (above t leaves) k p full (leaf / 4) lt there) leaf refl))

-- ---- the cover by orders

-- a cell that is there and whose parent isn't full
abbrev pub single : List ℕ → ℕ → Bool
single cells p = has cells p && not (four (has cells) (p / 4))

row-above : (t : ℕ) (leaves : List ℕ) (k p : ℕ) → k ≤ t → is_row (suc t) leaves k p ≡ is_row t (above t leaves) k p
row-above t leaves k p h = ap₂ (λ a b. a && (eqb k 0 || not b)) (full-above t leaves k p h) (full-above t leaves (k - 1) (p / 4) (omega arith))

row-leaf : (t : ℕ) (leaves : List ℕ) (p : ℕ) → p < cell_count (suc t) → is_row (suc t) leaves (suc t) p ≡ single leaves p
row-leaf t leaves p below =
    let lt : p / 4 < cell_count t = parent_below t p below in
    let order : suc t - 1 ≡ t = omega arith in
    let up : is_full (suc t) leaves (suc t - 1) (p / 4) ≡ four (has leaves) (p / 4) =
    ap (λ (k : ℕ). is_full (suc t) leaves k (p / 4)) order ∙ full-above t leaves t (p / 4) (omega arith) ∙ full-leaf t (above t leaves) (p / 4) lt ∙ has-above t leaves (p / 4) lt in
    let low : eqb (suc t) 0 ≡ false = ne_eqb (suc t) 0 (λ e. omega arith) in
    ap₂ (λ a b. a && (eqb (suc t) 0 || not b)) (full-leaf (suc t) leaves p below) up ∙ ap (λ b. has leaves p && (b || not (four (has leaves) (p / 4)))) low

row-zero : (leaves : List ℕ) (p : ℕ) → p < cell_count 0 → is_row 0 leaves 0 p ≡ has leaves p
row-zero leaves p below = ap (λ b. b && true) (full-leaf 0 leaves p below) ∙ and_true (has leaves p)
  where
    and_true : (b : Bool) → (b && true) ≡ b
    and_true true = refl
    and_true false = refl

pub cover-zero : (leaves : List ℕ) → cover 0 leaves ≡ map (uniq_number 0) (filter (has leaves) (range_with_len 0 (cell_count 0)))
unfolding cover
cover-zero leaves = append-nil (rows_of_order 0 leaves 0) ∙ ap (map (uniq_number 0)) (filter_in_range (is_row 0 leaves 0) (has leaves) (cell_count 0) (row-zero leaves))

pub cover-suc : (t : ℕ) (leaves : List ℕ) → cover (suc t) leaves ≡ cover t (above t leaves) ++ map (uniq_number (suc t)) (filter (single leaves) (range_with_len 0 (cell_count (suc t))))
unfolding cover
cover-suc t leaves =
    let orders : range_with_len 0 (suc t + 1) ≡ range_with_len 0 (t + 1) ++ suc t ∷ [] =
    ap (range_with_len 0) (add-one (suc t)) ∙ range_more 0 (suc t) ∙ ap₂ (λ xs (z : ℕ). range_with_len 0 xs ++ z ∷ []) (sym (add-one t)) (omega arith) in
    ap (flat_map (rows_of_order (suc t) leaves)) orders
    ∙ flat_map-append (rows_of_order (suc t) leaves) (range_with_len 0 (t + 1)) (suc t ∷ [])
    ∙ ap₂ (λ xs ys. xs ++ ys)
    (flat_map_range (rows_of_order (suc t) leaves) (rows_of_order t (above t leaves)) 0 (t + 1) (λ k low high. ap (map (uniq_number k)) (filter_in_range (is_row (suc t) leaves k) (is_row t (above t leaves) k) (cell_count k) (λ p lt. row-above t leaves k p (omega arith)))))
    (append-nil (rows_of_order (suc t) leaves (suc t)) ∙ ap (map (uniq_number (suc t))) (filter_in_range (is_row (suc t) leaves (suc t)) (single leaves) (cell_count (suc t)) (row-leaf t leaves)))
