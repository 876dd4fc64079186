-- The leaves under rows as a list: the children of the cells above, and the order's own rows among them.
use Rattle.std.proofs.Common.{◌≡◌, ◌⊎◌, inl, inr, ℕ, zero, suc, ◌+◌, ◌-◌, ◌*◌, ◌/◌, ◌^◌, ◌<◌, ◌≤◌, Bool, true, false, ◌&&◌, ◌||◌, eqb, leb, ltb, List, [], ◌∷◌, length, take, get_or, flat_map, All, refl, sym, ap, ap₂, ◌∙◌, arith}
use Rattle.std.specs.List.{range_with_len}
use Rattle.std.proofs.lemmas.Bool.{true≢false, lt-ltb, ltb-true, eq-eqb, eqb-true}
use Rattle.std.proofs.lemmas.Bool.Decides.{nat_tests}
use Rattle.std.proofs.lemmas.List.Folds.{list_any_more}
use Rattle.healpix_nested.specs.Cells.{cell_count, uniq_number}
use Rattle.healpix_nested.specs.CellLaws.{four_pow_mono}
use Rattle.coverage_moc.specs.Cover.{has, IsAscending, is_under, leaves_under}
use Rattle.coverage_moc.specs.Rows.{SameMembers, four_cells}
use Rattle.coverage_moc.proofs.MemberLemmas.{same_bools, all_from_has, has-append, has-filter, has-range, has-cases, up-nil, up-cons, up-head, up-tail, up-append, up-same}
use Rattle.coverage_moc.proofs.CoverLemmas.{power_more}
use Rattle.coverage_moc.proofs.TreeLemmas.{under-zero, under-suc, leaves_below, up-leaves_under}
use Rattle.coverage_moc.proofs.EditLemmas.{eqb-uniq, has-children}

turn : (a b : ℕ) → eqb a b ≡ eqb b a
turn a b = same_bools (eqb a b) (eqb b a) (λ h. eq-eqb b a (sym (eqb-true a b h))) (λ h. eq-eqb a b (sym (eqb-true b a h)))

-- ---- children

has-four : (q c : ℕ) → has (four_cells q) c ≡ eqb (c / 4) q
has-four q c =
    sym (ap₂ (λ a b. a || b) (eqb-uniq 0 (4 * q) c) (ap₂ (λ a b. a || b) (eqb-uniq 0 (4 * q + 1) c) (ap₂ (λ a b. a || b) (eqb-uniq 0 (4 * q + 2) c) (ap (λ a. a || false) (eqb-uniq 0 (4 * q + 3) c)))))
    ∙ has-children 0 q c

has-fours : (cells : List ℕ) (c : ℕ) → has (flat_map four_cells cells) c ≡ has cells (c / 4)
has-fours [] c = refl
has-fours (q ∷ cells) c = has-append (four_cells q) (flat_map four_cells cells) c ∙ ap₂ (λ a b. a || b) (has-four q c ∙ turn (c / 4) q) (has-fours cells c)

up-four : (q : ℕ) → IsAscending (four_cells q)
up-four q =
    up-cons (4 * q) ((4 * q + 1) ∷ (4 * q + 2) ∷ (4 * q + 3) ∷ []) (λ y h. elim (has-cases (4 * q + 1) ((4 * q + 2) ∷ (4 * q + 3) ∷ []) y h) [
      | inl e ↦ omega arith
      | inr h1 ↦ elim (has-cases (4 * q + 2) ((4 * q + 3) ∷ []) y h1) [
        | inl e ↦ omega arith
        | inr h2 ↦ elim (has-cases (4 * q + 3) [] y h2) [ inl e ↦ omega arith | inr never ↦ absurd (true≢false (sym never)) ]
      ]
    ]) (up-cons (4 * q + 1) ((4 * q + 2) ∷ (4 * q + 3) ∷ []) (λ y h. elim (has-cases (4 * q + 2) ((4 * q + 3) ∷ []) y h) [
      | inl e ↦ omega arith
      | inr h1 ↦ elim (has-cases (4 * q + 3) [] y h1) [ inl e ↦ omega arith | inr never ↦ absurd (true≢false (sym never)) ]
    ]) (up-cons (4 * q + 2) ((4 * q + 3) ∷ []) (λ y h. elim (has-cases (4 * q + 3) [] y h) [ inl e ↦ omega arith | inr never ↦ absurd (true≢false (sym never)) ])
    (up-cons (4 * q + 3) [] (λ y never. absurd (true≢false (sym never))) up-nil)))

pub up-fours : (cells : List ℕ) → IsAscending cells → IsAscending (flat_map four_cells cells)
up-fours [] up = up-nil
up-fours (q ∷ cells) up = up-append (four_cells q) (flat_map four_cells cells) (up-four q) (up-fours cells (up-tail q cells up)) (λ a b ha hb.
    let first : a / 4 ≡ q = eqb-true (a / 4) q (sym (has-four q a) ∙ ha) in
    let later : q < b / 4 = up-head q cells up (b / 4) (sym (has-fours cells b) ∙ hb) in
    omega arith)

pub parents_few : (k : ℕ) (rows : List ℕ) → k ≤ 11 → All (λ p. p < 2 ^ 32) (leaves_under k rows)
parents_few k rows few =
    let most : 4 ^ k ≤ 4 ^ 11 = four_pow_mono k 11 few in
    all_from_has (λ p. p < 2 ^ 32) (leaves_under k rows) (λ p h. let below : p < cell_count k = leaves_below k rows p h in omega arith)

-- ---- an order's own rows

-- the cells so far, and those of the first i rows
abbrev pub OwnUpTo : ℕ → List ℕ → List ℕ → List ℕ → Type 0
OwnUpTo k rows old cells = (p : ℕ) → has cells p ≡ (has old p || (ltb p (12 * 4 ^ k) && has rows (uniq_number k p)))

pub own_none : (k : ℕ) (rows old : List ℕ) → OwnUpTo k [] old old
own_none k rows old = λ p. sym (none (has old p) (ltb p (12 * 4 ^ k)))
  where
    none : (a b : Bool) → (a || (b && false)) ≡ a
    none true true = refl
    none true false = refl
    none false true = refl
    none false false = refl

has-more : (k : ℕ) (rows : List ℕ) (i p : ℕ) → i < length rows → has (take (i + 1) rows) (uniq_number k p) ≡ (has (take i rows) (uniq_number k p) || eqb (get_or rows i 0) (uniq_number k p))
has-more k rows i p within = list_any_more (λ y. eqb y (uniq_number k p)) rows i 0 within

pub own_more : (k first : ℕ) (rows old cells new : List ℕ) (i : ℕ) → first ≡ 4 * 4 ^ k → i < length rows → first ≤ get_or rows i 0 → get_or rows i 0 < 4 * first
    → SameMembers new ((get_or rows i 0 - first) ∷ cells) → OwnUpTo k (take i rows) old cells → OwnUpTo k (take (i + 1) rows) old new
own_more k first rows old cells new i is within low high put so_far = λ p.
    let row : ℕ = get_or rows i 0 in
    let same : eqb (row - first) p ≡ eqb row (uniq_number k p) = same_bools (eqb (row - first) p) (eqb row (uniq_number k p))
    (λ h. let e : row - first ≡ p = eqb-true (row - first) p h in eq-eqb row (uniq_number k p) (omega arith))
    (λ h. let e : row ≡ uniq_number k p = eqb-true row (uniq_number k p) h in eq-eqb (row - first) p (omega arith)) in
    put p ∙ ap₂ (λ a b. a || b) same (so_far p)
    ∙ join (eqb row (uniq_number k p)) (has old p) (ltb p (12 * 4 ^ k)) (has (take i rows) (uniq_number k p)) (λ h. let e : row ≡ uniq_number k p = eqb-true row (uniq_number k p) h in lt-ltb p (12 * 4 ^ k) (omega arith))
    ∙ ap (λ b. has old p || (ltb p (12 * 4 ^ k) && b)) (sym (has-more k rows i p within))
  where
    join : (e o n h : Bool) → (e ≡ true → n ≡ true) → (e || (o || (n && h))) ≡ (o || (n && (h || e)))
    join true true n h when = refl
    join true false true true when = refl
    join true false true false when = refl
    join true false false h when = sym (when refl)
    join false true n h when = refl
    join false false true true when = refl
    join false false true false when = refl
    join false false false h when = refl

pub own_other : (k first : ℕ) (rows old cells : List ℕ) (i : ℕ) → first ≡ 4 * 4 ^ k → i < length rows → (get_or rows i 0 < first) ⊎ (4 * first ≤ get_or rows i 0)
    → OwnUpTo k (take i rows) old cells → OwnUpTo k (take (i + 1) rows) old cells
own_other k first rows old cells i is within out so_far = λ p.
    let row : ℕ = get_or rows i 0 in
    so_far p ∙ ap (λ b. has old p || b) (skip (ltb p (12 * 4 ^ k)) (has (take i rows) (uniq_number k p)) (eqb row (uniq_number k p)) (λ h e.
    let lt : p < 12 * 4 ^ k = ltb-true p (12 * 4 ^ k) h in
    let at : row ≡ uniq_number k p = eqb-true row (uniq_number k p) e in
    elim out [ inl l ↦ absurd (omega arith) | inr g ↦ absurd (omega arith) ]))
    ∙ ap (λ b. has old p || (ltb p (12 * 4 ^ k) && b)) (sym (has-more k rows i p within))
  where
    skip : (n h e : Bool) → (n ≡ true → e ≡ true → ⊥) → (n && h) ≡ (n && (h || e))
    skip true true e never = refl
    skip true false true never = absurd (never refl refl)
    skip true false false never = refl
    skip false h e never = refl

-- ---- the leaves

from_nought : (n p : ℕ) → (leb 0 p && ltb p (0 + n)) ≡ ltb p n
from_nought n p = grind (arith, nat_tests)

leaf_has : (k : ℕ) (rows : List ℕ) (p : ℕ) → has (leaves_under k rows) p ≡ (ltb p (cell_count k) && is_under k rows p)
unfolding leaves_under
leaf_has k rows p = has-filter (is_under k rows) (range_with_len 0 (cell_count k)) p ∙ ap (λ b. b && is_under k rows p) (has-range 0 (cell_count k) p ∙ from_nought (cell_count k) p)

pub leaves_first : (k : ℕ) (rows cells : List ℕ) → k ≡ 0 → IsAscending cells → OwnUpTo k rows [] cells → cells ≡ leaves_under k rows
leaves_first zero rows cells e up own = up-same cells (leaves_under 0 rows) up (up-leaves_under 0 rows) (λ p. own p ∙ ap (λ b. ltb p (cell_count 0) && b) (sym (under-zero rows p)) ∙ sym (leaf_has 0 rows p))
leaves_first (suc t) rows cells e up own = absurd (omega arith)

pub leaves_more : (k : ℕ) (rows cells : List ℕ) → 0 < k → IsAscending cells → OwnUpTo k rows (flat_map four_cells (leaves_under (k - 1) rows)) cells → cells ≡ leaves_under k rows
leaves_more zero rows cells some up own = absurd (omega arith)
leaves_more (suc t) rows cells some up own = up-same cells (leaves_under (suc t) rows) up (up-leaves_under (suc t) rows) (λ p.
    let order : suc t - 1 ≡ t = omega arith in
    let power : 4 ^ suc t ≡ 4 * 4 ^ t = power_more t in
    let quarter : ltb (p / 4) (cell_count t) ≡ ltb p (cell_count (suc t)) = same_bools (ltb (p / 4) (cell_count t)) (ltb p (cell_count (suc t)))
    (λ h. let lt : p / 4 < cell_count t = ltb-true (p / 4) (cell_count t) h in lt-ltb p (cell_count (suc t)) (omega arith))
    (λ h. let lt : p < cell_count (suc t) = ltb-true p (cell_count (suc t)) h in lt-ltb (p / 4) (cell_count t) (omega arith)) in
    own p ∙ ap (λ b. b || (ltb p (cell_count (suc t)) && has rows (uniq_number (suc t) p)))
    (has-fours (leaves_under (suc t - 1) rows) p ∙ ap (λ (j : ℕ). has (leaves_under j rows) (p / 4)) order ∙ leaf_has t rows (p / 4) ∙ ap (λ b. b && is_under t rows (p / 4)) quarter)
    ∙ share (ltb p (cell_count (suc t))) (is_under t rows (p / 4)) (has rows (uniq_number (suc t) p))
    ∙ ap (λ b. ltb p (cell_count (suc t)) && b) (sym (under-suc t rows p))
    ∙ sym (leaf_has (suc t) rows p))
  where
    share : (n u r : Bool) → ((n && u) || (n && r)) ≡ (n && (u || r))
    share true true r = refl
    share true false r = refl
    share false u r = refl
