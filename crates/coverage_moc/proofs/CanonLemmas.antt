-- Which rows are those of a cover: ascending cells, none under another, and no four siblings.
use Rattle.std.proofs.Common.{◌≡◌, inl, inr, ℕ, zero, suc, ◌+◌, ◌-◌, ◌*◌, ◌/◌, ◌^◌, ◌<◌, ◌≤◌, Bool, true, false, not, ◌&&◌, ◌||◌, eqb, List, length, All, get_or, refl, sym, ap, ap₂, ◌∙◌, subst, subst₂, arith}
use Rattle.std.specs.List.{list_all}
use Rattle.std.proofs.lemmas.Bool.{true≢false, cases_lt, cases_Bool, or_cases, or_left, or_right, and_parts, and_from, not-true, not_from_false, eq-eqb, ne_eqb}
use Rattle.std.proofs.lemmas.Map.Keys.{below_from_sorted, sorted_from_strictly_increasing}
use Rattle.std.proofs.lemmas.Map.Views.{length-le_from_below}
use Rattle.healpix_nested.specs.Cells.{IsCell, cell_count, uniq_number}
use Rattle.healpix_nested.specs.CellLaws.{four_pow_mono, uniq_number_injective}
use Rattle.coverage_moc.specs.Cover.{has, IsAscending, cover, is_under, leaves_under}
use Rattle.coverage_moc.specs.Rows.{four, children, AgreesUpTo, is_alone, IsMaximalRow}
use Rattle.coverage_moc.proofs.MemberLemmas.{same_bools, false_where, all_has, all_from_has}
use Rattle.coverage_moc.proofs.CoverLemmas.{power_more, power_positive, parent_below, child_below, four_at, four_from, four_agree, above, has-above}
use Rattle.coverage_moc.proofs.TreeLemmas.{number_of, cover_bounds, up-cover, cover-low, cover-own, under-zero, under-suc, under-low, under-cover, has-leaves_under, agrees_zero, agrees_suc, agrees_same, agrees_all}
use Rattle.coverage_moc.proofs.EditLemmas.{all-children}

pub cover_few : (t : ℕ) (rows cells : List ℕ) → t ≤ 11 → rows ≡ cover t cells → length rows < 2 ^ 32
cover_few t rows cells few e =
    let most : 4 ^ t ≤ 4 ^ 11 = four_pow_mono t 11 few in
    let count : length (cover t cells) ≤ 16 * 4 ^ t = length-le_from_below (16 * 4 ^ t) (cover t cells) (up-cover t cells) (all_from_has (λ row. row < 16 * 4 ^ t) (cover t cells) (λ row h. (cover_bounds t cells row h).1)) in
    let same : length rows ≡ length (cover t cells) = ap length e in
    omega arith

-- ---- a cell alone

pub alone_parts : (t : ℕ) (rows : List ℕ) (p : ℕ) → is_alone rows (suc t) p ≡ true → (is_under t rows (p / 4) ≡ false) × (four (λ c. has rows (uniq_number (suc t) c)) (p / 4) ≡ false)
alone_parts t rows p alone =
    let low : eqb (suc t) 0 ≡ false = ne_eqb (suc t) 0 (λ e. omega arith) in
    let order : suc t - 1 ≡ t = omega arith in
    elim (or_cases (eqb (suc t) 0) (not (is_under (suc t - 1) rows (p / 4)) && not (list_all (has rows) (children (suc t) (p / 4)))) alone) [
      | inl h ↦ absurd (true≢false (sym h ∙ low))
      | inr h ↦
          let both : (not (is_under (suc t - 1) rows (p / 4)) ≡ true) × (not (list_all (has rows) (children (suc t) (p / 4))) ≡ true) = and_parts (not (is_under (suc t - 1) rows (p / 4))) (not (list_all (has rows) (children (suc t) (p / 4)))) h in (
            ap (λ (j : ℕ). is_under j rows (p / 4)) (sym order) ∙ not-true (is_under (suc t - 1) rows (p / 4)) both.0,
            sym (all-children (suc t) (p / 4) rows) ∙ not-true (list_all (has rows) (children (suc t) (p / 4))) both.1,
          )
    ]

alone_from : (t : ℕ) (rows : List ℕ) (p : ℕ) → is_under t rows (p / 4) ≡ false → four (λ c. has rows (uniq_number (suc t) c)) (p / 4) ≡ false → is_alone rows (suc t) p ≡ true
alone_from t rows p free missing =
    let order : suc t - 1 ≡ t = omega arith in
    or_right (eqb (suc t) 0) (not (is_under (suc t - 1) rows (p / 4)) && not (list_all (has rows) (children (suc t) (p / 4))))
    (and_from (not (is_under (suc t - 1) rows (p / 4))) (not (list_all (has rows) (children (suc t) (p / 4))))
    (not_from_false (is_under (suc t - 1) rows (p / 4)) (ap (λ (j : ℕ). is_under j rows (p / 4)) order ∙ free))
    (not_from_false (list_all (has rows) (children (suc t) (p / 4))) (all-children (suc t) (p / 4) rows ∙ missing)))

cell : (top k p : ℕ) → top ≤ 11 → k ≤ top → p < cell_count k → IsCell k p
cell top k p few within below = record { known_order = omega arith; in_order = below }

pub alone_of : (top : ℕ) (rows : List ℕ) → top ≤ 11 → ((row : ℕ) → has rows row ≡ true → IsMaximalRow top rows row)
    → (k p : ℕ) → k ≤ top → p < cell_count k → has rows (uniq_number k p) ≡ true → is_alone rows k p ≡ true
alone_of top rows few each k p within below h =
    let m : IsMaximalRow top rows (uniq_number k p) = each (uniq_number k p) h in
    let same : (m.0 ≡ k) × (m.1 ≡ p) = uniq_number_injective m.0 m.1 k p (cell top m.0 m.1 few m.2 m.3) (cell top k p few within below) m.4 in
    subst₂ (λ (j q : ℕ). is_alone rows j q ≡ true) same.0 same.1 m.5

-- ---- rows that are all alone

pub agrees_alone : (top : ℕ) (rows : List ℕ) → top ≤ 11 → ((row : ℕ) → has rows row ≡ true → IsMaximalRow top rows row)
    → (t : ℕ) → t ≤ top → AgreesUpTo t rows (leaves_under t rows)
agrees_alone top rows few each zero within = agrees_zero rows (leaves_under 0 rows)
    (λ row low. false_where (has rows row) (λ h.
    let m : IsMaximalRow top rows row = each row h in
    let e : uniq_number m.0 m.1 ≡ row = m.4 in
    let some : 0 < 4 ^ m.0 = power_positive m.0 in
    absurd (omega arith)))
    (λ p lt. sym (has-leaves_under 0 rows p lt ∙ under-zero rows p))
agrees_alone top rows few each (suc t) within =
    let power : 4 ^ suc t ≡ 4 * 4 ^ t = power_more t in
    let leaves : List ℕ = leaves_under (suc t) rows in
    let of : (c : ℕ) → c < cell_count (suc t) → has leaves c ≡ (is_under t rows (c / 4) || has rows (uniq_number (suc t) c)) = λ c lt. has-leaves_under (suc t) rows c lt ∙ under-suc t rows c in
    let fours : (q : ℕ) → q < cell_count t → four (has leaves) q ≡ is_under t rows q = λ q lt. same_bools (four (has leaves) q) (is_under t rows q)
    (λ h. elim (cases_Bool (is_under t rows q)) [
      | inl u ↦ u
      | inr u ↦
          let all : (c : ℕ) → c / 4 ≡ q → has rows (uniq_number (suc t) c) ≡ true = λ c e.
          ap (λ b. b || has rows (uniq_number (suc t) c)) (sym u ∙ ap (λ (z : ℕ). is_under t rows z) (sym e)) ∙ sym (of c (child_below t c q e lt)) ∙ four_at (has leaves) q h c e in
          let first : 4 * q / 4 ≡ q = omega arith in
          let alone : is_alone rows (suc t) (4 * q) ≡ true = alone_of top rows few each (suc t) (4 * q) within (child_below t (4 * q) q first lt) (all (4 * q) first) in
          let missing : four (λ c. has rows (uniq_number (suc t) c)) (4 * q / 4) ≡ false = (alone_parts t rows (4 * q) alone).1 in
          absurd (true≢false (sym (four_from (λ c. has rows (uniq_number (suc t) c)) (4 * q / 4) (λ c e. all c (e ∙ first))) ∙ missing))
    ])
    (λ u. four_from (has leaves) q (λ c e. of c (child_below t c q e lt) ∙ or_left (is_under t rows (c / 4)) (has rows (uniq_number (suc t) c)) (ap (λ (z : ℕ). is_under t rows z) e ∙ u))) in
    agrees_suc t rows leaves
    (agrees_same t rows (leaves_under t rows) (above t leaves) (λ q lt. has-leaves_under t rows q lt ∙ sym (fours q lt) ∙ sym (has-above t leaves q lt)) (agrees_alone top rows few each t (omega arith)))
    (λ p lt.
    own (is_under t rows (p / 4)) (has rows (uniq_number (suc t) p)) (λ h. (alone_parts t rows p (alone_of top rows few each (suc t) p within lt h)).0)
    ∙ sym (ap₂ (λ a b. a && not b) (of p lt) (fours (p / 4) (parent_below t p lt))))
  where
    own : (u r : Bool) → (r ≡ true → u ≡ false) → r ≡ ((u || r) && not u)
    own true true free = free refl
    own true false free = refl
    own false true free = refl
    own false false free = refl

pub canonical : (top : ℕ) (rows : List ℕ) → top ≤ 11 → IsAscending rows → ((row : ℕ) → has rows row ≡ true → IsMaximalRow top rows row) → rows ≡ cover top (leaves_under top rows)
canonical top rows few up each = agrees_all top rows (leaves_under top rows) up (agrees_alone top rows few each top (omega arith)) (λ row high. false_where (has rows row) (λ h.
    let m : IsMaximalRow top rows row = each row h in
    let e : uniq_number m.0 m.1 ≡ row = m.4 in
    let below : m.1 < cell_count m.0 = m.3 in
    let most : 4 ^ m.0 ≤ 4 ^ top = four_pow_mono m.0 top m.2 in
    absurd (omega arith)))

-- ---- the rows of a cover

cover_row : (t : ℕ) (cells : List ℕ) (row : ℕ) → has (cover t cells) row ≡ true → (k : ℕ) × (p : ℕ) × (k ≤ t) × (p < cell_count k) × (uniq_number k p ≡ row)
cover_row zero cells row h =
    let b : (4 ≤ row) × (row < 16 * 4 ^ 0) = cover_bounds 0 cells row h in
    let low : 4 ≤ row = b.0 in
    let n : (p : ℕ) × (p < cell_count 0) × (uniq_number 0 p ≡ row) = number_of 0 row (omega arith) b.1 in
    (0, n.0, omega arith, n.1, n.2)
cover_row (suc t) cells row h = elim (cases_lt row (16 * 4 ^ t)) [
  | inl lt ↦
      let r : (k : ℕ) × (p : ℕ) × (k ≤ t) × (p < cell_count k) × (uniq_number k p ≡ row) = cover_row t (above t cells) row (sym (cover-low t cells row lt) ∙ h) in
      let within : r.0 ≤ t = r.2 in
      (r.0, r.1, omega arith, r.3, r.4)
  | inr ge ↦
      let e : 4 ^ suc t ≡ 4 * 4 ^ t = power_more t in
      let n : (p : ℕ) × (p < cell_count (suc t)) × (uniq_number (suc t) p ≡ row) = number_of (suc t) row (omega arith) (cover_bounds (suc t) cells row h).1 in
      (suc t, n.0, omega arith, n.1, n.2)
]

alone_same : (t : ℕ) (rows other : List ℕ) → ((row : ℕ) → row < 16 * 4 ^ t → has rows row ≡ has other row) → (k p : ℕ) → k ≤ t → p < cell_count k → is_alone rows k p ≡ is_alone other k p
alone_same t rows other same zero p within below = refl
alone_same t rows other same (suc j) p within below =
    let power : 4 ^ suc j ≡ 4 * 4 ^ j = power_more j in
    let most : 4 ^ suc j ≤ 4 ^ t = four_pow_mono (suc j) t within in
    let order : suc j - 1 ≡ j = omega arith in
    ap₂ (λ u f. eqb (suc j) 0 || (not u && not f))
    (ap (λ (i : ℕ). is_under i rows (p / 4)) order ∙ under-low j rows other (p / 4) (parent_below j p below) (λ row lt. same row (omega arith)) ∙ sym (ap (λ (i : ℕ). is_under i other (p / 4)) order))
    (all-children (suc j) (p / 4) rows ∙ four_agree (λ c. has rows (uniq_number (suc j) c)) (λ c. has other (uniq_number (suc j) c)) (p / 4) (λ c e. let lt : c < cell_count (suc j) = child_below j c (p / 4) e (parent_below j p below) in same (uniq_number (suc j) c) (omega arith)) ∙ sym (all-children (suc j) (p / 4) other))

alone_cover : (t : ℕ) (cells : List ℕ) (k p : ℕ) → k ≤ t → p < cell_count k → has (cover t cells) (uniq_number k p) ≡ true → is_alone (cover t cells) k p ≡ true
alone_cover zero cells k p within below h = or_left (eqb k 0) (not (is_under (k - 1) (cover 0 cells) (p / 4)) && not (list_all (has (cover 0 cells)) (children k (p / 4)))) (eq-eqb k 0 (omega arith))
alone_cover (suc t) cells k p within below h = elim (cases_lt k (suc t)) [
  | inl lt ↦
      let most : 4 ^ k ≤ 4 ^ t = four_pow_mono k t (omega arith) in
      let low : uniq_number k p < 16 * 4 ^ t = omega arith in
      alone_same t (cover (suc t) cells) (cover t (above t cells)) (cover-low t cells) k p (omega arith) below
      ∙ alone_cover t (above t cells) k p (omega arith) below (sym (cover-low t cells (uniq_number k p) low) ∙ h)
  | inr ge ↦
      let last : k ≡ suc t = omega arith in
      subst (λ (j : ℕ). p < cell_count j → has (cover (suc t) cells) (uniq_number j p) ≡ true → is_alone (cover (suc t) cells) j p ≡ true) (sym last) (at_last t cells p) below h
]
  where
    at_last : (t : ℕ) (cells : List ℕ) (p : ℕ) → p < cell_count (suc t) → has (cover (suc t) cells) (uniq_number (suc t) p) ≡ true → is_alone (cover (suc t) cells) (suc t) p ≡ true
    at_last t cells p below h =
        let both : (has cells p ≡ true) × (not (four (has cells) (p / 4)) ≡ true) = and_parts (has cells p) (not (four (has cells) (p / 4))) (sym (cover-own t cells p below) ∙ h) in
        let none : four (has cells) (p / 4) ≡ false = not-true (four (has cells) (p / 4)) both.1 in
        let lt : p / 4 < cell_count t = parent_below t p below in
        alone_from t (cover (suc t) cells) p
        (under-low t (cover (suc t) cells) (cover t (above t cells)) (p / 4) lt (cover-low t cells) ∙ under-cover t (above t cells) (p / 4) lt ∙ has-above t cells (p / 4) lt ∙ none)
        (four_agree (λ c. has (cover (suc t) cells) (uniq_number (suc t) c)) (has cells) (p / 4) (λ c e.
        cover-own t cells c (child_below t c (p / 4) e lt) ∙ ap (λ b. has cells c && not b) (ap (four (has cells)) e ∙ none) ∙ and_true (has cells c)) ∙ none)
      where
        and_true : (b : Bool) → (b && true) ≡ b
        and_true true = refl
        and_true false = refl

pub maximal_of_cover : (top : ℕ) (rows cells : List ℕ) → rows ≡ cover top cells → (row : ℕ) → has rows row ≡ true → IsMaximalRow top rows row
maximal_of_cover top rows cells is row h =
    let there : has (cover top cells) row ≡ true = ap (λ (zs : List ℕ). has zs row) (sym is) ∙ h in
    let r : (k : ℕ) × (p : ℕ) × (k ≤ top) × (p < cell_count k) × (uniq_number k p ≡ row) = cover_row top cells row there in
    let own : has (cover top cells) (uniq_number r.0 r.1) ≡ true = ap (has (cover top cells)) r.4 ∙ there in
    (r.0, r.1, r.2, r.3, r.4, ap (λ (zs : List ℕ). is_alone zs r.0 r.1) is ∙ alone_cover top cells r.0 r.1 r.2 r.3 own)

-- ---- as the tests ask

pub falls : (rows : List ℕ) (i : ℕ) → 0 < i → i < length rows → get_or rows i 0 ≤ get_or rows (i - 1) 0 → IsAscending rows → ⊥
falls rows i some within low up = let lt : get_or rows (i - 1) 0 < get_or rows i 0 = below_from_sorted rows (i - 1) i 0 up (omega arith) within in omega arith

pub rises : (rows : List ℕ) (i : ℕ) → length rows ≤ i → ((k : ℕ) → k + 1 < i → get_or rows k 0 < get_or rows (k + 1) 0) → IsAscending rows
rises rows i all so_far = sorted_from_strictly_increasing rows (λ k lt. so_far k (omega arith))

pub maximal_test : (top : ℕ) (rows : List ℕ) (row k p : ℕ) (b : Bool) → top ≤ 11 → IsCell k p → k ≤ top → uniq_number k p ≡ row → b ≡ is_alone rows k p
    → (b ≡ true → IsMaximalRow top rows row) × (IsMaximalRow top rows row → b ≡ true)
maximal_test top rows row k p b few known within e is = (
  λ t. (k, p, within, known.in_order, e, sym is ∙ t),
  λ m.
      let same : (m.0 ≡ k) × (m.1 ≡ p) = uniq_number_injective m.0 m.1 k p (cell top m.0 m.1 few m.2 m.3) known (m.4 ∙ sym e) in
      is ∙ sym (ap₂ (is_alone rows) same.0 same.1) ∙ m.5,
)

pub not_maximal : (top : ℕ) (rows : List ℕ) (row k p : ℕ) → top ≤ 11 → IsCell k p → top < k → uniq_number k p ≡ row → IsMaximalRow top rows row → ⊥
not_maximal top rows row k p few known past e m =
    let same : (m.0 ≡ k) × (m.1 ≡ p) = uniq_number_injective m.0 m.1 k p (cell top m.0 m.1 few m.2 m.3) known (m.4 ∙ sym e) in
    let within : m.0 ≤ top = m.2 in
    let k_is : m.0 ≡ k = same.0 in
    omega arith

pub no_cell : (top : ℕ) (rows : List ℕ) (row : ℕ) → top ≤ 11 → ((order npix : ℕ) → IsCell order npix → uniq_number order npix ≡ row → ⊥) → IsMaximalRow top rows row → ⊥
no_cell top rows row few none m = none m.0 m.1 (cell top m.0 m.1 few m.2 m.3) m.4

pub canonical_from_all : (top : ℕ) (rows : List ℕ) → top ≤ 11 → IsAscending rows → All (IsMaximalRow top rows) rows → rows ≡ cover top (leaves_under top rows)
canonical_from_all top rows few up all = canonical top rows few up (all_has (IsMaximalRow top rows) rows all)

pub all_maximal : (top : ℕ) (rows cells : List ℕ) → rows ≡ cover top cells → All (IsMaximalRow top rows) rows
all_maximal top rows cells is = all_from_has (IsMaximalRow top rows) rows (maximal_of_cover top rows cells is)
