-- Four siblings in an ascending list of cells, and the cells above those that stand with their siblings.
use Rattle.std.proofs.Common.{◌≡◌, inl, inr, ℕ, zero, suc, ◌+◌, ◌-◌, ◌*◌, ◌/◌, ◌%◌, ◌<◌, ◌≤◌, Bool, true, false, not, ◌&&◌, ◌||◌, eqb, List, [], ◌∷◌, ◌++◌, length, map, filter, get_or, All, refl, sym, ap, ap₂, ◌∙◌, subst, subst₂, arith}
use Rattle.std.specs.List.{range_with_len}
use Rattle.std.proofs.lemmas.Bool.{cases_lt, cases_order, and_parts, and_from, eq-eqb, eqb-true, ne_eqb}
use Rattle.std.proofs.lemmas.Map.Keys.{below_from_sorted}
use Rattle.healpix_nested.specs.Cells.{cell_count, uniq_number}
use Rattle.coverage_moc.specs.Cover.{has, IsAscending, cover}
use Rattle.coverage_moc.specs.Rows.{four}
use Rattle.coverage_moc.proofs.MemberLemmas.{same_bools, false_where, all_has, all_from_has, has_at, place_of, has-filter, has-map, map_source, in_range, range_bound, up-filter, up-range, up-same, up-nil, up-cons, up-head, up-tail, up-of_range, has-head, has-tail}
use Rattle.coverage_moc.proofs.CoverLemmas.{parent_below, child_cases, four_at, four_from, above, has-above, single, cover-zero, cover-suc}

-- ---- places in an ascending list

place_before : (xs : List ℕ) (a b : ℕ) → IsAscending xs → a < length xs → b < length xs → get_or xs a 0 < get_or xs b 0 → a < b
place_before xs a b up la lb lt = elim (cases_order a b) [
  | inl e ↦ let same : get_or xs a 0 ≡ get_or xs b 0 = ap (λ (k : ℕ). get_or xs k 0) e in absurd (omega arith)
  | inr (inl l) ↦ l
  | inr (inr g) ↦ let gt : get_or xs b 0 < get_or xs a 0 = below_from_sorted xs b a 0 up g la in absurd (omega arith)
]

same_place : (xs : List ℕ) (a b : ℕ) → IsAscending xs → a < length xs → b < length xs → get_or xs a 0 ≡ get_or xs b 0 → a ≡ b
same_place xs a b up la lb e = elim (cases_order a b) [
  | inl same ↦ same
  | inr (inl l) ↦ let lt : get_or xs a 0 < get_or xs b 0 = below_from_sorted xs a b 0 up l lb in absurd (omega arith)
  | inr (inr g) ↦ let gt : get_or xs b 0 < get_or xs a 0 = below_from_sorted xs b a 0 up g la in absurd (omega arith)
]

next_place : (xs : List ℕ) (a b : ℕ) → IsAscending xs → a < length xs → b < length xs → get_or xs b 0 ≡ get_or xs a 0 + 1 → b ≡ a + 1
next_place xs a b up la lb e =
    let before : a < b = place_before xs a b up la lb (omega arith) in
    elim (cases_lt (a + 1) b) [
      | inl far ↦
          let one : get_or xs a 0 < get_or xs (a + 1) 0 = below_from_sorted xs a (a + 1) 0 up (omega arith) (omega arith) in
          let two : get_or xs (a + 1) 0 < get_or xs b 0 = below_from_sorted xs (a + 1) b 0 up far lb in
          absurd (omega arith)
      | inr near ↦ omega arith
    ]

-- four numbers from the first child of a cell on are its four children
pub four_stand : (xs : List ℕ) (start q : ℕ) → IsAscending xs → start + 3 < length xs → get_or xs start 0 ≡ 4 * q → get_or xs (start + 3) 0 ≡ 4 * q + 3 → four (has xs) q ≡ true
four_stand xs start q up within first last =
    let one : get_or xs start 0 < get_or xs (start + 1) 0 = below_from_sorted xs start (start + 1) 0 up (omega arith) (omega arith) in
    let two : get_or xs (start + 1) 0 < get_or xs (start + 2) 0 = below_from_sorted xs (start + 1) (start + 2) 0 up (omega arith) (omega arith) in
    let three : get_or xs (start + 2) 0 < get_or xs (start + 3) 0 = below_from_sorted xs (start + 2) (start + 3) 0 up (omega arith) (omega arith) in
    let second : get_or xs (start + 1) 0 ≡ 4 * q + 1 = omega arith in
    let third : get_or xs (start + 2) 0 ≡ 4 * q + 2 = omega arith in
    four_from (has xs) q (λ c e. elim (child_cases c q e) [
      | inl k ↦ subst (λ (z : ℕ). has xs z ≡ true) (first ∙ sym k) (has_at xs start (omega arith))
      | inr (inl k) ↦ subst (λ (z : ℕ). has xs z ≡ true) (second ∙ sym k) (has_at xs (start + 1) (omega arith))
      | inr (inr (inl k)) ↦ subst (λ (z : ℕ). has xs z ≡ true) (third ∙ sym k) (has_at xs (start + 2) (omega arith))
      | inr (inr (inr k)) ↦ subst (λ (z : ℕ). has xs z ≡ true) (last ∙ sym k) (has_at xs (start + 3) within)
    ])

-- where the four children are there, one that stands at a place tells the places of all
pub record StandTogether (xs : List ℕ) (i : ℕ) : Type 0 where
  pub after : get_or xs i 0 % 4 ≤ i
  pub within : i - get_or xs i 0 % 4 + 3 < length xs
  pub first : get_or xs (i - get_or xs i 0 % 4) 0 ≡ 4 * (get_or xs i 0 / 4)
  pub last : get_or xs (i - get_or xs i 0 % 4 + 3) 0 ≡ 4 * (get_or xs i 0 / 4) + 3

pub four_places : (xs : List ℕ) (i : ℕ) → IsAscending xs → i < length xs → four (has xs) (get_or xs i 0 / 4) ≡ true → StandTogether xs i
four_places xs i up within all =
    let p : ℕ = get_or xs i 0 in
    let q : ℕ = get_or xs i 0 / 4 in
    let j0 : (j : ℕ) × (j < length xs) × (get_or xs j 0 ≡ 4 * q) = place_of xs (4 * q) (four_at (has xs) q all (4 * q) (omega arith)) in
    let j1 : (j : ℕ) × (j < length xs) × (get_or xs j 0 ≡ 4 * q + 1) = place_of xs (4 * q + 1) (four_at (has xs) q all (4 * q + 1) (omega arith)) in
    let j2 : (j : ℕ) × (j < length xs) × (get_or xs j 0 ≡ 4 * q + 2) = place_of xs (4 * q + 2) (four_at (has xs) q all (4 * q + 2) (omega arith)) in
    let j3 : (j : ℕ) × (j < length xs) × (get_or xs j 0 ≡ 4 * q + 3) = place_of xs (4 * q + 3) (four_at (has xs) q all (4 * q + 3) (omega arith)) in
    let e1 : j1.0 ≡ j0.0 + 1 = next_place xs j0.0 j1.0 up j0.1 j1.1 (j1.2 ∙ (let e : get_or xs j0.0 0 ≡ 4 * q = j0.2 in omega arith)) in
    let e2 : j2.0 ≡ j1.0 + 1 = next_place xs j1.0 j2.0 up j1.1 j2.1 (j2.2 ∙ (let e : get_or xs j1.0 0 ≡ 4 * q + 1 = j1.2 in omega arith)) in
    let e3 : j3.0 ≡ j2.0 + 1 = next_place xs j2.0 j3.0 up j2.1 j3.1 (j3.2 ∙ (let e : get_or xs j2.0 0 ≡ 4 * q + 2 = j2.2 in omega arith)) in
    let own : i ≡ j0.0 + p % 4 = elim (child_cases p q refl) [
      | inl k ↦ same_place xs i j0.0 up within j0.1 (k ∙ sym j0.2) ∙ (let r : p % 4 ≡ 0 = omega arith in omega arith)
      | inr (inl k) ↦ same_place xs i j1.0 up within j1.1 (k ∙ sym j1.2) ∙ (let r : p % 4 ≡ 1 = omega arith in omega arith)
      | inr (inr (inl k)) ↦ same_place xs i j2.0 up within j2.1 (k ∙ sym j2.2) ∙ (let r : p % 4 ≡ 2 = omega arith in omega arith)
      | inr (inr (inr k)) ↦ same_place xs i j3.0 up within j3.1 (k ∙ sym j3.2) ∙ (let r : p % 4 ≡ 3 = omega arith in omega arith)
    ] in
    let start : i - p % 4 ≡ j0.0 = omega arith in
    let end : i - p % 4 + 3 ≡ j3.0 = omega arith in
    record {
      after = omega arith;
      within = let l : j3.0 < length xs = j3.1 in omega arith;
      first = ap (λ (k : ℕ). get_or xs k 0) start ∙ j0.2;
      last = ap (λ (k : ℕ). get_or xs k 0) end ∙ j3.2;
    }

-- a cell that doesn't stand with its siblings
pub siblings_miss : (xs : List ℕ) (i : ℕ) → IsAscending xs → i < length xs → (StandTogether xs i → ⊥) → false ≡ four (has xs) (get_or xs i 0 / 4)
siblings_miss xs i up within never = sym (false_where (four (has xs) (get_or xs i 0 / 4)) (λ t. absurd (never (four_places xs i up within t))))

pub siblings_first : (xs : List ℕ) (i : ℕ) → IsAscending xs → i < length xs → (get_or xs (i - get_or xs i 0 % 4) 0 ≡ get_or xs i 0 / 4 * 4 → ⊥) → eqb (get_or xs (i - get_or xs i 0 % 4) 0) (get_or xs i 0 / 4 * 4) ≡ four (has xs) (get_or xs i 0 / 4)
siblings_first xs i up within other = ne_eqb (get_or xs (i - get_or xs i 0 % 4) 0) (get_or xs i 0 / 4 * 4) other ∙ siblings_miss xs i up within (λ s. other (s.first ∙ (omega arith)))

pub siblings_last : (xs : List ℕ) (i : ℕ) → IsAscending xs → i < length xs → i - get_or xs i 0 % 4 + 3 < length xs → get_or xs (i - get_or xs i 0 % 4) 0 ≡ get_or xs i 0 / 4 * 4
    → eqb (get_or xs (i - get_or xs i 0 % 4 + 3) 0) (get_or xs i 0 / 4 * 4 + 3) ≡ four (has xs) (get_or xs i 0 / 4)
siblings_last xs i up within fits first = same_bools (eqb (get_or xs (i - get_or xs i 0 % 4 + 3) 0) (get_or xs i 0 / 4 * 4 + 3)) (four (has xs) (get_or xs i 0 / 4))
    (λ t. let last : get_or xs (i - get_or xs i 0 % 4 + 3) 0 ≡ get_or xs i 0 / 4 * 4 + 3 = eqb-true (get_or xs (i - get_or xs i 0 % 4 + 3) 0) (get_or xs i 0 / 4 * 4 + 3) t in
    four_stand xs (i - get_or xs i 0 % 4) (get_or xs i 0 / 4) up fits (omega arith) (omega arith))
    (λ t. let s : StandTogether xs i = four_places xs i up within t in let last : get_or xs (i - get_or xs i 0 % 4 + 3) 0 ≡ 4 * (get_or xs i 0 / 4) + 3 = s.last in
    eq-eqb (get_or xs (i - get_or xs i 0 % 4 + 3) 0) (get_or xs i 0 / 4 * 4 + 3) (omega arith))

-- ---- the cells above

-- the cells above, found at their first children
pub above-map : (t : ℕ) (cells : List ℕ) → IsAscending cells → ((p : ℕ) → has cells p ≡ true → p < cell_count (suc t))
    → map (λ p. p / 4) (filter (λ p. eqb (p % 4) 0 && four (has cells) (p / 4)) cells) ≡ above t cells
above-map t cells up below =
    let test : ℕ → Bool = λ p. eqb (p % 4) 0 && four (has cells) (p / 4) in
    up-same (map (λ p. p / 4) (filter test cells)) (above t cells) (up-quarters (filter test cells) (up-filter test cells up) (λ p h. eqb-true (p % 4) 0 (and_parts (eqb (p % 4) 0) (four (has cells) (p / 4)) (and_parts (has cells p) (test p) (sym (has-filter test cells p) ∙ h)).1).0))
    (up-filter (four (has cells)) (range_with_len 0 (cell_count t)) (up-range 0 (cell_count t)))
    (λ q. same_bools (has (map (λ p. p / 4) (filter test cells)) q) (has (above t cells) q)
    (λ h.
    let from : (p : ℕ) × (has (filter test cells) p ≡ true) × (p / 4 ≡ q) = map_source (λ p. p / 4) (filter test cells) q h in
    let both : (has cells from.0 ≡ true) × (test from.0 ≡ true) = and_parts (has cells from.0) (test from.0) (sym (has-filter test cells from.0) ∙ from.1) in
    let all : four (has cells) (from.0 / 4) ≡ true = (and_parts (eqb (from.0 % 4) 0) (four (has cells) (from.0 / 4)) both.1).1 in
    subst (λ (z : ℕ). has (above t cells) z ≡ true) from.2 (has-above t cells (from.0 / 4) (parent_below t from.0 (below from.0 both.0)) ∙ all))
    (λ h.
    let parts : (has (range_with_len 0 (cell_count t)) q ≡ true) × (four (has cells) q ≡ true) = and_parts (has (range_with_len 0 (cell_count t)) q) (four (has cells) q) (sym (has-filter (four (has cells)) (range_with_len 0 (cell_count t)) q) ∙ h) in
    let quarter : 4 * q / 4 ≡ q = omega arith in
    let there : has cells (4 * q) ≡ true = four_at (has cells) q parts.1 (4 * q) quarter in
    let passes : test (4 * q) ≡ true = and_from (eqb (4 * q % 4) 0) (four (has cells) (4 * q / 4)) (eq-eqb (4 * q % 4) 0 (omega arith)) (ap (four (has cells)) quarter ∙ parts.1) in
    subst (λ (z : ℕ). has (map (λ p. p / 4) (filter test cells)) z ≡ true) quarter (has-map (λ p. p / 4) (filter test cells) (4 * q) (has-filter test cells (4 * q) ∙ and_from (has cells (4 * q)) (test (4 * q)) there passes))))
  where
    up-quarters : (xs : List ℕ) → IsAscending xs → ((p : ℕ) → has xs p ≡ true → p % 4 ≡ 0) → IsAscending (map (λ p. p / 4) xs)
    up-quarters [] up first = up-nil
    up-quarters (x ∷ xs) up first = up-cons (x / 4) (map (λ p. p / 4) xs) (λ z h.
        let from : (p : ℕ) × (has xs p ≡ true) × (p / 4 ≡ z) = map_source (λ p. p / 4) xs z h in
        let lt : x < from.0 = up-head x xs up from.0 from.1 in
        let a : x % 4 ≡ 0 = first x (has-head x xs) in
        let b : from.0 % 4 ≡ 0 = first from.0 (has-tail x xs from.0 from.1) in
        let e : from.0 / 4 ≡ z = from.2 in
        omega arith) (up-quarters xs (up-tail x xs up) (λ p h. first p (has-tail x xs p h)))

pub up-above : (t : ℕ) (cells : List ℕ) → IsAscending (above t cells)
up-above t cells = up-filter (four (has cells)) (range_with_len 0 (cell_count t)) (up-range 0 (cell_count t))

pub above_bound : (t : ℕ) (cells : List ℕ) (q : ℕ) → has (above t cells) q ≡ true → q < cell_count t
above_bound t cells q h = range_bound (cell_count t) q (and_parts (has (range_with_len 0 (cell_count t)) q) (four (has cells) q) (sym (has-filter (four (has cells)) (range_with_len 0 (cell_count t)) q) ∙ h)).0

-- the rows of one order, found among its cells
abbrev pub own_rows : ℕ → List ℕ → List ℕ
own_rows k cells = map (uniq_number k) (filter (λ p. eqb k 0 || not (four (has cells) (p / 4))) cells)

single-filter : (t : ℕ) (cells : List ℕ) → IsAscending cells → ((p : ℕ) → has cells p ≡ true → p < cell_count (suc t))
    → filter (λ p. eqb (suc t) 0 || not (four (has cells) (p / 4))) cells ≡ filter (single cells) (range_with_len 0 (cell_count (suc t)))
single-filter t cells up below =
    let low : eqb (suc t) 0 ≡ false = ne_eqb (suc t) 0 (λ e. omega arith) in
    let test : ℕ → Bool = λ p. eqb (suc t) 0 || not (four (has cells) (p / 4)) in
    let test-is : (p : ℕ) → test p ≡ not (four (has cells) (p / 4)) = λ p. ap (λ b. b || not (four (has cells) (p / 4))) low in
    up-same (filter test cells) (filter (single cells) (range_with_len 0 (cell_count (suc t)))) (up-filter test cells up) (up-filter (single cells) (range_with_len 0 (cell_count (suc t))) (up-range 0 (cell_count (suc t))))
    (λ p. has-filter test cells p ∙ same_bools (has cells p && test p) (has (range_with_len 0 (cell_count (suc t))) p && single cells p)
    (λ h.
    let both : (has cells p ≡ true) × (test p ≡ true) = and_parts (has cells p) (test p) h in
    and_from (has (range_with_len 0 (cell_count (suc t))) p) (single cells p) (in_range (cell_count (suc t)) p (below p both.0)) (and_from (has cells p) (not (four (has cells) (p / 4))) both.0 (sym (test-is p) ∙ both.1)))
    (λ h.
    let both : (has cells p ≡ true) × (not (four (has cells) (p / 4)) ≡ true) = and_parts (has cells p) (not (four (has cells) (p / 4))) (and_parts (has (range_with_len 0 (cell_count (suc t))) p) (single cells p) h).1 in
    and_from (has cells p) (test p) both.0 (test-is p ∙ both.1))
    ∙ sym (has-filter (single cells) (range_with_len 0 (cell_count (suc t))) p))

-- the cells above, as they are found
abbrev pub found_above : List ℕ → List ℕ
found_above cells = map (λ p. p / 4) (filter (λ p. eqb (p % 4) 0 && four (has cells) (p / 4)) cells)

pub up-found : (k : ℕ) (cells : List ℕ) → 0 < k → IsAscending cells → All (λ p. p < cell_count k) cells → IsAscending (found_above cells)
up-found zero cells some up below = absurd (omega arith)
up-found (suc t) cells some up below = subst IsAscending (sym (above-map t cells up (all_has (λ p. p < cell_count (suc t)) cells below))) (up-above t cells)

pub found_below : (k : ℕ) (cells : List ℕ) → 0 < k → IsAscending cells → All (λ p. p < cell_count k) cells → All (λ p. p < cell_count (k - 1)) (found_above cells)
found_below zero cells some up below = absurd (omega arith)
found_below (suc t) cells some up below =
    let same : suc t - 1 ≡ t = omega arith in
    let bound : All (λ p. p < cell_count t) (above t cells) = all_from_has (λ p. p < cell_count t) (above t cells) (above_bound t cells) in
    subst₂ (λ (j : ℕ) (zs : List ℕ). All (λ p. p < cell_count j) zs) (sym same) (sym (above-map t cells up (all_has (λ p. p < cell_count (suc t)) cells below))) bound

-- the cover of some cells: of those above, and then their own rows
pub cover_by_orders : (k : ℕ) (cells : List ℕ) → 0 < k → IsAscending cells → All (λ p. p < cell_count k) cells → cover (k - 1) (found_above cells) ++ own_rows k cells ≡ cover k cells
cover_by_orders zero cells some up below = absurd (omega arith)
cover_by_orders (suc t) cells some up below =
    let within : (p : ℕ) → has cells p ≡ true → p < cell_count (suc t) = all_has (λ p. p < cell_count (suc t)) cells below in
    let same : suc t - 1 ≡ t = omega arith in
    ap₂ (λ xs ys. xs ++ ys)
    (ap₂ (λ (j : ℕ) (zs : List ℕ). cover j zs) same (above-map t cells up within))
    (ap (map (uniq_number (suc t))) (single-filter t cells up within))
    ∙ sym (cover-suc t cells)

pub cover_of_first : (k : ℕ) (cells : List ℕ) → k ≡ 0 → IsAscending cells → All (λ p. p < cell_count k) cells → own_rows k cells ≡ cover k cells
cover_of_first zero cells e up below =
    ap (map (uniq_number 0)) (filter_all cells ∙ sym (up-of_range (cell_count 0) cells up (all_has (λ p. p < cell_count 0) cells below))) ∙ sym (cover-zero cells)
  where
    filter_all : (xs : List ℕ) → filter (λ p. true) xs ≡ xs
    filter_all [] = refl
    filter_all (x ∷ xs) = ap (λ zs. x ∷ zs) (filter_all xs)
cover_of_first (suc t) cells e up below = absurd (omega arith)
