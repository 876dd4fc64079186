-- One cell more, and one cell less, order by order.
use Rattle.std.proofs.Common.{◌≡◌, ◌⊎◌, inl, inr, ℕ, zero, suc, ◌+◌, ◌-◌, ◌*◌, ◌/◌, ◌^◌, ◌<◌, ◌≤◌, Bool, true, false, not, ◌&&◌, ◌||◌, eqb, List, [], ◌∷◌, ◌++◌, filter, refl, sym, ap, ap₂, ◌∙◌, subst, arith}
use Rattle.std.specs.List.{list_all}
use Rattle.std.proofs.lemmas.Bool.{true≢false, cases_eq, eq-eqb, ne_eqb, eqb-true, and_parts, not-true}
use Rattle.healpix_nested.specs.Cells.{cell_count, uniq_number}
use Rattle.coverage_moc.specs.Cover.{has, without}
use Rattle.coverage_moc.specs.Rows.{SameMembers, four, children, AgreesUpTo, SameAbove}
use Rattle.coverage_moc.proofs.MemberLemmas.{same_bools, false_where, has-append, has-filter, has-head, has-tail, has-cases}
use Rattle.coverage_moc.proofs.CoverLemmas.{power_more, parent_below, child_below, child_cases, four_at, four_misses, four_agree, above, has-above, single}
use Rattle.coverage_moc.proofs.TreeLemmas.{agrees_none, agrees_first, agrees_low, agrees_own, agrees_zero, agrees_suc, agrees_same}

and_true : (b : Bool) → (b && true) ≡ b
and_true true = refl
and_true false = refl

-- ---- numbers

pub eqb-uniq : (k p q : ℕ) → eqb (uniq_number k p) (uniq_number k q) ≡ eqb p q
eqb-uniq k p q = same_bools (eqb (uniq_number k p) (uniq_number k q)) (eqb p q)
    (λ t. let e : uniq_number k p ≡ uniq_number k q = eqb-true (uniq_number k p) (uniq_number k q) t in eq-eqb p q (omega arith))
    (λ t. eq-eqb (uniq_number k p) (uniq_number k q) (ap (uniq_number k) (eqb-true p q t)))

has-put : (k p : ℕ) (rows0 rows1 : List ℕ) → SameMembers rows1 (uniq_number k p ∷ rows0) → (q : ℕ) → has rows1 (uniq_number k q) ≡ (eqb p q || has rows0 (uniq_number k q))
has-put k p rows0 rows1 same q = same (uniq_number k q) ∙ ap (λ b. b || has rows0 (uniq_number k q)) (eqb-uniq k p q)

has-taken : (k p : ℕ) (rows0 rows1 : List ℕ) → SameMembers rows1 (without (uniq_number k p) rows0) → (q : ℕ) → has rows1 (uniq_number k q) ≡ (has rows0 (uniq_number k q) && not (eqb q p))
has-taken k p rows0 rows1 same q = same (uniq_number k q) ∙ has-filter (λ y. not (eqb y (uniq_number k p))) rows0 (uniq_number k q) ∙ ap (λ b. has rows0 (uniq_number k q) && not b) (eqb-uniq k q p)

-- another number stays as it was
put_other : (own : ℕ) (rows0 rows1 : List ℕ) → SameMembers rows1 (own ∷ rows0) → (row : ℕ) → (own ≡ row → ⊥) → has rows1 row ≡ has rows0 row
put_other own rows0 rows1 same row ne = same row ∙ ap (λ b. b || has rows0 row) (ne_eqb own row ne)

taken_other : (own : ℕ) (rows0 rows1 : List ℕ) → SameMembers rows1 (without own rows0) → (row : ℕ) → (row ≡ own → ⊥) → has rows1 row ≡ has rows0 row
taken_other own rows0 rows1 same row ne = same row ∙ has-filter (λ y. not (eqb y own)) rows0 row ∙ ap (λ b. has rows0 row && not b) (ne_eqb row own ne) ∙ and_true (has rows0 row)

-- ---- children

pub has-children : (k q p : ℕ) → has (children k q) (uniq_number k p) ≡ eqb (p / 4) q
has-children k q p = same_bools (has (children k q) (uniq_number k p)) (eqb (p / 4) q)
    (λ h. elim (has-cases (uniq_number k (4 * q)) (uniq_number k (4 * q + 1) ∷ uniq_number k (4 * q + 2) ∷ uniq_number k (4 * q + 3) ∷ []) (uniq_number k p) h) [
      | inl e ↦ eq-eqb (p / 4) q (omega arith)
      | inr h1 ↦ elim (has-cases (uniq_number k (4 * q + 1)) (uniq_number k (4 * q + 2) ∷ uniq_number k (4 * q + 3) ∷ []) (uniq_number k p) h1) [
        | inl e ↦ eq-eqb (p / 4) q (omega arith)
        | inr h2 ↦ elim (has-cases (uniq_number k (4 * q + 2)) (uniq_number k (4 * q + 3) ∷ []) (uniq_number k p) h2) [
          | inl e ↦ eq-eqb (p / 4) q (omega arith)
          | inr h3 ↦ elim (has-cases (uniq_number k (4 * q + 3)) [] (uniq_number k p) h3) [
            | inl e ↦ eq-eqb (p / 4) q (omega arith)
            | inr never ↦ absurd (true≢false (sym never))
          ]
        ]
      ]
    ])
    (λ t. elim (child_cases p q (eqb-true (p / 4) q t)) [
      | inl e ↦ subst (λ (z : ℕ). has (children k q) (uniq_number k z) ≡ true) (sym e) (has-head (uniq_number k (4 * q)) (uniq_number k (4 * q + 1) ∷ uniq_number k (4 * q + 2) ∷ uniq_number k (4 * q + 3) ∷ []))
      | inr (inl e) ↦ subst (λ (z : ℕ). has (children k q) (uniq_number k z) ≡ true) (sym e) (has-tail (uniq_number k (4 * q)) (uniq_number k (4 * q + 1) ∷ uniq_number k (4 * q + 2) ∷ uniq_number k (4 * q + 3) ∷ []) (uniq_number k (4 * q + 1)) (has-head (uniq_number k (4 * q + 1)) (uniq_number k (4 * q + 2) ∷ uniq_number k (4 * q + 3) ∷ [])))
      | inr (inr (inl e)) ↦ subst (λ (z : ℕ). has (children k q) (uniq_number k z) ≡ true) (sym e) (has-tail (uniq_number k (4 * q)) (uniq_number k (4 * q + 1) ∷ uniq_number k (4 * q + 2) ∷ uniq_number k (4 * q + 3) ∷ []) (uniq_number k (4 * q + 2)) (has-tail (uniq_number k (4 * q + 1)) (uniq_number k (4 * q + 2) ∷ uniq_number k (4 * q + 3) ∷ []) (uniq_number k (4 * q + 2)) (has-head (uniq_number k (4 * q + 2)) (uniq_number k (4 * q + 3) ∷ []))))
      | inr (inr (inr e)) ↦ subst (λ (z : ℕ). has (children k q) (uniq_number k z) ≡ true) (sym e) (has-tail (uniq_number k (4 * q)) (uniq_number k (4 * q + 1) ∷ uniq_number k (4 * q + 2) ∷ uniq_number k (4 * q + 3) ∷ []) (uniq_number k (4 * q + 3)) (has-tail (uniq_number k (4 * q + 1)) (uniq_number k (4 * q + 2) ∷ uniq_number k (4 * q + 3) ∷ []) (uniq_number k (4 * q + 3)) (has-tail (uniq_number k (4 * q + 2)) (uniq_number k (4 * q + 3) ∷ []) (uniq_number k (4 * q + 3)) (has-head (uniq_number k (4 * q + 3)) []))))
    ])

children_bounds : (k q row : ℕ) → 4 * q + 4 ≤ cell_count k → has (children k q) row ≡ true → (4 * 4 ^ k ≤ row) × (row < 16 * 4 ^ k)
children_bounds k q row below h = elim (has-cases (uniq_number k (4 * q)) (uniq_number k (4 * q + 1) ∷ uniq_number k (4 * q + 2) ∷ uniq_number k (4 * q + 3) ∷ []) row h) [
  | inl e ↦ (omega arith, omega arith)
  | inr h1 ↦ elim (has-cases (uniq_number k (4 * q + 1)) (uniq_number k (4 * q + 2) ∷ uniq_number k (4 * q + 3) ∷ []) row h1) [
    | inl e ↦ (omega arith, omega arith)
    | inr h2 ↦ elim (has-cases (uniq_number k (4 * q + 2)) (uniq_number k (4 * q + 3) ∷ []) row h2) [
      | inl e ↦ (omega arith, omega arith)
      | inr h3 ↦ elim (has-cases (uniq_number k (4 * q + 3)) [] row h3) [
        | inl e ↦ (omega arith, omega arith)
        | inr never ↦ absurd (true≢false (sym never))
      ]
    ]
  ]
]

no_child : (k q row : ℕ) → 4 * q + 4 ≤ cell_count k → (row < 4 * 4 ^ k) ⊎ (16 * 4 ^ k ≤ row) → has (children k q) row ≡ false
no_child k q row below out = false_where (has (children k q) row) (λ h.
    let b : (4 * 4 ^ k ≤ row) × (row < 16 * 4 ^ k) = children_bounds k q row below h in
    let low : 4 * 4 ^ k ≤ row = b.0 in
    let high : row < 16 * 4 ^ k = b.1 in
    elim out [ inl l ↦ absurd (omega arith) | inr g ↦ absurd (omega arith) ])

pub all-children : (k q : ℕ) (rows : List ℕ) → list_all (has rows) (children k q) ≡ four (λ p. has rows (uniq_number k p)) q
all-children k q rows = ap (λ b. has rows (uniq_number k (4 * q)) && (has rows (uniq_number k (4 * q + 1)) && (has rows (uniq_number k (4 * q + 2)) && b))) (and_true (has rows (uniq_number k (4 * q + 3))))

siblings_below : (t p : ℕ) → p < cell_count (suc t) → 4 * (p / 4) + 4 ≤ cell_count (suc t)
siblings_below t p below = let e : 4 ^ suc t ≡ 4 * 4 ^ t = power_more t in omega arith

-- ---- four cells after a change

four_other_more : (p q : ℕ) (cells : List ℕ) → (q ≡ p / 4 → ⊥) → four (has (p ∷ cells)) q ≡ four (has cells) q
four_other_more p q cells ne = four_agree (has (p ∷ cells)) (has cells) q (λ c e. ap (λ b. b || has cells c) (ne_eqb p c (λ same. ne (sym e ∙ ap (λ (z : ℕ). z / 4) (sym same)))))

four_more : (p q : ℕ) (cells : List ℕ) → has cells p ≡ false → four (has (p ∷ cells)) q ≡ ((eqb (p / 4) q && four (has (p ∷ cells)) (p / 4)) || four (has cells) q)
four_more p q cells absent = elim (cases_eq q (p / 4)) [
  | inl e ↦
      let there : eqb (p / 4) q ≡ true = eq-eqb (p / 4) q (sym e) in
      let none : four (has cells) q ≡ false = ap (four (has cells)) e ∙ four_misses (has cells) p absent in
      rw (there, none) (ap (four (has (p ∷ cells))) e ∙ sym (or_false (four (has (p ∷ cells)) (p / 4))))
  | inr ne ↦
      let there : eqb (p / 4) q ≡ false = ne_eqb (p / 4) q (λ e. ne (sym e)) in
      rw there (four_other_more p q cells ne)
]
  where
    or_false : (b : Bool) → (b || false) ≡ b
    or_false true = refl
    or_false false = refl

has-without : (p : ℕ) (cells : List ℕ) (q : ℕ) → has (without p cells) q ≡ (has cells q && not (eqb q p))
has-without p cells q = has-filter (λ y. not (eqb y p)) cells q

four_without : (p q : ℕ) (cells : List ℕ) → four (has (without p cells)) q ≡ (four (has cells) q && not (eqb q (p / 4)))
four_without p q cells = elim (cases_eq q (p / 4)) [
  | inl e ↦
      let there : eqb q (p / 4) ≡ true = eq-eqb q (p / 4) e in
      let gone : has (without p cells) p ≡ false = has-without p cells p ∙ ap (λ b. has cells p && not b) (eq-eqb p p refl) ∙ and_false (has cells p) in
      let none : four (has (without p cells)) q ≡ false = ap (four (has (without p cells))) e ∙ four_misses (has (without p cells)) p gone in
      none ∙ sym (ap (λ b. four (has cells) q && not b) there ∙ and_false (four (has cells) q))
  | inr ne ↦
      let there : eqb q (p / 4) ≡ false = ne_eqb q (p / 4) ne in
      four_agree (has (without p cells)) (has cells) q (λ c e. has-without p cells c ∙ ap (λ b. has cells c && not b) (ne_eqb c p (λ same. ne (sym e ∙ ap (λ (z : ℕ). z / 4) same))) ∙ and_true (has cells c))
      ∙ sym (ap (λ b. four (has cells) q && not b) there ∙ and_true (four (has cells) q))
]
  where
    and_false : (b : Bool) → (b && false) ≡ false
    and_false true = refl
    and_false false = refl

-- ---- one cell more

own_high : (t p : ℕ) → 16 * 4 ^ t ≤ uniq_number (suc t) p
own_high t p = let e : 4 ^ suc t ≡ 4 * 4 ^ t = power_more t in omega arith

low_no_child : (t p row : ℕ) → p < cell_count (suc t) → row < 16 * 4 ^ t → has (children (suc t) (p / 4)) row ≡ false
low_no_child t p row below low = let e : 4 ^ suc t ≡ 4 * 4 ^ t = power_more t in no_child (suc t) (p / 4) row (siblings_below t p below) (inl (omega arith))

high_no_child : (t p row : ℕ) → p < cell_count (suc t) → 16 * 4 ^ suc t ≤ row → has (children (suc t) (p / 4)) row ≡ false
high_no_child t p row below high = no_child (suc t) (p / 4) row (siblings_below t p below) (inr high)

-- the children that are rows once the cell is put in
four_added : (t p : ℕ) (rows0 rows1 cells : List ℕ) → p < cell_count (suc t) → SameMembers rows1 (uniq_number (suc t) p ∷ rows0) → has cells p ≡ false → AgreesUpTo (suc t) rows0 cells
    → four (λ c. has rows1 (uniq_number (suc t) c)) (p / 4) ≡ four (has (p ∷ cells)) (p / 4)
four_added t p rows0 rows1 cells below put absent agrees = four_agree (λ c. has rows1 (uniq_number (suc t) c)) (has (p ∷ cells)) (p / 4) (λ c e.
    has-put (suc t) p rows0 rows1 put c ∙ ap (λ b. eqb p c || b)
    (agrees_own t rows0 cells agrees c (child_below t c (p / 4) e (parent_below t p below))
    ∙ ap (λ b. has cells c && not b) (ap (four (has cells)) e ∙ four_misses (has cells) p absent) ∙ and_true (has cells c)))

added_first : (p : ℕ) (rows0 rows1 cells : List ℕ) → p < cell_count 0 → SameMembers rows1 (uniq_number 0 p ∷ rows0) → AgreesUpTo 0 rows0 cells → AgreesUpTo 0 rows1 (p ∷ cells)
added_first p rows0 rows1 cells below put agrees = agrees_zero rows1 (p ∷ cells)
    (λ row low. put_other (uniq_number 0 p) rows0 rows1 put row (λ e. omega arith) ∙ agrees_none 0 rows0 cells agrees row low)
    (λ q lt. has-put 0 p rows0 rows1 put q ∙ ap (λ b. eqb p q || b) (agrees_first rows0 cells agrees q lt))

-- a sibling is still missing
added_alone : (t p : ℕ) (rows0 rows1 cells : List ℕ) → p < cell_count (suc t) → SameMembers rows1 (uniq_number (suc t) p ∷ rows0) → has cells p ≡ false → AgreesUpTo (suc t) rows0 cells
    → four (has (p ∷ cells)) (p / 4) ≡ false → AgreesUpTo (suc t) rows1 (p ∷ cells)
added_alone t p rows0 rows1 cells below put absent agrees none =
    let fours : (q : ℕ) → four (has cells) q ≡ four (has (p ∷ cells)) q =
    λ q. sym (four_more p q cells absent ∙ ap (λ b. (eqb (p / 4) q && b) || four (has cells) q) none ∙ drop_false (eqb (p / 4) q) (four (has cells) q)) in
    agrees_suc t rows1 (p ∷ cells)
    (agrees_same t rows1 (above t cells) (above t (p ∷ cells)) (λ q lt. has-above t cells q lt ∙ fours q ∙ sym (has-above t (p ∷ cells) q lt))
    (λ row low. let high : 16 * 4 ^ t ≤ uniq_number (suc t) p = own_high t p in put_other (uniq_number (suc t) p) rows0 rows1 put row (λ e. omega arith) ∙ agrees_low t rows0 cells agrees row low))
    (λ q lt. has-put (suc t) p rows0 rows1 put q ∙ ap (λ b. eqb p q || b) (agrees_own t rows0 cells agrees q lt)
    ∙ spread (eqb p q) (has cells q) (four (has cells) (q / 4)) (λ h. ap (λ (z : ℕ). four (has cells) (z / 4)) (sym (eqb-true p q h)) ∙ four_misses (has cells) p absent)
    ∙ ap (λ b. (eqb p q || has cells q) && not b) (fours (q / 4)))
  where
    drop_false : (a b : Bool) → ((a && false) || b) ≡ b
    drop_false true b = refl
    drop_false false b = refl

    spread : (a h f : Bool) → (a ≡ true → f ≡ false) → (a || (h && not f)) ≡ ((a || h) && not f)
    spread true h true when = absurd (true≢false (when refl))
    spread true h false when = refl
    spread false h f when = refl

-- the four siblings are there: the cell above is one more cell of its order
added_above : (t p : ℕ) (rows0 rows1 rows2 rows3 cells : List ℕ) → p < cell_count (suc t) → SameMembers rows1 (uniq_number (suc t) p ∷ rows0) → has cells p ≡ false → AgreesUpTo (suc t) rows0 cells
    → SameMembers rows2 (filter (λ row. not (has (children (suc t) (p / 4)) row)) rows1)
    → (AgreesUpTo t rows2 (above t cells) → AgreesUpTo t rows3 (p / 4 ∷ above t cells)) → SameAbove t rows3 rows2
    → four (has (p ∷ cells)) (p / 4) ≡ true → AgreesUpTo (suc t) rows3 (p ∷ cells)
added_above t p rows0 rows1 rows2 rows3 cells below put absent agrees taken up same all =
    let gone : List ℕ = children (suc t) (p / 4) in
    let fours : (q : ℕ) → ((eqb (p / 4) q) || four (has cells) q) ≡ four (has (p ∷ cells)) q =
    λ q. sym (four_more p q cells absent ∙ ap (λ b. (eqb (p / 4) q && b) || four (has cells) q) all ∙ ap (λ b. b || four (has cells) q) (and_true (eqb (p / 4) q))) in
    let after : (row : ℕ) → has rows2 row ≡ (has rows1 row && not (has gone row)) = λ row. taken row ∙ has-filter (λ r. not (has gone r)) rows1 row in
    let low : AgreesUpTo t rows2 (above t cells) = λ row lt.
    let high : 16 * 4 ^ t ≤ uniq_number (suc t) p = own_high t p in
    after row ∙ ap (λ b. has rows1 row && not b) (low_no_child t p row below lt) ∙ and_true (has rows1 row)
    ∙ put_other (uniq_number (suc t) p) rows0 rows1 put row (λ e. omega arith) ∙ agrees_low t rows0 cells agrees row lt in
    agrees_suc t rows3 (p ∷ cells)
    (agrees_same t rows3 (p / 4 ∷ above t cells) (above t (p ∷ cells)) (λ q lt. ap (λ b. eqb (p / 4) q || b) (has-above t cells q lt) ∙ fours q ∙ sym (has-above t (p ∷ cells) q lt)) (up low))
    (λ q lt. same (uniq_number (suc t) q) (own_high t q) ∙ after (uniq_number (suc t) q)
    ∙ ap₂ (λ a b. a && not b) (has-put (suc t) p rows0 rows1 put q ∙ ap (λ b. eqb p q || b) (agrees_own t rows0 cells agrees q lt)) (has-children (suc t) (p / 4) q)
    ∙ carry (eqb p q) (has cells q) (four (has cells) (q / 4)) (eqb (q / 4) (p / 4)) (λ h. eq-eqb (q / 4) (p / 4) (ap (λ (z : ℕ). z / 4) (sym (eqb-true p q h))))
    ∙ ap (λ b. (eqb p q || has cells q) && not (b || four (has cells) (q / 4))) (turn (q / 4) (p / 4))
    ∙ ap (λ b. (eqb p q || has cells q) && not b) (fours (q / 4)))
  where
    carry : (a h f s : Bool) → (a ≡ true → s ≡ true) → ((a || (h && not f)) && not s) ≡ ((a || h) && not (s || f))
    carry true h f true when = refl
    carry true h f false when = absurd (true≢false (sym (when refl)))
    carry false true true true when = refl
    carry false true true false when = refl
    carry false true false true when = refl
    carry false true false false when = refl
    carry false false f s when = refl

    turn : (a b : ℕ) → eqb a b ≡ eqb b a
    turn a b = same_bools (eqb a b) (eqb b a) (λ h. eq-eqb b a (sym (eqb-true a b h))) (λ h. eq-eqb a b (sym (eqb-true b a h)))

-- by the order of the cell
pub add_ends : (k p : ℕ) (rows0 rows1 : List ℕ) → p < cell_count k → SameMembers rows1 (uniq_number k p ∷ rows0) → (0 < k → list_all (has rows1) (children k (p / 4)) ≡ false)
    → (cells : List ℕ) → has cells p ≡ false → AgreesUpTo k rows0 cells → AgreesUpTo k rows1 (p ∷ cells)
add_ends zero p rows0 rows1 below put missing cells absent agrees = added_first p rows0 rows1 cells below put agrees
add_ends (suc t) p rows0 rows1 below put missing cells absent agrees =
    added_alone t p rows0 rows1 cells below put absent agrees
    (sym (four_added t p rows0 rows1 cells below put absent agrees) ∙ sym (all-children (suc t) (p / 4) rows1) ∙ missing (omega arith))

pub add_goes_up : (k p : ℕ) (rows0 rows1 rows2 rows3 : List ℕ) → 0 < k → p < cell_count k → SameMembers rows1 (uniq_number k p ∷ rows0) → list_all (has rows1) (children k (p / 4)) ≡ true
    → SameMembers rows2 (filter (λ row. not (has (children k (p / 4)) row)) rows1)
    → ((cells : List ℕ) → has cells (p / 4) ≡ false → AgreesUpTo (k - 1) rows2 cells → AgreesUpTo (k - 1) rows3 (p / 4 ∷ cells)) → SameAbove (k - 1) rows3 rows2
    → (cells : List ℕ) → has cells p ≡ false → AgreesUpTo k rows0 cells → AgreesUpTo k rows3 (p ∷ cells)
add_goes_up zero p rows0 rows1 rows2 rows3 some below put all taken up same cells absent agrees = absurd (omega arith)
add_goes_up (suc t) p rows0 rows1 rows2 rows3 some below put all taken up same cells absent agrees =
    let order : suc t - 1 ≡ t = omega arith in
    let up' : (cells : List ℕ) → has cells (p / 4) ≡ false → AgreesUpTo t rows2 cells → AgreesUpTo t rows3 (p / 4 ∷ cells) =
    subst (λ (j : ℕ). (cells : List ℕ) → has cells (p / 4) ≡ false → AgreesUpTo j rows2 cells → AgreesUpTo j rows3 (p / 4 ∷ cells)) order up in
    let none : has (above t cells) (p / 4) ≡ false = has-above t cells (p / 4) (parent_below t p below) ∙ four_misses (has cells) p absent in
    added_above t p rows0 rows1 rows2 rows3 cells below put absent agrees taken (up' (above t cells) none) (subst (λ (j : ℕ). SameAbove j rows3 rows2) order same)
    (sym (four_added t p rows0 rows1 cells below put absent agrees) ∙ sym (all-children (suc t) (p / 4) rows1) ∙ all)

pub add_keeps : (k p : ℕ) (rows0 rows1 rows2 rows3 : List ℕ) → 0 < k → p < cell_count k → SameMembers rows1 (uniq_number k p ∷ rows0)
    → SameMembers rows2 (filter (λ row. not (has (children k (p / 4)) row)) rows1) → SameAbove (k - 1) rows3 rows2 → SameAbove k rows3 rows0
add_keeps zero p rows0 rows1 rows2 rows3 some below put taken same = absurd (omega arith)
add_keeps (suc t) p rows0 rows1 rows2 rows3 some below put taken same = λ row high.
    let order : suc t - 1 ≡ t = omega arith in
    let e : 4 ^ suc t ≡ 4 * 4 ^ t = power_more t in
    let same' : SameAbove t rows3 rows2 = subst (λ (j : ℕ). SameAbove j rows3 rows2) order same in
    same' row (omega arith) ∙ taken row ∙ has-filter (λ r. not (has (children (suc t) (p / 4)) r)) rows1 row
    ∙ ap (λ b. has rows1 row && not b) (high_no_child t p row below high) ∙ and_true (has rows1 row)
    ∙ put_other (uniq_number (suc t) p) rows0 rows1 put row (λ same. omega arith)

-- ---- one cell less

removed_first : (p : ℕ) (rows0 rows1 cells : List ℕ) → p < cell_count 0 → SameMembers rows1 (without (uniq_number 0 p) rows0) → AgreesUpTo 0 rows0 cells → AgreesUpTo 0 rows1 (without p cells)
removed_first p rows0 rows1 cells below taken agrees = agrees_zero rows1 (without p cells)
    (λ row low. taken_other (uniq_number 0 p) rows0 rows1 taken row (λ e. omega arith) ∙ agrees_none 0 rows0 cells agrees row low)
    (λ q lt. has-taken 0 p rows0 rows1 taken q ∙ ap (λ b. b && not (eqb q p)) (agrees_first rows0 cells agrees q lt) ∙ sym (has-without p cells q))

-- the cells above those that are left
lower : (t p : ℕ) (rows cells : List ℕ) → AgreesUpTo t rows (without (p / 4) (above t cells)) → AgreesUpTo t rows (above t (without p cells))
lower t p rows cells agrees = agrees_same t rows (without (p / 4) (above t cells)) (above t (without p cells)) (λ q lt.
    has-without (p / 4) (above t cells) q ∙ ap (λ b. b && not (eqb q (p / 4))) (has-above t cells q lt) ∙ sym (four_without p q cells) ∙ sym (has-above t (without p cells) q lt)) agrees

taken_low : (t p : ℕ) (rows0 rows1 cells : List ℕ) → SameMembers rows1 (without (uniq_number (suc t) p) rows0) → AgreesUpTo (suc t) rows0 cells → AgreesUpTo t rows1 (above t cells)
taken_low t p rows0 rows1 cells taken agrees = λ row low.
    let high : 16 * 4 ^ t ≤ uniq_number (suc t) p = own_high t p in
    taken_other (uniq_number (suc t) p) rows0 rows1 taken row (λ e. omega arith) ∙ agrees_low t rows0 cells agrees row low

-- where no full cell lies above, the cell's own row is all that changes
own_change : (t p : ℕ) (rows0 rows1 cells : List ℕ) → SameMembers rows1 (without (uniq_number (suc t) p) rows0) → AgreesUpTo (suc t) rows0 cells → four (has cells) (p / 4) ≡ false
    → (q : ℕ) → q < cell_count (suc t) → has rows1 (uniq_number (suc t) q) ≡ single (without p cells) q
own_change t p rows0 rows1 cells taken agrees none q lt =
    has-taken (suc t) p rows0 rows1 taken q ∙ ap (λ b. b && not (eqb q p)) (agrees_own t rows0 cells agrees q lt)
    ∙ keep (has cells q) (four (has cells) (q / 4)) (eqb q p) (eqb (q / 4) (p / 4)) (λ h. ap (four (has cells)) (eqb-true (q / 4) (p / 4) h) ∙ none)
    ∙ sym (ap₂ (λ a b. a && not b) (has-without p cells q) (four_without p (q / 4) cells))
  where
    keep : (h f e s : Bool) → (s ≡ true → f ≡ false) → ((h && not f) && not e) ≡ ((h && not e) && not (f && not s))
    keep h true e true when = absurd (true≢false (when refl))
    keep true true true false when = refl
    keep true true false false when = refl
    keep false true true false when = refl
    keep false true false false when = refl
    keep true false true s when = refl
    keep true false false s when = refl
    keep false false true s when = refl
    keep false false false s when = refl

removed_own : (t p : ℕ) (rows0 rows1 cells : List ℕ) → SameMembers rows1 (without (uniq_number (suc t) p) rows0) → AgreesUpTo (suc t) rows0 cells → four (has cells) (p / 4) ≡ false → AgreesUpTo (suc t) rows1 (without p cells)
removed_own t p rows0 rows1 cells taken agrees none = agrees_suc t rows1 (without p cells)
    (agrees_same t rows1 (above t cells) (above t (without p cells)) (λ q lt. has-above t cells q lt ∙ stays q ∙ sym (four_without p q cells) ∙ sym (has-above t (without p cells) q lt)) (taken_low t p rows0 rows1 cells taken agrees))
    (own_change t p rows0 rows1 cells taken agrees none)
  where
    stays : (q : ℕ) → four (has cells) q ≡ (four (has cells) q && not (eqb q (p / 4)))
    stays q = elim (cases_eq q (p / 4)) [
      | inl e ↦ let f : four (has cells) q ≡ false = ap (four (has cells)) e ∙ none in rw f refl
      | inr ne ↦ let f : eqb q (p / 4) ≡ false = ne_eqb q (p / 4) ne in rw f (sym (and_true (four (has cells) q)))
    ]

-- the row above was cut into its children
removed_above : (t p : ℕ) (rows0 rows1 rows2 rows3 rows4 cells : List ℕ) → p < cell_count (suc t) → SameMembers rows1 (without (uniq_number (suc t) p) rows0) → AgreesUpTo (suc t) rows0 cells
    → AgreesUpTo t rows2 (without (p / 4) (above t cells)) → SameAbove t rows2 rows1 → four (has cells) (p / 4) ≡ true
    → SameMembers rows3 (children (suc t) (p / 4) ++ rows2) → SameMembers rows4 (without (uniq_number (suc t) p) rows3) → AgreesUpTo (suc t) rows4 (without p cells)
removed_above t p rows0 rows1 rows2 rows3 rows4 cells below taken agrees low same all put gone = agrees_suc t rows4 (without p cells)
    (lower t p rows4 cells (λ row lt.
    let high : 16 * 4 ^ t ≤ uniq_number (suc t) p = own_high t p in
    taken_other (uniq_number (suc t) p) rows3 rows4 gone row (λ e. omega arith) ∙ put row ∙ has-append (children (suc t) (p / 4)) rows2 row ∙ ap (λ b. b || has rows2 row) (low_no_child t p row below lt) ∙ low row lt))
    (λ q lt.
    has-taken (suc t) p rows3 rows4 gone q
    ∙ ap (λ b. b && not (eqb q p)) (put (uniq_number (suc t) q) ∙ has-append (children (suc t) (p / 4)) rows2 (uniq_number (suc t) q)
    ∙ ap₂ (λ a b. a || b) (has-children (suc t) (p / 4) q) (same (uniq_number (suc t) q) (own_high t q) ∙ has-taken (suc t) p rows0 rows1 taken q ∙ ap (λ b. b && not (eqb q p)) (agrees_own t rows0 cells agrees q lt)))
    ∙ cut (has cells q) (four (has cells) (q / 4)) (eqb q p) (eqb (q / 4) (p / 4)) (λ h. ap (four (has cells)) (eqb-true (q / 4) (p / 4) h) ∙ all) (λ h. four_at (has cells) (p / 4) all q (eqb-true (q / 4) (p / 4) h))
    ∙ sym (ap₂ (λ a b. a && not b) (has-without p cells q) (four_without p (q / 4) cells)))
  where
    cut : (h f e s : Bool) → (s ≡ true → f ≡ true) → (s ≡ true → h ≡ true) → ((s || ((h && not f) && not e)) && not e) ≡ ((h && not e) && not (f && not s))
    cut true true true true when there = refl
    cut true true false true when there = refl
    cut true false e true when there = absurd (true≢false (sym (when refl)))
    cut false f e true when there = absurd (true≢false (sym (there refl)))
    cut true true true false when there = refl
    cut true true false false when there = refl
    cut true false true false when there = refl
    cut true false false false when there = refl
    cut false true true false when there = refl
    cut false true false false when there = refl
    cut false false true false when there = refl
    cut false false false false when there = refl

-- a row of its own says that the cell was there, and that its parent wasn't full
row_was : (t p : ℕ) (rows cells : List ℕ) → p < cell_count (suc t) → AgreesUpTo (suc t) rows cells → has rows (uniq_number (suc t) p) ≡ true → (has cells p ≡ true) × (four (has cells) (p / 4) ≡ false)
row_was t p rows cells below agrees row =
    let both : (has cells p ≡ true) × (not (four (has cells) (p / 4)) ≡ true) = and_parts (has cells p) (not (four (has cells) (p / 4))) (sym (agrees_own t rows cells agrees p below) ∙ row) in
    (both.0, not-true (four (has cells) (p / 4)) both.1)

-- by the order of the cell
pub remove_own : (k p : ℕ) (rows0 rows1 : List ℕ) → p < cell_count k → has rows0 (uniq_number k p) ≡ true → SameMembers rows1 (without (uniq_number k p) rows0)
    → (cells : List ℕ) → AgreesUpTo k rows0 cells → (true ≡ has cells p) × AgreesUpTo k rows1 (without p cells)
remove_own zero p rows0 rows1 below row taken cells agrees = (sym row ∙ agrees_first rows0 cells agrees p below, removed_first p rows0 rows1 cells below taken agrees)
remove_own (suc t) p rows0 rows1 below row taken cells agrees =
    let was : (has cells p ≡ true) × (four (has cells) (p / 4) ≡ false) = row_was t p rows0 cells below agrees row in
    (sym was.0, removed_own t p rows0 rows1 cells taken agrees was.1)

pub remove_first : (k p : ℕ) (rows0 rows1 : List ℕ) → k ≡ 0 → p < cell_count k → has rows0 (uniq_number k p) ≡ false → SameMembers rows1 (without (uniq_number k p) rows0)
    → (cells : List ℕ) → AgreesUpTo k rows0 cells → (false ≡ has cells p) × AgreesUpTo k rows1 (without p cells)
remove_first zero p rows0 rows1 e below row taken cells agrees = (sym row ∙ agrees_first rows0 cells agrees p below, removed_first p rows0 rows1 cells below taken agrees)
remove_first (suc t) p rows0 rows1 e below row taken cells agrees = absurd (omega arith)

pub remove_none : (k p : ℕ) (rows0 rows1 rows2 : List ℕ) → 0 < k → p < cell_count k → has rows0 (uniq_number k p) ≡ false → SameMembers rows1 (without (uniq_number k p) rows0)
    → ((cells : List ℕ) → AgreesUpTo (k - 1) rows1 cells → false ≡ has cells (p / 4))
    → ((cells : List ℕ) → AgreesUpTo (k - 1) rows1 cells → AgreesUpTo (k - 1) rows2 (without (p / 4) cells)) → SameAbove (k - 1) rows2 rows1
    → (cells : List ℕ) → AgreesUpTo k rows0 cells → (false ≡ has cells p) × AgreesUpTo k rows2 (without p cells)
remove_none zero p rows0 rows1 rows2 some below row taken was up same cells agrees = absurd (omega arith)
remove_none (suc t) p rows0 rows1 rows2 some below row taken was up same cells agrees =
    let order : suc t - 1 ≡ t = omega arith in
    let low : AgreesUpTo t rows1 (above t cells) = taken_low t p rows0 rows1 cells taken agrees in
    let none : four (has cells) (p / 4) ≡ false =
    sym (has-above t cells (p / 4) (parent_below t p below)) ∙ sym (subst (λ (j : ℕ). (cells : List ℕ) → AgreesUpTo j rows1 cells → false ≡ has cells (p / 4)) order was (above t cells) low) in
    let same' : SameAbove t rows2 rows1 = subst (λ (j : ℕ). SameAbove j rows2 rows1) order same in (
      sym (sym (and_true (has cells p)) ∙ ap (λ b. has cells p && not b) (sym none) ∙ sym (agrees_own t rows0 cells agrees p below) ∙ row),
      agrees_suc t rows2 (without p cells)
          (lower t p rows2 cells (subst (λ (j : ℕ). (cells : List ℕ) → AgreesUpTo j rows1 cells → AgreesUpTo j rows2 (without (p / 4) cells)) order up (above t cells) low))
          (λ q lt. same' (uniq_number (suc t) q) (own_high t q) ∙ own_change t p rows0 rows1 cells taken agrees none q lt),
    )

pub remove_cut : (k p : ℕ) (rows0 rows1 rows2 rows3 rows4 : List ℕ) → 0 < k → p < cell_count k → SameMembers rows1 (without (uniq_number k p) rows0)
    → ((cells : List ℕ) → AgreesUpTo (k - 1) rows1 cells → true ≡ has cells (p / 4))
    → ((cells : List ℕ) → AgreesUpTo (k - 1) rows1 cells → AgreesUpTo (k - 1) rows2 (without (p / 4) cells)) → SameAbove (k - 1) rows2 rows1
    → SameMembers rows3 (children k (p / 4) ++ rows2) → SameMembers rows4 (without (uniq_number k p) rows3)
    → (cells : List ℕ) → AgreesUpTo k rows0 cells → (true ≡ has cells p) × AgreesUpTo k rows4 (without p cells)
remove_cut zero p rows0 rows1 rows2 rows3 rows4 some below taken was up same put gone cells agrees = absurd (omega arith)
remove_cut (suc t) p rows0 rows1 rows2 rows3 rows4 some below taken was up same put gone cells agrees =
    let order : suc t - 1 ≡ t = omega arith in
    let low : AgreesUpTo t rows1 (above t cells) = taken_low t p rows0 rows1 cells taken agrees in
    let all : four (has cells) (p / 4) ≡ true =
    sym (has-above t cells (p / 4) (parent_below t p below)) ∙ sym (subst (λ (j : ℕ). (cells : List ℕ) → AgreesUpTo j rows1 cells → true ≡ has cells (p / 4)) order was (above t cells) low) in (
      sym (four_at (has cells) (p / 4) all p refl),
      removed_above t p rows0 rows1 rows2 rows3 rows4 cells below taken agrees
          (subst (λ (j : ℕ). (cells : List ℕ) → AgreesUpTo j rows1 cells → AgreesUpTo j rows2 (without (p / 4) cells)) order up (above t cells) low)
          (subst (λ (j : ℕ). SameAbove j rows2 rows1) order same) all put gone,
    )

pub take_keeps : (k p : ℕ) (rows0 rows1 : List ℕ) → p < cell_count k → SameMembers rows1 (without (uniq_number k p) rows0) → SameAbove k rows1 rows0
take_keeps k p rows0 rows1 below taken = λ row high. taken_other (uniq_number k p) rows0 rows1 taken row (λ e. omega arith)

pub lower_keeps : (k : ℕ) (rows1 rows2 : List ℕ) → 0 < k → SameAbove (k - 1) rows2 rows1 → SameAbove k rows2 rows1
lower_keeps zero rows1 rows2 some same = absurd (omega arith)
lower_keeps (suc t) rows1 rows2 some same = λ row high.
    let order : suc t - 1 ≡ t = omega arith in
    let e : 4 ^ suc t ≡ 4 * 4 ^ t = power_more t in
    let same' : SameAbove t rows2 rows1 = subst (λ (j : ℕ). SameAbove j rows2 rows1) order same in
    same' row (omega arith)

pub put_keeps : (k p : ℕ) (rows2 rows3 : List ℕ) → 0 < k → p < cell_count k → SameMembers rows3 (children k (p / 4) ++ rows2) → SameAbove k rows3 rows2
put_keeps zero p rows2 rows3 some below put = absurd (omega arith)
put_keeps (suc t) p rows2 rows3 some below put = λ row high. put row ∙ has-append (children (suc t) (p / 4)) rows2 row ∙ ap (λ b. b || has rows2 row) (high_no_child t p row below high)
