-- One row is looked up, put in or taken out.
use Rattle.std.proofs.Common.{◌≡◌, inl, inr, ℕ, suc, ◌+◌, ◌<◌, ◌≤◌, Bool, true, false, not, ◌&&◌, ◌||◌, eqb, List, [], ◌∷◌, ◌++◌, length, get_or, take, drop, filter, refl, sym, ap, ◌∙◌, subst, arith, Result, Ok, Err, is_ok, nat_cmp, MatchResult, insert, remove, take-append-drop, drop-cons, length-take, get_or-take, get_or-drop, length-drop, take_all, ap₂}
use Rattle.std.specs.List.Sorted.{IsBinarySearchResult}
use Rattle.std.proofs.lemmas.Bool.{true≢false, cases_lt, or_cases, or_left, or_right, eq-eqb, eqb-true, ne_eqb, and_parts, and_from, not-true, not_from_false}
use Rattle.std.proofs.lemmas.List.Folds.{list_any_more}
use Rattle.std.proofs.lemmas.List.Sorted.{searched}
use Rattle.std.proofs.lemmas.Map.Keys.{non_decreasing_from_sorted}
use Rattle.coverage_moc.specs.Cover.{has, IsAscending, without}
use Rattle.coverage_moc.specs.Rows.{SameMembers}
use Rattle.coverage_moc.proofs.MemberLemmas.{same_bools, false_where, has-head, has-tail, has-cases, has-append, has_at, place_of, has-filter, up-nil, up-cons, up-append, up-head, up-tail}

-- what a search in ascending rows says
places : (rows : List ℕ) (row : ℕ) (r : Result ℕ ℕ) → IsAscending rows → IsBinarySearchResult (λ y. nat_cmp y row) rows r
    → MatchResult r (λ i. (i < length rows) × (get_or rows i 0 ≡ row)) (λ i. (i ≤ length rows) × ((k : ℕ) → k < i → get_or rows k 0 < row) × ((k : ℕ) → i ≤ k → k < length rows → row < get_or rows k 0))
places rows row r up at = searched rows row r at (λ i j le lt. non_decreasing_from_sorted rows up i j 0 le lt)

pub found : (rows : List ℕ) (row : ℕ) (r : Result ℕ ℕ) → IsAscending rows → IsBinarySearchResult (λ y. nat_cmp y row) rows r → is_ok r ≡ has rows row
found rows row (Ok i) up at = let p : (i < length rows) × (get_or rows i 0 ≡ row) = places rows row (Ok i) up at in sym (subst (λ (z : ℕ). has rows z ≡ true) p.1 (has_at rows i p.0))
found rows row (Err i) up at = sym (false_where (has rows row) (λ t.
    let p : (i ≤ length rows) × ((k : ℕ) → k < i → get_or rows k 0 < row) × ((k : ℕ) → i ≤ k → k < length rows → row < get_or rows k 0) = places rows row (Err i) up at in
    let q : (j : ℕ) × (j < length rows) × (get_or rows j 0 ≡ row) = place_of rows row t in
    elim (cases_lt q.0 i) [
      | inl lt ↦ let below : get_or rows q.0 0 < row = p.1 q.0 lt in let e : get_or rows q.0 0 ≡ row = q.2 in absurd (omega arith)
      | inr ge ↦ let above : row < get_or rows q.0 0 = p.2 q.0 ge q.1 in let e : get_or rows q.0 0 ≡ row = q.2 in absurd (omega arith)
    ]))

-- a number put between those below it and those above it
up-between : (xs : List ℕ) (row : ℕ) (ys : List ℕ) → IsAscending xs → IsAscending ys → ((x : ℕ) → has xs x ≡ true → x < row) → ((y : ℕ) → has ys y ≡ true → row < y) → IsAscending (xs ++ row ∷ ys)
up-between xs row ys up1 up2 below above = up-append xs (row ∷ ys) up1 (up-cons row ys above up2) (λ x y hx hy.
    let lt : x < row = below x hx in
    elim (has-cases row ys y hy) [
      | inl e ↦ omega arith
      | inr t ↦ let gt : row < y = above y t in omega arith
    ])

up-parts : (xs ys : List ℕ) → IsAscending (xs ++ ys) → IsAscending xs × IsAscending ys × ((x y : ℕ) → has xs x ≡ true → has ys y ≡ true → x < y)
up-parts [] ys up = (up-nil, up, λ x y hx hy. absurd (true≢false (sym hx)))
up-parts (x ∷ xs) ys up =
    let rest : IsAscending xs × IsAscending ys × ((a b : ℕ) → has xs a ≡ true → has ys b ≡ true → a < b) = up-parts xs ys (up-tail x (xs ++ ys) up) in (
      up-cons x xs (λ y h. up-head x (xs ++ ys) up y (has-append xs ys y ∙ or_left (has xs y) (has ys y) h)) rest.0,
      rest.1,
      λ a b ha hb. elim (has-cases x xs a ha) [
        | inl e ↦ let lt : x < b = up-head x (xs ++ ys) up b (has-append xs ys b ∙ or_right (has xs b) (has ys b) hb) in omega arith
        | inr t ↦ rest.2 a b t hb
      ],
    )

in_take : (rows : List ℕ) (i x : ℕ) → has (take i rows) x ≡ true → (k : ℕ) × (k < i) × (get_or rows k 0 ≡ x)
in_take rows i x h =
    let p : (k : ℕ) × (k < length (take i rows)) × (get_or (take i rows) k 0 ≡ x) = place_of (take i rows) x h in
    let lt : p.0 < i = (let l : p.0 < length (take i rows) = p.1 in omega (arith, length-take i rows)) in
    (p.0, lt, sym (get_or-take i rows p.0 0 lt) ∙ p.2)

in_drop : (rows : List ℕ) (i x : ℕ) → has (drop i rows) x ≡ true → (k : ℕ) × (i ≤ k) × (k < length rows) × (get_or rows k 0 ≡ x)
in_drop rows i x h =
    let p : (k : ℕ) × (k < length (drop i rows)) × (get_or (drop i rows) k 0 ≡ x) = place_of (drop i rows) x h in
    let lt : i + p.0 < length rows = (let l : p.0 < length (drop i rows) = p.1 in omega (arith, length-drop i rows)) in
    (i + p.0, omega arith, lt, sym (get_or-drop i rows p.0 0) ∙ p.2)

-- the row is put in where the search ends
pub put-ascending : (rows : List ℕ) (row i : ℕ) (r : Result ℕ ℕ) → r ≡ Err i → IsAscending rows → IsBinarySearchResult (λ y. nat_cmp y row) rows r → IsAscending (insert rows i row)
put-ascending rows row i r e up at =
    let p : (i ≤ length rows) × ((k : ℕ) → k < i → get_or rows k 0 < row) × ((k : ℕ) → i ≤ k → k < length rows → row < get_or rows k 0) = places rows row (Err i) up (subst (IsBinarySearchResult (λ y. nat_cmp y row) rows) e at) in
    let parts : IsAscending (take i rows) × IsAscending (drop i rows) × ((x y : ℕ) → has (take i rows) x ≡ true → has (drop i rows) y ≡ true → x < y) = up-parts (take i rows) (drop i rows) (subst IsAscending (sym (take-append-drop i rows)) up) in
    up-between (take i rows) row (drop i rows) parts.0 parts.1
    (λ x h. let k : (k : ℕ) × (k < i) × (get_or rows k 0 ≡ x) = in_take rows i x h in subst (λ (z : ℕ). z < row) k.2 (p.1 k.0 k.1))
    (λ y h. let k : (k : ℕ) × (i ≤ k) × (k < length rows) × (get_or rows k 0 ≡ y) = in_drop rows i y h in subst (λ (z : ℕ). row < z) k.3 (p.2 k.0 k.1 k.2))

swap_or : (a b c : Bool) → (a || (b || c)) ≡ (b || (a || c))
swap_or true true c = refl
swap_or true false c = refl
swap_or false true c = refl
swap_or false false c = refl

has-middle : (xs : List ℕ) (row : ℕ) (ys : List ℕ) (x : ℕ) → has (xs ++ row ∷ ys) x ≡ (eqb row x || has (xs ++ ys) x)
has-middle xs row ys x = has-append xs (row ∷ ys) x ∙ swap_or (has xs x) (eqb row x) (has ys x) ∙ ap (λ b. eqb row x || b) (sym (has-append xs ys x))

pub put-members : (rows : List ℕ) (row i : ℕ) → SameMembers (insert rows i row) (row ∷ rows)
put-members rows row i = λ x. has-middle (take i rows) row (drop i rows) x ∙ ap (λ zs. eqb row x || has zs x) (take-append-drop i rows)

-- a row that is there is put in
pub put_again : (rows : List ℕ) (row i : ℕ) (r : Result ℕ ℕ) → r ≡ Ok i → IsAscending rows → IsBinarySearchResult (λ y. nat_cmp y row) rows r → SameMembers rows (row ∷ rows)
put_again rows row i r e up at = λ x.
    let there : has rows row ≡ true = sym (found rows row r up at) ∙ ap is_ok e in
    same_bools (has rows x) (has (row ∷ rows) x) (λ t. has-tail row rows x t) (λ t. elim (has-cases row rows x t) [
      | inl eq ↦ subst (λ (z : ℕ). has rows z ≡ true) eq there
      | inr h ↦ h
    ])

-- the rows around the row that the search finds
around : (rows : List ℕ) (row i : ℕ) → i < length rows → get_or rows i 0 ≡ row → take i rows ++ row ∷ drop (suc i) rows ≡ rows
around rows row i lt is = ap (λ zs. take i rows ++ zs) (ap (λ (z : ℕ). z ∷ drop (suc i) rows) (sym is) ∙ sym (drop-cons rows i 0 lt)) ∙ take-append-drop i rows

taken : (xs : List ℕ) (row : ℕ) (ys : List ℕ) → IsAscending (xs ++ row ∷ ys) → SameMembers (xs ++ ys) (without row (xs ++ row ∷ ys))
taken xs row ys up = λ x.
    let parts : IsAscending xs × IsAscending (row ∷ ys) × ((a b : ℕ) → has xs a ≡ true → has (row ∷ ys) b ≡ true → a < b) = up-parts xs (row ∷ ys) up in
    has-append xs ys x ∙ same_bools (has xs x || has ys x) (has (without row (xs ++ row ∷ ys)) x)
    (λ t.
    let apart : (x ≡ row) → ⊥ = λ e. elim (or_cases (has xs x) (has ys x) t) [
      | inl a ↦ let lt : x < row = parts.2 x row a (has-head row ys) in omega arith
      | inr b ↦ let lt : row < x = up-head row ys parts.1 x b in omega arith
    ] in
    has-filter (λ y. not (eqb y row)) (xs ++ row ∷ ys) x
    ∙ and_from (has (xs ++ row ∷ ys) x) (not (eqb x row)) (has-middle xs row ys x ∙ or_right (eqb row x) (has (xs ++ ys) x) (has-append xs ys x ∙ t)) (not_from_false (eqb x row) (ne_eqb x row apart)))
    (λ t.
    let both : (has (xs ++ row ∷ ys) x ≡ true) × (not (eqb x row) ≡ true) = and_parts (has (xs ++ row ∷ ys) x) (not (eqb x row)) (sym (has-filter (λ y. not (eqb y row)) (xs ++ row ∷ ys) x) ∙ t) in
    elim (or_cases (eqb row x) (has (xs ++ ys) x) (sym (has-middle xs row ys x) ∙ both.0)) [
      | inl e ↦ let ne : eqb x row ≡ false = not-true (eqb x row) both.1 in absurd (true≢false (sym (eq-eqb x row (sym (eqb-true row x e))) ∙ ne))
      | inr h ↦ sym (has-append xs ys x) ∙ h
    ])

pub take-members : (rows : List ℕ) (row i : ℕ) (r : Result ℕ ℕ) → r ≡ Ok i → IsAscending rows → IsBinarySearchResult (λ y. nat_cmp y row) rows r → SameMembers (remove rows i) (without row rows)
take-members rows row i r e up at =
    let p : (i < length rows) × (get_or rows i 0 ≡ row) = places rows row (Ok i) up (subst (IsBinarySearchResult (λ y. nat_cmp y row) rows) e at) in
    let is : take i rows ++ row ∷ drop (suc i) rows ≡ rows = around rows row i p.0 p.1 in
    subst (λ zs. SameMembers (remove rows i) (without row zs)) is (taken (take i rows) row (drop (suc i) rows) (subst IsAscending (sym is) up))

pub take-ascending : (rows : List ℕ) (i : ℕ) → i < length rows → IsAscending rows → IsAscending (remove rows i)
take-ascending rows i lt up =
    let is : take i rows ++ get_or rows i 0 ∷ drop (suc i) rows ≡ rows = around rows (get_or rows i 0) i lt refl in
    let parts : IsAscending (take i rows) × IsAscending (get_or rows i 0 ∷ drop (suc i) rows) × ((a b : ℕ) → has (take i rows) a ≡ true → has (get_or rows i 0 ∷ drop (suc i) rows) b ≡ true → a < b) = up-parts (take i rows) (get_or rows i 0 ∷ drop (suc i) rows) (subst IsAscending (sym is) up) in
    up-append (take i rows) (drop (suc i) rows) parts.0 (up-tail (get_or rows i 0) (drop (suc i) rows) parts.1) (λ x y hx hy. parts.2 x y hx (has-tail (get_or rows i 0) (drop (suc i) rows) y hy))

-- a row that isn't there is taken out
pub take_none : (rows : List ℕ) (row i : ℕ) (r : Result ℕ ℕ) → r ≡ Err i → IsAscending rows → IsBinarySearchResult (λ y. nat_cmp y row) rows r → SameMembers rows (without row rows)
take_none rows row i r e up at = λ x.
    let gone : has rows row ≡ false = sym (found rows row r up at) ∙ ap is_ok e in
    sym (has-filter (λ y. not (eqb y row)) rows x ∙ same_bools (has rows x && not (eqb x row)) (has rows x)
    (λ t. (and_parts (has rows x) (not (eqb x row)) t).0)
    (λ t. and_from (has rows x) (not (eqb x row)) t (not_from_false (eqb x row) (ne_eqb x row (λ eq. true≢false (sym t ∙ ap (has rows) eq ∙ gone))))))

-- one of the rows that are taken out
pub take_more : (gone : List ℕ) (i : ℕ) (old rows new : List ℕ) → i < length gone → SameMembers new (without (get_or gone i 0) rows)
    → ((x : ℕ) → has rows x ≡ (has old x && not (has (take i gone) x))) → (x : ℕ) → has new x ≡ (has old x && not (has (take (i + 1) gone) x))
take_more gone i old rows new within taken so_far x =
    taken x ∙ has-filter (λ y. not (eqb y (get_or gone i 0))) rows x
    ∙ ap₂ (λ a b. a && not b) (so_far x) (turn x (get_or gone i 0))
    ∙ regroup (has old x) (has (take i gone) x) (eqb (get_or gone i 0) x)
    ∙ ap (λ b. has old x && not b) (sym (list_any_more (λ y. eqb y x) gone i 0 within))
  where
    turn : (a b : ℕ) → eqb a b ≡ eqb b a
    turn a b = same_bools (eqb a b) (eqb b a) (λ t. eq-eqb b a (sym (eqb-true a b t))) (λ t. eq-eqb a b (sym (eqb-true b a t)))

    regroup : (a b c : Bool) → ((a && not b) && not c) ≡ (a && not (b || c))
    regroup true true true = refl
    regroup true true false = refl
    regroup true false true = refl
    regroup true false false = refl
    regroup false true true = refl
    regroup false true false = refl
    regroup false false true = refl
    regroup false false false = refl

pub taken_all : (gone : List ℕ) (i : ℕ) (old rows : List ℕ) → length gone ≤ i → ((x : ℕ) → has rows x ≡ (has old x && not (has (take i gone) x))) → SameMembers rows (filter (λ row. not (has gone row)) old)
taken_all gone i old rows all so_far = λ x.
    so_far x ∙ ap (λ (zs : List ℕ). has old x && not (has zs x)) (take_all i gone all) ∙ sym (has-filter (λ row. not (has gone row)) old x)
