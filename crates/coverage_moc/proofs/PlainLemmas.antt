-- The plain program: what each step of its loops adds.
use Rattle.std.proofs.Common.{◌≡◌, ℕ, suc, ◌+◌, ◌-◌, ◌/◌, ◌^◌, ◌≤◌, Bool, true, false, List, [], ◌∷◌, ◌++◌, map, filter, flat_map, refl, sym, ap, ◌∙◌, append_assoc, arith, append-nil}
use Rattle.std.specs.List.{range_with_len}
use Rattle.std.proofs.lemmas.List.{map-append}
use Rattle.std.proofs.lemmas.List.Concat.{flat_map-append}
use Rattle.std.proofs.lemmas.List.Elements.{filter-append}
use Rattle.std.specs.Prelude.{nat_le, ◌==◌}
use Rattle.std.proofs.lemmas.Bool.{and_from, and_parts, le-leb, eq-eqb, eqb-true}
use Rattle.healpix_nested.specs.Cells.{lies_under}
use Rattle.coverage_moc.proofs.MemberLemmas.{range_more}

-- a range of one number more
range_next : (n : ℕ) → range_with_len 0 (n + 1) ≡ range_with_len 0 n ++ n ∷ []
range_next n =
    let e : n + 1 ≡ suc n = omega arith in
    let z : 0 + n ≡ n = omega arith in
    ap (range_with_len 0) e ∙ range_more 0 n ∙ ap (λ (k : ℕ). range_with_len 0 n ++ k ∷ []) z

-- what is made of the numbers that pass
chosen_more : (f : ℕ → ℕ) (p : ℕ → Bool) (n : ℕ) → map f (filter p (range_with_len 0 (n + 1))) ≡ map f (filter p (range_with_len 0 n)) ++ map f (filter p (n ∷ []))
chosen_more f p n =
    ap (λ (xs : List ℕ). map f (filter p xs)) (range_next n) ∙ ap (map f) (filter-append p (range_with_len 0 n) (n ∷ [])) ∙ map-append f (filter p (range_with_len 0 n)) (filter p (n ∷ []))

-- a number that passes is pushed, and another is not
pub chosen_this : (f : ℕ → ℕ) (p : ℕ → Bool) (n row : ℕ) (first rows new : List ℕ) → p n ≡ true → row ≡ f n → rows ≡ first ++ map f (filter p (range_with_len 0 n)) → new ≡ rows ++ row ∷ []
    → new ≡ first ++ map f (filter p (range_with_len 0 (n + 1)))
chosen_this f p n row first rows new passes row_is before is =
    let this : map f (filter p (n ∷ [])) ≡ f n ∷ [] = rw passes refl in
    is ∙ ap (λ (xs : List ℕ). xs ++ row ∷ []) before ∙ append_assoc first (map f (filter p (range_with_len 0 n))) (row ∷ [])
    ∙ ap (λ (k : ℕ). first ++ (map f (filter p (range_with_len 0 n)) ++ k ∷ [])) row_is ∙ ap (λ (xs : List ℕ). first ++ (map f (filter p (range_with_len 0 n)) ++ xs)) (sym this)
    ∙ ap (λ (xs : List ℕ). first ++ xs) (sym (chosen_more f p n))

pub chosen_not : (f : ℕ → ℕ) (p : ℕ → Bool) (n : ℕ) (first rows : List ℕ) → p n ≡ false → rows ≡ first ++ map f (filter p (range_with_len 0 n)) → rows ≡ first ++ map f (filter p (range_with_len 0 (n + 1)))
chosen_not f p n first rows fails before =
    let this : map f (filter p (n ∷ [])) ≡ [] = rw fails refl in
    before ∙ ap (λ (xs : List ℕ). first ++ xs) (sym (append-nil (map f (filter p (range_with_len 0 n)))) ∙ ap (λ (xs : List ℕ). map f (filter p (range_with_len 0 n)) ++ xs) (sym this) ∙ sym (chosen_more f p n))

-- one list more
pub lists_more : (f : ℕ → List ℕ) (n : ℕ) → flat_map f (range_with_len 0 (n + 1)) ≡ flat_map f (range_with_len 0 n) ++ f n
lists_more f n =
    ap (flat_map f) (range_next n) ∙ flat_map-append f (range_with_len 0 n) (n ∷ []) ∙ ap (λ (xs : List ℕ). flat_map f (range_with_len 0 n) ++ xs) (append-nil (f n))

-- a leaf that lies under a cell, by its number
pub under_from : (top leaf k p : ℕ) → k ≤ top → leaf / 4 ^ (top - k) ≡ p → lies_under top leaf k p ≡ true
under_from top leaf k p order is = and_from (nat_le k top) (leaf / 4 ^ (top - k) == p) (le-leb k top order) (eq-eqb (leaf / 4 ^ (top - k)) p is)

pub under_at : (top leaf k p : ℕ) → lies_under top leaf k p ≡ true → leaf / 4 ^ (top - k) ≡ p
under_at top leaf k p under = eqb-true (leaf / 4 ^ (top - k)) p (and_parts (nat_le k top) (leaf / 4 ^ (top - k) == p) under).1
