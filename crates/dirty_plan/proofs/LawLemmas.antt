-- What the dirty cells are, and how many.
use Rattle.std.proofs.Common.{◌≡◌, ℕ, zero, suc, ◌+◌, ◌-◌, ◌/◌, ◌^◌, ◌<◌, ◌≤◌, ◌||◌, ◌&&◌, ◌↔◌, Bool, true, false, cond, List, [], ◌∷◌, length, get_or, refl, sym, ap, ◌∙◌, subst, arith}
use Rattle.std.specs.Prelude.{nat_eq, nat_le, nat_lt, filter, sum_by, All, Any, Contains}
use Rattle.std.specs.List.{list_any, range_with_len}
use Rattle.std.specs.List.Sorted.{IsStrictlyIncreasing}
use Rattle.std.proofs.lemmas.Bool.Decides.{nat_tests}
use Rattle.std.proofs.lemmas.List.Folds.{Any-from_list_any, list_any-from_Any, list_any_at}
use Rattle.std.proofs.lemmas.List.FromFn.{length-range_with_len, get_or-range_with_len}
use Rattle.std.proofs.lemmas.List.Sums.{sum_by-cons}
use Rattle.std.proofs.lemmas.List.Kept.{IsStrictlyIncreasing-filter}
use Rattle.healpix_nested.specs.Cells.{cell_count, lies_under}
use Rattle.dirty_plan.specs.Dirty.{is_dirty, dirty_cells, work, orders_down}
use Rattle.dirty_plan.proofs.Climbing.{cell_in_range}

-- ---- ascending

range_increases : (a n : ℕ) → IsStrictlyIncreasing (range_with_len a n)
range_increases a n k h =
    let long : length (range_with_len a n) ≡ n = length-range_with_len a n in
    let this : get_or (range_with_len a n) k 0 ≡ a + k = get_or-range_with_len a n k 0 (omega arith) in
    let next : get_or (range_with_len a n) (k + 1) 0 ≡ a + (k + 1) = get_or-range_with_len a n (k + 1) 0 (omega arith) in
    omega arith

pub dirty_ascend : (top order : ℕ) (touched : List ℕ) → IsStrictlyIncreasing (dirty_cells top touched order)
unfolding dirty_cells
dirty_ascend top order touched = IsStrictlyIncreasing-filter (is_dirty top touched order) (range_with_len 0 (cell_count order)) (range_increases 0 (cell_count order))

-- ---- which they are

no_both : (b : Bool) → false ≡ (b && false)
no_both true = refl
no_both false = refl

any_filter : (p : ℕ → Bool) (c : ℕ) (xs : List ℕ) → list_any (λ x. nat_eq x c) (filter p xs) ≡ (p c && list_any (λ x. nat_eq x c) xs)
any_filter p c [] = no_both (p c)
any_filter p c (x ∷ xs) =
    let rest : list_any (λ y. nat_eq y c) (filter p xs) ≡ (p c && list_any (λ y. nat_eq y c) xs) = any_filter p c xs in
    elim (nat_eq x c) as (λ b. nat_eq x c ≡ b → list_any (λ y. nat_eq y c) (cond (p x) (x ∷ filter p xs) (filter p xs)) ≡ (p c && (b || list_any (λ y. nat_eq y c) xs))) [
      | true ↦ λ e.
          let at : x ≡ c = grind (arith, nat_tests) in
          let same : p x ≡ p c = ap p at in
          elim (p x) as (λ b. p x ≡ b → list_any (λ y. nat_eq y c) (cond b (x ∷ filter p xs) (filter p xs)) ≡ (p c && true)) [
            | true ↦ λ t. let yes : p c ≡ true = sym same ∙ t in rw (e, yes) refl
            | false ↦ λ t. let no : p c ≡ false = sym same ∙ t in rw (rest, no) refl
          ] refl
      | false ↦ λ e.
          elim (p x) as (λ b. list_any (λ y. nat_eq y c) (cond b (x ∷ filter p xs) (filter p xs)) ≡ (p c && list_any (λ y. nat_eq y c) xs)) [
            | true ↦ rw e rest
            | false ↦ rest
          ]
    ] refl

any_range : (c a n : ℕ) → list_any (λ x. nat_eq x c) (range_with_len a n) ≡ (nat_le a c && nat_lt c (a + n))
any_range c a zero = grind (arith, nat_tests)
any_range c a (suc n) = rw (any_range c (a + 1) n) (first c a n)
  where
    first : (c a n : ℕ) → (nat_eq a c || (nat_le (a + 1) c && nat_lt c (a + 1 + n))) ≡ (nat_le a c && nat_lt c (a + suc n))
    first c a n = grind (arith, nat_tests)

contains_any : (xs : List ℕ) (c : ℕ) → Contains xs c → list_any (λ x. nat_eq x c) xs ≡ true
contains_any xs c (k, lt, at) = list_any_at (λ x. nat_eq x c) xs k c lt (grind (arith, nat_tests))

any_contains : (xs : List ℕ) (c : ℕ) → list_any (λ x. nat_eq x c) xs ≡ true → Contains xs c
any_contains xs c e =
    let (k, x, lt, at, is) = Any-from_list_any (λ x. nat_eq x c) xs e in
    let same : x ≡ c = grind (arith, nat_tests) in
    subst (Contains xs) same (k, lt, at)

under_div : (top order : ℕ) → order ≤ top → (x c : ℕ) → (nat_le order top && nat_eq x c) ≡ true → x ≡ c
under_div top order h x c e = grind (arith, nat_tests)

div_under : (top order : ℕ) → order ≤ top → (x c : ℕ) → x ≡ c → (nat_le order top && nat_eq x c) ≡ true
div_under top order h x c e = grind (arith, nat_tests)

both : (a b : Bool) → (a && b) ≡ true → (a ≡ true) × (b ≡ true)
both true true e = (refl, refl)
both true false e = cc
both false b e = cc

ancestor_from_dirty : (top order cell : ℕ) (touched : List ℕ) → order ≤ top → is_dirty top touched order cell ≡ true → Any (λ leaf. leaf / 4 ^ (top - order) ≡ cell) touched
ancestor_from_dirty top order cell touched h e =
    let (k, leaf, lt, at, under) = Any-from_list_any (λ leaf. lies_under top leaf order cell) touched e in
    (k, leaf, lt, at, under_div top order h (leaf / 4 ^ (top - order)) cell under)

dirty_from_ancestor : (top order cell : ℕ) (touched : List ℕ) → order ≤ top → Any (λ leaf. leaf / 4 ^ (top - order) ≡ cell) touched → is_dirty top touched order cell ≡ true
dirty_from_ancestor top order cell touched h (k, leaf, lt, at, is) =
    list_any-from_Any (λ leaf. lies_under top leaf order cell) touched (k, leaf, lt, at, div_under top order h (leaf / 4 ^ (top - order)) cell is)

in_range : (top order cell : ℕ) (touched : List ℕ) → order ≤ top → All (λ leaf. leaf < cell_count top) touched → Any (λ leaf. leaf / 4 ^ (top - order) ≡ cell) touched → cell < cell_count order
in_range top order cell touched h leaves (k, leaf, lt, at, is) =
    let there : get_or touched k leaf < cell_count top = leaves k leaf lt in
    let below : leaf / 4 ^ (top - order) < cell_count order = cell_in_range top order leaf h (omega arith) in
    omega arith

pub dirty_contains : (top order cell : ℕ) (touched : List ℕ) → order ≤ top → All (λ leaf. leaf < cell_count top) touched →
    Contains (dirty_cells top touched order) cell ↔ Any (λ leaf. leaf / 4 ^ (top - order) ≡ cell) touched
unfolding dirty_cells
dirty_contains top order cell touched h leaves =
    let all : List ℕ = range_with_len 0 (cell_count order) in (
      λ there.
          let found : (is_dirty top touched order cell && list_any (λ x. nat_eq x cell) all) ≡ true =
          sym (any_filter (is_dirty top touched order) cell all) ∙ contains_any (filter (is_dirty top touched order) all) cell there in
          ancestor_from_dirty top order cell touched h (both (is_dirty top touched order cell) (list_any (λ x. nat_eq x cell) all) found).0,
      λ above.
          let lt : cell < cell_count order = in_range top order cell touched h leaves above in
          let in_all : list_any (λ x. nat_eq x cell) all ≡ true = any_range cell 0 (cell_count order) ∙ within cell (cell_count order) lt in
          let is : is_dirty top touched order cell ≡ true = dirty_from_ancestor top order cell touched h above in
          any_contains (filter (is_dirty top touched order) all) cell (any_filter (is_dirty top touched order) cell all ∙ rw (is, in_all) refl),
    )
  where
    within : (cell count : ℕ) → cell < count → (nat_le 0 cell && nat_lt cell (0 + count)) ≡ true
    within cell count lt = grind (arith, nat_tests)

-- ---- how many

length_filter_le : (p q : ℕ → Bool) → ((x : ℕ) → p x ≡ true → q x ≡ true) → (xs : List ℕ) → length (filter p xs) ≤ length (filter q xs)
length_filter_le p q more [] = omega arith
length_filter_le p q more (x ∷ xs) =
    let rest : length (filter p xs) ≤ length (filter q xs) = length_filter_le p q more xs in
    elim (p x) as (λ b. p x ≡ b → length (cond b (x ∷ filter p xs) (filter p xs)) ≤ length (cond (q x) (x ∷ filter q xs) (filter q xs))) [
      | true ↦ λ e. let also : q x ≡ true = more x e in rw also (omega arith)
      | false ↦ λ e. elim (q x) as (λ b. length (filter p xs) ≤ length (cond b (x ∷ filter q xs) (filter q xs))) [ true ↦ omega arith | false ↦ rest ]
    ] refl

any_more : (p : ℕ → Bool) (few many : List ℕ) → All (Contains many) few → list_any p few ≡ true → list_any p many ≡ true
any_more p few many all e =
    let (k, x, lt, at, is) = Any-from_list_any p few e in
    let (j, lt', at') = subst (Contains many) at (all k x lt) in
    list_any_at p many j x lt' (ap p at' ∙ is)

sum_by_le : (f g : ℕ → ℕ) → ((x : ℕ) → f x ≤ g x) → (xs : List ℕ) → sum_by f xs ≤ sum_by g xs
sum_by_le f g le [] = omega arith
sum_by_le f g le (x ∷ xs) = let rest : sum_by f xs ≤ sum_by g xs = sum_by_le f g le xs in let here : f x ≤ g x = le x in omega (arith, sum_by-cons f x xs, sum_by-cons g x xs)

cells_le : (top order : ℕ) (few many : List ℕ) → All (Contains many) few → length (dirty_cells top few order) ≤ length (dirty_cells top many order)
unfolding dirty_cells
cells_le top order few many all = length_filter_le (is_dirty top few order) (is_dirty top many order) (λ c. any_more (λ leaf. lies_under top leaf order c) few many all) (range_with_len 0 (cell_count order))

pub work_le : (top low : ℕ) (few many : List ℕ) → All (Contains many) few → work top low few ≤ work top low many
unfolding work
work_le top low few many all = sum_by_le (λ order. length (dirty_cells top few order)) (λ order. length (dirty_cells top many order)) (λ order. cells_le top order few many all) (orders_down top low)
