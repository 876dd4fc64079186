-- The numbers of an ascending list, selected from all numbers.
use Rattle.std.proofs.Common.{◌≡◌, ℕ, zero, suc, ◌+◌, ◌<◌, ◌≤◌, ◌||◌, Bool, true, false, cond, List, [], ◌∷◌, refl, sym, subst, arith}
use Rattle.std.specs.Prelude.{nat_eq, filter}
use Rattle.std.specs.List.{list_any, range_with_len}
use Rattle.std.proofs.lemmas.Bool.Decides.{nat_tests}
use Rattle.dirty_plan.proofs.Ascending.{Ascends, Below, ascends_sooner}

pub filter_none : (xs : List ℕ) → filter (λ _. false) xs ≡ []
filter_none [] = refl
filter_none (x ∷ xs) = filter_none xs

-- tests that agree from a on
pub filter_same : (p q : ℕ → Bool) (a n : ℕ) → ((c : ℕ) → a ≤ c → p c ≡ q c) → filter p (range_with_len a n) ≡ filter q (range_with_len a n)
filter_same p q a zero same = refl
filter_same p q a (suc n) same =
    let rest : filter p (range_with_len (a + 1) n) ≡ filter q (range_with_len (a + 1) n) = filter_same p q (a + 1) n (λ c h. same c (omega arith)) in
    rw (same a (omega arith), rest) refl

-- no number below those of the list is in it
none_at : (a b : ℕ) (xs : List ℕ) → a < b → Ascends b xs → list_any (λ x. nat_eq x a) xs ≡ false
none_at a b [] h r = refl
none_at a b (x ∷ xs) h r =
    let here : nat_eq x a ≡ false = grind (arith, nat_tests) in
    let rest : list_any (λ x. nat_eq x a) xs ≡ false = none_at a (x + 1) xs (omega arith) r.1 in
    rw (here, rest) refl

-- an ascending list is those of all numbers that it has
pub select : (a n : ℕ) (xs : List ℕ) → Ascends a xs → Below (a + n) xs → filter (λ c. list_any (λ x. nat_eq x c) xs) (range_with_len a n) ≡ xs
select a zero [] r b = refl
select a zero (x ∷ xs) r b = absurd (omega arith)
select a (suc n) [] r b = filter_none (range_with_len (a + 1) n)
select a (suc n) (x ∷ xs) r b =
    elim (nat_eq x a) as (λ t. nat_eq x a ≡ t → cond (t || list_any (λ y. nat_eq y a) xs) (a ∷ filter (λ c. list_any (λ y. nat_eq y c) (x ∷ xs)) (range_with_len (a + 1) n)) (filter (λ c. list_any (λ y. nat_eq y c) (x ∷ xs)) (range_with_len (a + 1) n)) ≡ x ∷ xs) [
      | true ↦ λ e.
          let at : x ≡ a = grind (arith, nat_tests) in
          let others : filter (λ c. list_any (λ y. nat_eq y c) (x ∷ xs)) (range_with_len (a + 1) n) ≡ filter (λ c. list_any (λ y. nat_eq y c) xs) (range_with_len (a + 1) n) =
          filter_same (λ c. list_any (λ y. nat_eq y c) (x ∷ xs)) (λ c. list_any (λ y. nat_eq y c) xs) (a + 1) n (λ c h. let off : nat_eq x c ≡ false = grind (arith, nat_tests) in rw off refl) in
          let rest : filter (λ c. list_any (λ y. nat_eq y c) xs) (range_with_len (a + 1) n) ≡ xs = select (a + 1) n xs (ascends_sooner (a + 1) (x + 1) xs (omega arith) r.1) (subst (λ m. Below m xs) (sym (steps a n)) b.1) in
          cc
      | false ↦ λ e.
          let above : a + 1 ≤ x = grind (arith, nat_tests) in
          let off : list_any (λ y. nat_eq y a) xs ≡ false = none_at a (x + 1) xs (omega arith) r.1 in
          rw off (select (a + 1) n (x ∷ xs) (above, r.1) (omega arith, subst (λ m. Below m xs) (sym (steps a n)) b.1))
    ] refl
  where
    steps : (a n : ℕ) → a + 1 + n ≡ a + suc n
    steps a n = omega arith
