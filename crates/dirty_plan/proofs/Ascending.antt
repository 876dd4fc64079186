-- Lists of numbers that rise, from a bound on.
use Rattle.std.proofs.Common.{◌≡◌, ℕ, zero, suc, ◌+◌, ◌<◌, ◌≤◌, ◌||◌, Bool, true, false, cond, List, [], ◌∷◌, map, length, get_or, refl, sym, ap, ◌∙◌, subst, arith, add-one}
use Rattle.std.specs.Prelude.{nat_eq, All}
use Rattle.std.specs.List.{list_any, dedup, dedup_from}
use Rattle.std.specs.List.Sorted.{IsStrictlyIncreasing}
use Rattle.std.proofs.lemmas.Bool.Decides.{nat_tests}
use Rattle.std.proofs.lemmas.List.Elements.{All-head, All-tail}

-- each number is at least the one before it, the first at least a
abbrev pub Rises : ℕ → List ℕ → Type 0
Rises a [] = Unit {0}
Rises a (x ∷ xs) = (a ≤ x) × Rises x xs

-- each number is above the one before it, the first at least a
abbrev pub Ascends : ℕ → List ℕ → Type 0
Ascends a [] = Unit {0}
Ascends a (x ∷ xs) = (a ≤ x) × Ascends (x + 1) xs

abbrev pub Below : ℕ → List ℕ → Type 0
Below b [] = Unit {0}
Below b (x ∷ xs) = (x < b) × Below b xs

pub rises_sooner : (a b : ℕ) (xs : List ℕ) → a ≤ b → Rises b xs → Rises a xs
rises_sooner a b [] h r = tt
rises_sooner a b (x ∷ xs) h r = (omega arith, r.1)

pub ascends_sooner : (a b : ℕ) (xs : List ℕ) → a ≤ b → Ascends b xs → Ascends a xs
ascends_sooner a b [] h r = tt
ascends_sooner a b (x ∷ xs) h r = (omega arith, r.1)

pub rises_from_ascends : (a : ℕ) (xs : List ℕ) → Ascends a xs → Rises a xs
rises_from_ascends a [] r = tt
rises_from_ascends a (x ∷ xs) r = (r.0, rises_sooner x (x + 1) xs (omega arith) (rises_from_ascends (x + 1) xs r.1))

at_next : (x : ℕ) (xs : List ℕ) (k : ℕ) → get_or (x ∷ xs) (k + 1) 0 ≡ get_or xs k 0
at_next x xs k = rw add-one refl

-- the same, place by place
pub ascends_from_increasing : (a : ℕ) (xs : List ℕ) → (0 < length xs → a ≤ get_or xs 0 0) → IsStrictlyIncreasing xs → Ascends a xs
ascends_from_increasing a [] first up = tt
ascends_from_increasing a (x ∷ xs) first up =
    let next : 0 < length xs → x + 1 ≤ get_or xs 0 0 = λ some. let this : get_or (x ∷ xs) 0 0 < get_or (x ∷ xs) (0 + 1) 0 = up 0 (omega arith) in omega (arith, at_next x xs 0) in
    (first (omega arith), ascends_from_increasing (x + 1) xs next (λ k h. let this : get_or (x ∷ xs) (k + 1) 0 < get_or (x ∷ xs) (k + 1 + 1) 0 = up (k + 1) (omega arith) in omega (arith, at_next x xs k, at_next x xs (k + 1))))

pub increasing_from_ascends : (a : ℕ) (xs : List ℕ) → Ascends a xs → IsStrictlyIncreasing xs
increasing_from_ascends a [] r k h = absurd (omega arith)
increasing_from_ascends a (x ∷ []) r k h = absurd (omega arith)
increasing_from_ascends a (x ∷ y ∷ ys) r zero h = omega arith
increasing_from_ascends a (x ∷ y ∷ ys) r (suc k) h =
    let this : get_or (y ∷ ys) k 0 < get_or (y ∷ ys) (k + 1) 0 = increasing_from_ascends (x + 1) (y ∷ ys) r.1 k (omega arith) in
    let next : get_or (y ∷ ys) (k + 1) 0 ≡ get_or (x ∷ y ∷ ys) (suc k + 1) 0 = ap (λ i. get_or (y ∷ ys) i 0) (add-one k) ∙ sym (at_next x (y ∷ ys) (suc k)) in
    subst (λ m. get_or (y ∷ ys) k 0 < m) next this

pub below_from_all : (b : ℕ) (xs : List ℕ) → All (λ x. x < b) xs → Below b xs
below_from_all b [] all = tt
below_from_all b (x ∷ xs) all = (All-head (λ x. x < b) x xs all, below_from_all b xs (All-tail (λ x. x < b) x xs all))

-- ---- to parents

-- where f keeps the order
pub rises_map : (f : ℕ → ℕ) → ((x y : ℕ) → x ≤ y → f x ≤ f y) → (a : ℕ) (xs : List ℕ) → Rises a xs → Rises (f a) (map f xs)
rises_map f keeps a [] r = tt
rises_map f keeps a (x ∷ xs) r = (keeps a x r.0, rises_map f keeps x xs r.1)

pub below_map : (f : ℕ → ℕ) (b c : ℕ) → ((x : ℕ) → x < b → f x < c) → (xs : List ℕ) → Below b xs → Below c (map f xs)
below_map f b c keeps [] r = tt
below_map f b c keeps (x ∷ xs) r = (keeps x r.0, below_map f b c keeps xs r.1)

-- ---- each once

ascends_dedup_from : (k : ℕ) (xs : List ℕ) → Rises k xs → Ascends k (dedup_from nat_eq k xs)
ascends_dedup_from k [] r = (omega arith, tt)
ascends_dedup_from k (x ∷ xs) r =
    elim (nat_eq x k) as (λ b. nat_eq x k ≡ b → Ascends k (cond b (dedup_from nat_eq k xs) (k ∷ dedup_from nat_eq x xs))) [
      | true ↦ λ e. ascends_dedup_from k xs (rises_sooner k x xs r.0 r.1)
      | false ↦ λ e. let above : k + 1 ≤ x = grind (arith, nat_tests) in (omega arith, ascends_sooner (k + 1) x (dedup_from nat_eq x xs) above (ascends_dedup_from x xs r.1))
    ] refl

pub ascends_dedup : (a : ℕ) (xs : List ℕ) → Rises a xs → Ascends a (dedup nat_eq xs)
ascends_dedup a [] r = tt
ascends_dedup a (x ∷ xs) r = ascends_sooner a x (dedup_from nat_eq x xs) r.0 (ascends_dedup_from x xs r.1)

below_dedup_from : (b k : ℕ) (xs : List ℕ) → k < b → Below b xs → Below b (dedup_from nat_eq k xs)
below_dedup_from b k [] h r = (h, tt)
below_dedup_from b k (x ∷ xs) h r =
    elim (nat_eq x k) as (λ t. Below b (cond t (dedup_from nat_eq k xs) (k ∷ dedup_from nat_eq x xs))) [
      | true ↦ below_dedup_from b k xs h r.1
      | false ↦ (h, below_dedup_from b x xs r.0 r.1)
    ]

pub below_dedup : (b : ℕ) (xs : List ℕ) → Below b xs → Below b (dedup nat_eq xs)
below_dedup b [] r = tt
below_dedup b (x ∷ xs) r = below_dedup_from b x xs r.0 r.1

same_twice : (a b c : Bool) → a ≡ b → (b || c) ≡ (b || (a || c))
same_twice a b c e = grind arith

any_dedup_from : (p : ℕ → Bool) (k : ℕ) (xs : List ℕ) → list_any p (dedup_from nat_eq k xs) ≡ (p k || list_any p xs)
any_dedup_from p k [] = refl
any_dedup_from p k (x ∷ xs) =
    elim (nat_eq x k) as (λ b. nat_eq x k ≡ b → list_any p (cond b (dedup_from nat_eq k xs) (k ∷ dedup_from nat_eq x xs)) ≡ (p k || (p x || list_any p xs))) [
      | true ↦ λ e. let same : x ≡ k = grind (arith, nat_tests) in any_dedup_from p k xs ∙ same_twice (p x) (p k) (list_any p xs) (ap p same)
      | false ↦ λ e. ap (λ b. p k || b) (any_dedup_from p x xs)
    ] refl

pub any_dedup : (p : ℕ → Bool) (xs : List ℕ) → list_any p (dedup nat_eq xs) ≡ list_any p xs
any_dedup p [] = refl
any_dedup p (x ∷ xs) = any_dedup_from p x xs

-- what follows the first number that is kept
rest_from : ℕ → List ℕ → List ℕ
rest_from k [] = []
rest_from k (x ∷ xs) = cond (nat_eq x k) (rest_from k xs) (dedup_from nat_eq x xs)

dedup_from_head : (k : ℕ) (xs : List ℕ) → dedup_from nat_eq k xs ≡ k ∷ rest_from k xs
unfolding rest_from
dedup_from_head k [] = refl
dedup_from_head k (x ∷ xs) =
    elim (nat_eq x k) as (λ b. cond b (dedup_from nat_eq k xs) (k ∷ dedup_from nat_eq x xs) ≡ k ∷ cond b (rest_from k xs) (dedup_from nat_eq x xs)) [
      | true ↦ dedup_from_head k xs
      | false ↦ refl
    ]

-- numbers kept once, changed, and kept once again
once_again : (f : ℕ → ℕ) (j k : ℕ) (xs : List ℕ) → j ≡ f k → dedup_from nat_eq j (map f (rest_from k xs)) ≡ dedup_from nat_eq j (map f xs)
unfolding rest_from
once_again f j k [] e = refl
once_again f j k (x ∷ xs) e =
    elim (nat_eq x k) as (λ b. nat_eq x k ≡ b → dedup_from nat_eq j (map f (cond b (rest_from k xs) (dedup_from nat_eq x xs))) ≡ dedup_from nat_eq j (f x ∷ map f xs)) [
      | true ↦ λ t.
          let same : f x ≡ j = let at : x ≡ k = grind (arith, nat_tests) in ap f at ∙ sym e in
          let yes : nat_eq (f x) j ≡ true = grind (arith, nat_tests) in
          once_again f j k xs e ∙ sym (ap (λ b. cond b (dedup_from nat_eq j (map f xs)) (j ∷ dedup_from nat_eq (f x) (map f xs))) yes)
      | false ↦ λ t.
          rw (dedup_from_head x xs) (
          elim (nat_eq (f x) j) as (λ b. nat_eq (f x) j ≡ b → cond b (dedup_from nat_eq j (map f (rest_from x xs))) (j ∷ dedup_from nat_eq (f x) (map f (rest_from x xs))) ≡ cond b (dedup_from nat_eq j (map f xs)) (j ∷ dedup_from nat_eq (f x) (map f xs))) [
            | true ↦ λ s. let same : j ≡ f x = grind (arith, nat_tests) in once_again f j x xs same
            | false ↦ λ s. ap (λ ys. j ∷ ys) (once_again f (f x) x xs refl)
          ] refl)
    ] refl

pub dedup_map_dedup : (f : ℕ → ℕ) (xs : List ℕ) → dedup nat_eq (map f (dedup nat_eq xs)) ≡ dedup nat_eq (map f xs)
dedup_map_dedup f [] = refl
dedup_map_dedup f (x ∷ xs) = rw (dedup_from_head x xs) (once_again f (f x) x xs refl)

-- ascending numbers stand once already
dedup_ascending_from : (k : ℕ) (xs : List ℕ) → Ascends (k + 1) xs → dedup_from nat_eq k xs ≡ k ∷ xs
dedup_ascending_from k [] r = refl
dedup_ascending_from k (x ∷ xs) r =
    let other : nat_eq x k ≡ false = grind (arith, nat_tests) in
    rw other (ap (λ ys. k ∷ ys) (dedup_ascending_from x xs r.1))

pub dedup_ascending : (a : ℕ) (xs : List ℕ) → Ascends a xs → dedup nat_eq xs ≡ xs
dedup_ascending a [] r = refl
dedup_ascending a (x ∷ xs) r = dedup_ascending_from x xs r.1
