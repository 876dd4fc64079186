-- Which numbers are in a list, and lists whose numbers ascend.
use Rattle.std.proofs.Common.{◌≡◌, ◌⊎◌, inl, inr, ℕ, zero, suc, ◌+◌, ◌<◌, ◌≤◌, Bool, true, false, cond, ◌&&◌, ◌||◌, eqb, ltb, leb, List, [], ◌∷◌, ◌++◌, length, map, filter, flat_map, get_or, All, refl, sym, ap, ap₂, ◌∙◌, subst, arith, nat_cmp, Less, Equal, Greater}
use Rattle.std.specs.List.{list_all, range_with_len, AllByRecursion}
use Rattle.std.specs.List.Sorted.{IsStrictlySortedBy}
use Rattle.std.proofs.lemmas.Bool.{true≢false, or_cases, or_left, or_right, and_parts, and_from, eqb-true, eq-eqb, ne_eqb, ltb-true, lt-ltb, cases_Bool, cases_eq}
use Rattle.std.proofs.lemmas.Bool.Decides.{nat_tests}
use Rattle.std.proofs.lemmas.List.Folds.{list_any-append, list_any_at}
use Rattle.std.proofs.lemmas.List.{get_or_default}
use Rattle.std.proofs.lemmas.List.Kept.{IsStrictlySortedBy-filter}
use Rattle.std.proofs.lemmas.Map.Keys.{sorted_tail}
use Rattle.coverage_moc.specs.Cover.{has, IsAscending}

-- two tests that pass at the same things
pub same_bools : (a b : Bool) → (a ≡ true → b ≡ true) → (b ≡ true → a ≡ true) → a ≡ b
same_bools true true f g = refl
same_bools true false f g = sym (f refl)
same_bools false true f g = g refl
same_bools false false f g = refl

pub false_where : (a : Bool) → (a ≡ true → false ≡ true) → a ≡ false
false_where true f = sym (f refl)
false_where false f = refl

-- ---- members

pub has-head : (y : ℕ) (ys : List ℕ) → has (y ∷ ys) y ≡ true
has-head y ys = or_left (eqb y y) (has ys y) (eq-eqb y y refl)

pub has-tail : (y : ℕ) (ys : List ℕ) (x : ℕ) → has ys x ≡ true → has (y ∷ ys) x ≡ true
has-tail y ys x h = or_right (eqb y x) (has ys x) h

pub has-cases : (y : ℕ) (ys : List ℕ) (x : ℕ) → has (y ∷ ys) x ≡ true → (y ≡ x) ⊎ (has ys x ≡ true)
has-cases y ys x h = elim (or_cases (eqb y x) (has ys x) h) [
  | inl e ↦ inl (eqb-true y x e)
  | inr t ↦ inr t
]

pub has-append : (xs ys : List ℕ) (x : ℕ) → has (xs ++ ys) x ≡ (has xs x || has ys x)
has-append xs ys x = list_any-append (λ y. eqb y x) xs ys

pub has_at : (xs : List ℕ) (i : ℕ) → i < length xs → has xs (get_or xs i 0) ≡ true
has_at xs i h = list_any_at (λ y. eqb y (get_or xs i 0)) xs i 0 h (eq-eqb (get_or xs i 0) (get_or xs i 0) refl)

pub place_of : (xs : List ℕ) (x : ℕ) → has xs x ≡ true → (i : ℕ) × (i < length xs) × (get_or xs i 0 ≡ x)
place_of [] x h = absurd (true≢false (sym h))
place_of (y ∷ ys) x h = elim (has-cases y ys x h) [
  | inl e ↦ (0, omega arith, e)
  | inr t ↦ let rest : (i : ℕ) × (i < length ys) × (get_or ys i 0 ≡ x) = place_of ys x t in (suc rest.0, omega (arith, rest.1), rest.2)
]

pub has-filter : (p : ℕ → Bool) (xs : List ℕ) (x : ℕ) → has (filter p xs) x ≡ (has xs x && p x)
has-filter p [] x = refl
has-filter p (y ∷ ys) x = elim (cases_eq y x) [
  | inl e ↦ subst (λ (z : ℕ). has (filter p (y ∷ ys)) z ≡ (has (y ∷ ys) z && p z)) e (same p y ys (has-filter p ys y))
  | inr ne ↦ other p y ys x ne (has-filter p ys x)
]
  where
    same : (p : ℕ → Bool) (y : ℕ) (ys : List ℕ) → has (filter p ys) y ≡ (has ys y && p y) → has (filter p (y ∷ ys)) y ≡ (has (y ∷ ys) y && p y)
    same p y ys rest = elim (cases_Bool (p y)) [
      | inl t ↦ rw t (has-head y (filter p ys) ∙ sym (and_from (has (y ∷ ys) y) true (has-head y ys) refl))
      | inr f ↦ let e : has (filter p ys) y ≡ (has ys y && false) = rw f at rest in rw f (e ∙ none (has ys y) (has (y ∷ ys) y))
    ]
      where
        none : (a b : Bool) → (a && false) ≡ (b && false)
        none true true = refl
        none true false = refl
        none false true = refl
        none false false = refl

    other : (p : ℕ → Bool) (y : ℕ) (ys : List ℕ) (x : ℕ) → (y ≡ x → ⊥) → has (filter p ys) x ≡ (has ys x && p x) → has (filter p (y ∷ ys)) x ≡ (has (y ∷ ys) x && p x)
    other p y ys x ne rest =
        let e : eqb y x ≡ false = ne_eqb y x ne in
        elim (cases_Bool (p y)) [
          | inl t ↦ rw (t, e) rest
          | inr f ↦ rw (f, e) rest
        ]

pub has-map : (f : ℕ → ℕ) (xs : List ℕ) (x : ℕ) → has xs x ≡ true → has (map f xs) (f x) ≡ true
has-map f [] x h = h
has-map f (y ∷ ys) x h = elim (has-cases y ys x h) [
  | inl e ↦ or_left (eqb (f y) (f x)) (has (map f ys) (f x)) (eq-eqb (f y) (f x) (ap f e))
  | inr t ↦ has-tail (f y) (map f ys) (f x) (has-map f ys x t)
]

pub map_source : (f : ℕ → ℕ) (xs : List ℕ) (z : ℕ) → has (map f xs) z ≡ true → (x : ℕ) × (has xs x ≡ true) × (f x ≡ z)
map_source f [] z h = absurd (true≢false (sym h))
map_source f (y ∷ ys) z h = elim (has-cases (f y) (map f ys) z h) [
  | inl e ↦ (y, has-head y ys, e)
  | inr t ↦ let rest : (x : ℕ) × (has ys x ≡ true) × (f x ≡ z) = map_source f ys z t in (rest.0, has-tail y ys rest.0 rest.1, rest.2)
]

pub has-range : (a n x : ℕ) → has (range_with_len a n) x ≡ (leb a x && ltb x (a + n))
has-range a zero x = sym (grind (arith, nat_tests))
has-range a (suc n) x = let rest : has (range_with_len (a + 1) n) x ≡ (leb (a + 1) x && ltb x (a + 1 + n)) = has-range (a + 1) n x in rw rest (grind (arith, nat_tests))

pub in_range : (n x : ℕ) → x < n → has (range_with_len 0 n) x ≡ true
in_range n x h = has-range 0 n x ∙ grind (arith, nat_tests)

pub range_bound : (n x : ℕ) → has (range_with_len 0 n) x ≡ true → x < n
range_bound n x h = let e : (leb 0 x && ltb x (0 + n)) ≡ true = sym (has-range 0 n x) ∙ h in let lt : x < 0 + n = ltb-true x (0 + n) (and_parts (leb 0 x) (ltb x (0 + n)) e).1 in omega arith

pub all_has : (P : ℕ → Type 0) (xs : List ℕ) → All P xs → (x : ℕ) → has xs x ≡ true → P x
all_has P xs all x h = let at : (i : ℕ) × (i < length xs) × (get_or xs i 0 ≡ x) = place_of xs x h in subst P at.2 (all at.0 0 at.1)

pub all_from_has : (P : ℕ → Type 0) (xs : List ℕ) → ((x : ℕ) → has xs x ≡ true → P x) → All P xs
all_from_has P xs f = λ k d h. subst P (get_or_default xs k 0 d h) (f (get_or xs k 0) (has_at xs k h))

pub all_pass : (p : ℕ → Bool) (xs : List ℕ) → list_all p xs ≡ true → (x : ℕ) → has xs x ≡ true → p x ≡ true
all_pass p [] all x h = absurd (true≢false (sym h))
all_pass p (y ∷ ys) all x h =
    let both : (p y ≡ true) × (list_all p ys ≡ true) = and_parts (p y) (list_all p ys) all in
    elim (has-cases y ys x h) [
      | inl e ↦ subst (λ (z : ℕ). p z ≡ true) e both.0
      | inr t ↦ all_pass p ys both.1 x t
    ]

pub pass_all : (p : ℕ → Bool) (xs : List ℕ) → ((x : ℕ) → has xs x ≡ true → p x ≡ true) → list_all p xs ≡ true
pass_all p [] f = refl
pass_all p (y ∷ ys) f = and_from (p y) (list_all p ys) (f y (has-head y ys)) (pass_all p ys (λ x t. f x (has-tail y ys x t)))

-- one number more, and lists that are made of each number of a range
pub range_more : (a n : ℕ) → range_with_len a (suc n) ≡ range_with_len a n ++ (a + n) ∷ []
range_more a zero = ap (λ (z : ℕ). z ∷ []) (omega arith)
range_more a (suc n) = ap (λ zs. a ∷ zs) (range_more (a + 1) n ∙ ap (λ (z : ℕ). range_with_len (a + 1) n ++ z ∷ []) (omega arith))

pub flat_map_range : (f g : ℕ → List ℕ) (a n : ℕ) → ((k : ℕ) → a ≤ k → k < a + n → f k ≡ g k) → flat_map f (range_with_len a n) ≡ flat_map g (range_with_len a n)
flat_map_range f g a zero agree = refl
flat_map_range f g a (suc n) agree = ap₂ (λ xs ys. xs ++ ys) (agree a (omega arith) (omega arith)) (flat_map_range f g (a + 1) n (λ k low high. agree k (omega arith) (omega arith)))

-- ---- ascending

less_from : (x y : ℕ) → x < y → nat_cmp x y ≡ Less
less_from x y h = let e : ltb x y ≡ true = lt-ltb x y h in rw e refl

lt_from : (x y : ℕ) → nat_cmp x y ≡ Less → x < y
lt_from x y h = elim (cases_Bool (ltb x y)) [
  | inl t ↦ ltb-true x y t
  | inr f ↦ let g : cond false Less (cond (eqb x y) Equal Greater) ≡ Less = rw f at h in absurd (never (eqb x y) g)
]
  where
    never : (b : Bool) → cond b Equal Greater ≡ Less → ⊥
    never true e = cc
    never false e = cc

pub up-nil : IsAscending []
unfolding IsStrictlySortedBy
up-nil = tt

pub up-cons : (x : ℕ) (xs : List ℕ) → ((y : ℕ) → has xs y ≡ true → x < y) → IsAscending xs → IsAscending (x ∷ xs)
unfolding IsStrictlySortedBy
up-cons x xs above up = (each xs above, up)
  where
    each : (ys : List ℕ) → ((y : ℕ) → has ys y ≡ true → x < y) → AllByRecursion (λ y. nat_cmp x y ≡ Less) ys
    each [] f = tt
    each (y ∷ ys) f = (less_from x y (f y (has-head y ys)), each ys (λ z t. f z (has-tail y ys z t)))

pub up-head : (x : ℕ) (xs : List ℕ) → IsAscending (x ∷ xs) → (y : ℕ) → has xs y ≡ true → x < y
unfolding IsStrictlySortedBy
up-head x xs up = each xs up.0
  where
    each : (ys : List ℕ) → AllByRecursion (λ y. nat_cmp x y ≡ Less) ys → (y : ℕ) → has ys y ≡ true → x < y
    each [] all y h = absurd (true≢false (sym h))
    each (z ∷ zs) all y h = elim (has-cases z zs y h) [
      | inl e ↦ let lt : x < z = lt_from x z all.0 in omega arith
      | inr t ↦ each zs all.1 y t
    ]

pub up-tail : (x : ℕ) (xs : List ℕ) → IsAscending (x ∷ xs) → IsAscending xs
up-tail x xs up = sorted_tail nat_cmp x xs up

pub up-filter : (p : ℕ → Bool) (xs : List ℕ) → IsAscending xs → IsAscending (filter p xs)
up-filter p xs up = IsStrictlySortedBy-filter nat_cmp p xs up

pub up-map : (f : ℕ → ℕ) → ((x y : ℕ) → x < y → f x < f y) → (xs : List ℕ) → IsAscending xs → IsAscending (map f xs)
up-map f rises [] up = up-nil
up-map f rises (x ∷ xs) up = up-cons (f x) (map f xs) (λ z h.
    let from : (y : ℕ) × (has xs y ≡ true) × (f y ≡ z) = map_source f xs z h in
    let lt : f x < f from.0 = rises x from.0 (up-head x xs up from.0 from.1) in
    let e : f from.0 ≡ z = from.2 in
    omega arith) (up-map f rises xs (up-tail x xs up))

pub up-append : (xs ys : List ℕ) → IsAscending xs → IsAscending ys → ((x y : ℕ) → has xs x ≡ true → has ys y ≡ true → x < y) → IsAscending (xs ++ ys)
up-append [] ys up1 up2 apart = up2
up-append (x ∷ xs) ys up1 up2 apart = up-cons x (xs ++ ys) (λ z h. elim (or_cases (has xs z) (has ys z) (sym (has-append xs ys z) ∙ h)) [
  | inl t ↦ up-head x xs up1 z t
  | inr t ↦ apart x z (has-head x xs) t
]) (up-append xs ys (up-tail x xs up1) up2 (λ a b ha hb. apart a b (has-tail x xs a ha) hb))

pub up-range : (a n : ℕ) → IsAscending (range_with_len a n)
up-range a zero = up-nil
up-range a (suc n) = up-cons a (range_with_len (a + 1) n) (λ y h.
    let e : (leb (a + 1) y && ltb y (a + 1 + n)) ≡ true = sym (has-range (a + 1) n y) ∙ h in
    let low : leb (a + 1) y ≡ true = (and_parts (leb (a + 1) y) (ltb y (a + 1 + n)) e).0 in
    grind (arith, nat_tests)) (up-range (a + 1) n)

-- an ascending list is known by its members
pub up-same : (xs ys : List ℕ) → IsAscending xs → IsAscending ys → ((x : ℕ) → has xs x ≡ has ys x) → xs ≡ ys
up-same [] [] up1 up2 same = refl
up-same [] (y ∷ ys) up1 up2 same = absurd (true≢false (sym (has-head y ys) ∙ sym (same y)))
up-same (x ∷ xs) [] up1 up2 same = absurd (true≢false (sym (has-head x xs) ∙ same x))
up-same (x ∷ xs) (y ∷ ys) up1 up2 same =
    let e : x ≡ y = heads (has-cases y ys x (sym (same x) ∙ has-head x xs)) (has-cases x xs y (same y ∙ has-head y ys)) in
    let rest : xs ≡ ys = up-same xs ys (up-tail x xs up1) (up-tail y ys up2) (λ z. same_bools (has xs z) (has ys z)
    (λ t. after x xs y ys up1 e z t (has-cases y ys z (sym (same z) ∙ has-tail x xs z t)))
    (λ t. after y ys x xs up2 (sym e) z t (has-cases x xs z (same z ∙ has-tail y ys z t)))) in
    cc
  where
    heads : (y ≡ x) ⊎ (has ys x ≡ true) → (x ≡ y) ⊎ (has xs y ≡ true) → x ≡ y
    heads (inl e) other = sym e
    heads (inr a) (inl e) = e
    heads (inr a) (inr b) = let one : y < x = up-head y ys up2 x a in let two : x < y = up-head x xs up1 y b in absurd (omega arith)

    after : (u : ℕ) (us : List ℕ) (v : ℕ) (vs : List ℕ) → IsAscending (u ∷ us) → u ≡ v → (z : ℕ) → has us z ≡ true → (v ≡ z) ⊎ (has vs z ≡ true) → has vs z ≡ true
    after u us v vs up e z t (inl e2) = let lt : u < z = up-head u us up z t in absurd (omega arith)
    after u us v vs up e z t (inr h) = h

-- an ascending list of numbers below n, as a filter of all of them
pub up-of_range : (n : ℕ) (xs : List ℕ) → IsAscending xs → ((x : ℕ) → has xs x ≡ true → x < n) → filter (has xs) (range_with_len 0 n) ≡ xs
up-of_range n xs up below = up-same (filter (has xs) (range_with_len 0 n)) xs (up-filter (has xs) (range_with_len 0 n) (up-range 0 n)) up (λ x.
    has-filter (has xs) (range_with_len 0 n) x ∙ same_bools (has (range_with_len 0 n) x && has xs x) (has xs x)
    (λ t. (and_parts (has (range_with_len 0 n) x) (has xs x) t).1)
    (λ t. and_from (has (range_with_len 0 n) x) (has xs x) (in_range n x (below x t)) t))

-- filters that agree on the numbers of a range keep the same
pub filter_in_range : (p q : ℕ → Bool) (n : ℕ) → ((x : ℕ) → x < n → p x ≡ q x) → filter p (range_with_len 0 n) ≡ filter q (range_with_len 0 n)
filter_in_range p q n agree = up-same (filter p (range_with_len 0 n)) (filter q (range_with_len 0 n)) (up-filter p (range_with_len 0 n) (up-range 0 n)) (up-filter q (range_with_len 0 n) (up-range 0 n)) (λ x.
    has-filter p (range_with_len 0 n) x ∙ same_bools (has (range_with_len 0 n) x && p x) (has (range_with_len 0 n) x && q x)
    (λ t. let both : (has (range_with_len 0 n) x ≡ true) × (p x ≡ true) = and_parts (has (range_with_len 0 n) x) (p x) t in and_from (has (range_with_len 0 n) x) (q x) both.0 (sym (agree x (range_bound n x both.0)) ∙ both.1))
    (λ t. let both : (has (range_with_len 0 n) x ≡ true) × (q x ≡ true) = and_parts (has (range_with_len 0 n) x) (q x) t in and_from (has (range_with_len 0 n) x) (p x) both.0 (agree x (range_bound n x both.0) ∙ both.1))
    ∙ sym (has-filter q (range_with_len 0 n) x))
