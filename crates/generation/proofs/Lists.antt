-- Lists of numbers, and maps from numbers: selections from a range, and when two maps are one.
use Rattle.std.proofs.Common.{◌≡◌, inl, inr, ℕ, zero, suc, ◌+◌, ◌<◌, ◌≤◌, Bool, true, false, cond, List, [], ◌∷◌, length, map, filter, get_or, refl, sym, ap, ◌∙◌, subst, arith, Some, None}
use Rattle.std.specs.List.{range_with_len, AllByRecursion}
use Rattle.std.specs.List.Sorted.{IsStrictlySortedBy, IsStrictlyIncreasing}
use Rattle.std.specs.Ordering.{nat_cmp}
use Rattle.std.specs.declared.cmp.Ordering.TheVariants.{Less}
use Rattle.std.specs.Map.{keys_of}
use Rattle.std.specs.BTreeMap.{is_at}
use Rattle.std.proofs.lemmas.Bool.{cases_eq, cases_order}
use Rattle.std.proofs.lemmas.Bool.Decides.{nat_tests}
use Rattle.std.proofs.lemmas.List.FromFn.{length-range_with_len, get_or-range_with_len}
use Rattle.std.proofs.lemmas.List.Kept.{IsStrictlySortedBy-filter}
use Rattle.std.proofs.lemmas.Map.Keys.{sorted_head, sorted_tail, sorted_from_strictly_increasing}
use Rattle.leaf_store.specs.Store.{IsAscending, value_at}

-- two tests that pass at the same things
pub same_tests : (a b : Bool) → (a ≡ true → b ≡ true) → (b ≡ true → a ≡ true) → a ≡ b
same_tests true true f g = refl
same_tests true false f g = sym (f refl)
same_tests false true f g = g refl
same_tests false false f g = refl

-- ---- keys

is_itself : (key : ℕ) → is_at (nat_cmp key) key ≡ true
is_itself key = grind (arith, nat_tests)

is_other : (key other : ℕ) → (key ≡ other → ⊥) → is_at (nat_cmp key) other ≡ false
is_other key other apart = grind (arith, nat_tests)

less : (x y : ℕ) → nat_cmp x y ≡ Less → x < y
less x y e = grind (arith, nat_tests)

above_all : (a b : ℕ) → a ≤ b → (ks : List ℕ) → AllByRecursion (λ y. nat_cmp b y ≡ Less) ks → AllByRecursion (λ y. a < y) ks
above_all a b h [] all = tt
above_all a b h (k ∷ ks) all = (let up : b < k = less b k all.0 in omega arith, above_all a b h ks all.1)

module _ {X : Type 0} where
  pub value_here : (key : ℕ) (x : X) (es : List (ℕ × X)) → value_at key ((key, x) ∷ es) ≡ Some x
  value_here key x es = rw (is_itself key) refl

  pub value_later : (key other : ℕ) (x : X) (es : List (ℕ × X)) → (key ≡ other → ⊥) → value_at key ((other, x) ∷ es) ≡ value_at key es
  value_later key other x es apart = rw (is_other key other apart) refl

  -- a key below all others has no value
  none_below : (key : ℕ) (es : List (ℕ × X)) → AllByRecursion (λ y. key < y) (keys_of es) → value_at key es ≡ None
  none_below key [] h = refl
  none_below key (e ∷ es) h = value_later key e.0 e.1 es (λ same. let low : key < e.0 = h.0 in absurd (omega arith)) ∙ none_below key es h.1

  -- the head's key isn't again in the rest, nor is one below it
  none_after : (key : ℕ) (e : ℕ × X) (es : List (ℕ × X)) → key ≤ e.0 → IsAscending (e ∷ es) → value_at key es ≡ None
  none_after key e es h up = none_below key es (above_all key e.0 h (keys_of es) (sorted_head nat_cmp e.0 (keys_of es) up))

  not_both : (x : X) → None ≡ Some x → ⊥
  not_both x e = cc

  -- two maps with the same value at each key are one
  pub same_pairs : (xs ys : List (ℕ × X)) → IsAscending xs → IsAscending ys → ((key : ℕ) → value_at key xs ≡ value_at key ys) → xs ≡ ys
  same_pairs [] [] ua ub same = refl
  same_pairs [] (y ∷ ys) ua ub same = absurd (not_both y.1 (same y.0 ∙ value_here y.0 y.1 ys))
  same_pairs (x ∷ xs) [] ua ub same = absurd (not_both x.1 (sym (same x.0) ∙ value_here x.0 x.1 xs))
  same_pairs (x ∷ xs) (y ∷ ys) ua ub same = elim (cases_order x.0 y.0) [
    | inl e ↦
        let value : Some x.1 ≡ Some y.1 = sym (value_here x.0 x.1 xs) ∙ same x.0 ∙ ap (λ k. value_at k (y ∷ ys)) e ∙ value_here y.0 y.1 ys in
        let one : x.1 ≡ y.1 = cc in
        let rest : xs ≡ ys = same_pairs xs ys (sorted_tail nat_cmp x.0 (keys_of xs) ua) (sorted_tail nat_cmp y.0 (keys_of ys) ub) (λ key. elim (cases_eq key x.0) [
          | inl here ↦ none_after key x xs (omega arith) ua ∙ sym (none_after key y ys (omega arith) ub)
          | inr apart ↦ sym (value_later key x.0 x.1 xs apart) ∙ same key ∙ value_later key y.0 y.1 ys (λ k. apart (k ∙ sym e))
        ]) in
        λ i. (e i, one i) ∷ rest i
    | inr (inl below) ↦
        absurd (not_both x.1 (
        sym (value_later x.0 y.0 y.1 ys (λ e. absurd (omega arith)) ∙ none_after x.0 y ys (omega arith) ub)
        ∙ sym (same x.0) ∙ value_here x.0 x.1 xs))
    | inr (inr above) ↦
        absurd (not_both y.1 (
        sym (value_later y.0 x.0 x.1 xs (λ e. absurd (omega arith)) ∙ none_after y.0 x xs (omega arith) ua)
        ∙ same y.0 ∙ value_here y.0 y.1 ys))
  ]

  -- no key has a value in the empty map alone
  pub no_pairs : (es : List (ℕ × X)) → ((key : ℕ) → value_at key es ≡ None) → es ≡ []
  no_pairs [] none = refl
  no_pairs (e ∷ es) none = absurd (not_both e.1 (sym (none e.0) ∙ value_here e.0 e.1 es))

  -- ---- the numbers of a range that pass a test, each with a value

  abbrev pub selected : (ℕ → X) → (ℕ → Bool) → ℕ → ℕ → List (ℕ × X)
  selected f t a n = map (λ q. (q, f q)) (filter t (range_with_len a n))

  pub selected_some : (f : ℕ → X) (t : ℕ → Bool) (a n p : ℕ) → t p ≡ true → a ≤ p → p < a + n → value_at p (selected f t a n) ≡ Some (f p)
  selected_some f t a zero p is low high = absurd (omega arith)
  selected_some f t a (suc n) p is low high = elim (cases_eq p a) [
    | inl e ↦
        let here : t a ≡ true = sym (ap t e) ∙ is in
        let first : value_at a ((a, f a) ∷ selected f t (a + 1) n) ≡ Some (f a) = value_here a (f a) (selected f t (a + 1) n) in
        rw e (rw here first)
    | inr apart ↦
        let rest : value_at p (selected f t (a + 1) n) ≡ Some (f p) = selected_some f t (a + 1) n p is (omega arith) (omega arith) in
        elim (t a) as (λ b. value_at p (map (λ q. (q, f q)) (cond b (a ∷ filter t (range_with_len (a + 1) n)) (filter t (range_with_len (a + 1) n)))) ≡ Some (f p)) [
          | true ↦ value_later p a (f a) (selected f t (a + 1) n) apart ∙ rest
          | false ↦ rest
        ]
  ]

  pub selected_none : (f : ℕ → X) (t : ℕ → Bool) (a n p : ℕ) → t p ≡ false → value_at p (selected f t a n) ≡ None
  selected_none f t a zero p is = refl
  selected_none f t a (suc n) p is =
      let rest : value_at p (selected f t (a + 1) n) ≡ None = selected_none f t (a + 1) n p is in
      elim (t a) as (λ b. t a ≡ b → value_at p (map (λ q. (q, f q)) (cond b (a ∷ filter t (range_with_len (a + 1) n)) (filter t (range_with_len (a + 1) n)))) ≡ None) [
        | true ↦ λ here. let apart : p ≡ a → ⊥ = λ e. let k : t p ≡ t a = ap t e in cc in value_later p a (f a) (selected f t (a + 1) n) apart ∙ rest
        | false ↦ λ here. rest
      ] refl

  pub keys_of-selected : (f : ℕ → X) (xs : List ℕ) → keys_of (map (λ q. (q, f q)) xs) ≡ xs
  keys_of-selected f [] = refl
  keys_of-selected f (x ∷ xs) = ap (λ rest. x ∷ rest) (keys_of-selected f xs)

-- ---- ascending

range_increases : (a n : ℕ) → IsStrictlyIncreasing (range_with_len a n)
range_increases a n k h =
    let long : length (range_with_len a n) ≡ n = length-range_with_len a n in
    let this : get_or (range_with_len a n) k 0 ≡ a + k = get_or-range_with_len a n k 0 (omega arith) in
    let next : get_or (range_with_len a n) (k + 1) 0 ≡ a + (k + 1) = get_or-range_with_len a n (k + 1) 0 (omega arith) in
    omega arith

pub selection_ascends : (t : ℕ → Bool) (a n : ℕ) → IsStrictlySortedBy nat_cmp (filter t (range_with_len a n))
selection_ascends t a n = IsStrictlySortedBy-filter nat_cmp t (range_with_len a n) (sorted_from_strictly_increasing (range_with_len a n) (range_increases a n))

pub selected_ascends : {X : Type 0} (f : ℕ → X) (t : ℕ → Bool) (a n : ℕ) → IsAscending (selected f t a n)
selected_ascends f t a n = let P : List ℕ → Type 0 = λ ks. IsStrictlySortedBy nat_cmp ks in subst P (sym (keys_of-selected f (filter t (range_with_len a n)))) (selection_ascends t a n)
