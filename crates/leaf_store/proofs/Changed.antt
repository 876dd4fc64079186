-- What a key's new value, or its removal, does to ascending pairs.
use Rattle.std.proofs.Common.{◌≡◌, ◌≢◌, ◌⊎◌, inl, inr, ℕ, zero, suc, ◌+◌, ◌<◌, Bool, true, false, cond, List, [], ◌∷◌, ◌++◌, length, Some, None, refl, sym, ◌∙◌, ap, subst, arith}
use Rattle.std.specs.Prelude.{is_some, if◌then◌else◌}
use Rattle.std.specs.List.{AllByRecursion}
use Rattle.std.specs.List.Sorted.{IsStrictlySortedBy}
use Rattle.std.specs.declared.cmp.Ordering.{Ordering}
use Rattle.std.specs.declared.cmp.Ordering.TheVariants.{Less, Equal, Greater}
use Rattle.std.specs.Ordering.{nat_cmp, match_ordering, is_eq}
use Rattle.std.specs.Map.{keys_of}
use Rattle.std.specs.BTreeMap.{is_at}
use Rattle.std.proofs.lemmas.Bool.Decides.{nat_tests}
use Rattle.leaf_store.specs.Store.{IsAscending, value_at, with_value, without_key}

pub less_cmp : (x y : ℕ) → x < y → nat_cmp x y ≡ Less
less_cmp x y h = grind (arith, nat_tests)

pub equal_cmp : (x y : ℕ) → x ≡ y → nat_cmp x y ≡ Equal
equal_cmp x y h = grind (arith, nat_tests)

pub greater_cmp : (x y : ℕ) → y < x → nat_cmp x y ≡ Greater
greater_cmp x y h = grind (arith, nat_tests)

-- a query for one key isn't at another
pub apart : (key other : ℕ) → other ≢ key → is_at (nat_cmp key) other ≡ false
apart key other h = grind (arith, nat_tests)

pub compared : (x y : ℕ) → (x < y) ⊎ ((x ≡ y) ⊎ (y < x))
compared zero zero = inr (inl refl)
compared zero (suc y) = inl (omega arith)
compared (suc x) zero = inr (inr (omega arith))
compared (suc x) (suc y) = elim (compared x y) [
  | inl h ↦ inl (omega arith)
  | inr m ↦ elim m [ inl e ↦ inr (inl (ap suc e)) | inr h ↦ inr (inr (omega arith)) ]
]

pub from_less : (x y : ℕ) → nat_cmp x y ≡ Less → x < y
from_less x y e = grind (arith, nat_tests)

pub at-same : (key other : ℕ) → key ≡ other → is_at (nat_cmp key) other ≡ true
at-same key other h = ap is_eq (equal_cmp key other h)

-- ---- what holds of each
pub each-append : {X : Type 0} (P : X → Type 0) (xs ys : List X) → AllByRecursion P xs → AllByRecursion P ys → AllByRecursion P (xs ++ ys)
each-append P [] ys h k = k
each-append P (x ∷ xs) ys h k = (h.0, each-append P xs ys h.1 k)

pub each_left : {X : Type 0} (P : X → Type 0) (xs ys : List X) → AllByRecursion P (xs ++ ys) → AllByRecursion P xs
each_left P [] ys h = tt
each_left P (x ∷ xs) ys h = (h.0, each_left P xs ys h.1)

pub each_right : {X : Type 0} (P : X → Type 0) (xs ys : List X) → AllByRecursion P (xs ++ ys) → AllByRecursion P ys
each_right P [] ys h = h
each_right P (x ∷ xs) ys h = each_right P xs ys h.1

pub each-weaker : {X : Type 0} (P Q : X → Type 0) → ((x : X) → P x → Q x) → (xs : List X) → AllByRecursion P xs → AllByRecursion Q xs
each-weaker P Q f [] h = tt
each-weaker P Q f (x ∷ xs) h = (f x h.0, each-weaker P Q f xs h.1)

-- what is below a key is below those after it
below_rest : (low key : ℕ) (ks : List ℕ) → low < key → AllByRecursion (λ k. nat_cmp key k ≡ Less) ks → AllByRecursion (λ k. nat_cmp low k ≡ Less) ks
below_rest low key ks l h = each-weaker (λ k. nat_cmp key k ≡ Less) (λ k. nat_cmp low k ≡ Less) (λ k e. let b : key < k = from_less key k e in less_cmp low k (omega arith)) ks h

from_equal : (x y : ℕ) → nat_cmp x y ≡ Equal → x ≡ y
from_equal x y e = grind (arith, nat_tests)

from_at : (key other : ℕ) → is_at (nat_cmp key) other ≡ true → key ≡ other
from_at key other e = grind (arith, nat_tests)

module _ {T : Type 0} where
  -- one step of each change
  pub with_cons : (key : ℕ) (value : T) (e : ℕ × T) (es : List (ℕ × T)) (o : Ordering) → nat_cmp key e.0 ≡ o
      → with_value key value (e ∷ es) ≡ match_ordering o ((key, value) ∷ e ∷ es) ((e.0, value) ∷ es) (e ∷ with_value key value es)
  with_cons key value e es o h = ap (λ p. match_ordering p ((key, value) ∷ e ∷ es) ((e.0, value) ∷ es) (e ∷ with_value key value es)) h

  pub without_cons : (key : ℕ) (e : ℕ × T) (es : List (ℕ × T)) (b : Bool) → is_at (nat_cmp key) e.0 ≡ b → without_key key (e ∷ es) ≡ cond b es (e ∷ without_key key es)
  without_cons key e es b h = ap (λ p. cond p es (e ∷ without_key key es)) h

  pub value_cons : (key : ℕ) (e : ℕ × T) (es : List (ℕ × T)) (b : Bool) → is_at (nat_cmp key) e.0 ≡ b → value_at key (e ∷ es) ≡ cond b (Some e.1) (value_at key es)
  value_cons key e es b h = ap (λ p. cond p (Some e.1) (value_at key es)) h

  -- each key is another
  Apart : ℕ → List (ℕ × T) → Type 0
  Apart key es = AllByRecursion (λ e. e.0 ≢ key) es

  pub apart_below : (key : ℕ) (es : List (ℕ × T)) → AllByRecursion (λ e. e.0 < key) es → AllByRecursion (λ e. e.0 ≢ key) es
  apart_below key es h = each-weaker (λ e. e.0 < key) (λ e. e.0 ≢ key) (λ e l. omega arith) es h

  pub apart_above : (key : ℕ) (es : List (ℕ × T)) → AllByRecursion (λ e. key < e.0) es → AllByRecursion (λ e. e.0 ≢ key) es
  apart_above key es h = each-weaker (λ e. key < e.0) (λ e. e.0 ≢ key) (λ e l. omega arith) es h

  -- ---- where the key isn't
  pub value-none : (key : ℕ) (es : List (ℕ × T)) → AllByRecursion (λ e. e.0 ≢ key) es → value_at key es ≡ None
  value-none key [] h = refl
  value-none key (e ∷ es) h = value_cons key e es false (apart key e.0 h.0) ∙ value-none key es h.1

  pub without-none : (key : ℕ) (es : List (ℕ × T)) → AllByRecursion (λ e. e.0 ≢ key) es → without_key key es ≡ es
  without-none key [] h = refl
  without-none key (e ∷ es) h = without_cons key e es false (apart key e.0 h.0) ∙ ap (λ r. e ∷ r) (without-none key es h.1)

  -- ---- a key between the keys of two lists
  value_before : (key : ℕ) (bs cs : List (ℕ × T)) → AllByRecursion (λ e. e.0 ≢ key) cs → value_at key (bs ++ cs) ≡ value_at key bs
  value_before key [] cs h = value-none key cs h
  value_before key (b ∷ bs) cs h = ap (λ r. cond (is_at (nat_cmp key) b.0) (Some b.1) r) (value_before key bs cs h)

  value_after : (key : ℕ) (ls bs : List (ℕ × T)) → AllByRecursion (λ e. e.0 ≢ key) ls → value_at key (ls ++ bs) ≡ value_at key bs
  value_after key [] bs h = refl
  value_after key (a ∷ ls) bs h = value_cons key a (ls ++ bs) false (apart key a.0 h.0) ∙ value_after key ls bs h.1

  pub value_between : (key : ℕ) (ls bs cs : List (ℕ × T)) → AllByRecursion (λ e. e.0 < key) ls → AllByRecursion (λ e. key < e.0) cs → value_at key (ls ++ (bs ++ cs)) ≡ value_at key bs
  value_between key ls bs cs h k = value_after key ls (bs ++ cs) (apart_below key ls h) ∙ value_before key bs cs (apart_above key cs k)

  without_before : (key : ℕ) (bs cs : List (ℕ × T)) → AllByRecursion (λ e. e.0 ≢ key) cs → without_key key (bs ++ cs) ≡ without_key key bs ++ cs
  without_before key [] cs h = without-none key cs h
  without_before key (b ∷ bs) cs h = elim (is_at (nat_cmp key) b.0) as (λ p. cond p (bs ++ cs) (b ∷ without_key key (bs ++ cs)) ≡ cond p bs (b ∷ without_key key bs) ++ cs) [
    | true ↦ refl
    | false ↦ ap (λ r. b ∷ r) (without_before key bs cs h)
  ]

  without_after : (key : ℕ) (ls bs : List (ℕ × T)) → AllByRecursion (λ e. e.0 ≢ key) ls → without_key key (ls ++ bs) ≡ ls ++ without_key key bs
  without_after key [] bs h = refl
  without_after key (a ∷ ls) bs h = without_cons key a (ls ++ bs) false (apart key a.0 h.0) ∙ ap (λ r. a ∷ r) (without_after key ls bs h.1)

  pub without_between : (key : ℕ) (ls bs cs : List (ℕ × T)) → AllByRecursion (λ e. e.0 < key) ls → AllByRecursion (λ e. key < e.0) cs → without_key key (ls ++ (bs ++ cs)) ≡ ls ++ (without_key key bs ++ cs)
  without_between key ls bs cs h k = without_after key ls (bs ++ cs) (apart_below key ls h) ∙ ap (λ r. ls ++ r) (without_before key bs cs (apart_above key cs k))

  with_before : (key : ℕ) (value : T) (bs cs : List (ℕ × T)) → AllByRecursion (λ e. key < e.0) cs → with_value key value (bs ++ cs) ≡ with_value key value bs ++ cs
  with_before key value [] [] h = refl
  with_before key value [] (c ∷ cs) h = with_cons key value c cs Less (less_cmp key c.0 h.0)
  with_before key value (b ∷ bs) cs h = elim (nat_cmp key b.0) as (λ o. match_ordering o ((key, value) ∷ b ∷ (bs ++ cs)) ((b.0, value) ∷ (bs ++ cs)) (b ∷ with_value key value (bs ++ cs))
      ≡ match_ordering o ((key, value) ∷ b ∷ bs) ((b.0, value) ∷ bs) (b ∷ with_value key value bs) ++ cs) [
        | Less ↦ refl
        | Equal ↦ refl
        | Greater ↦ ap (λ r. b ∷ r) (with_before key value bs cs h)
      ]

  with_after : (key : ℕ) (value : T) (ls bs : List (ℕ × T)) → AllByRecursion (λ e. e.0 < key) ls → with_value key value (ls ++ bs) ≡ ls ++ with_value key value bs
  with_after key value [] bs h = refl
  with_after key value (a ∷ ls) bs h = with_cons key value a (ls ++ bs) Greater (greater_cmp key a.0 h.0) ∙ ap (λ r. a ∷ r) (with_after key value ls bs h.1)

  pub with_between : (key : ℕ) (value : T) (ls bs cs : List (ℕ × T)) → AllByRecursion (λ e. e.0 < key) ls → AllByRecursion (λ e. key < e.0) cs → with_value key value (ls ++ (bs ++ cs)) ≡ ls ++ (with_value key value bs ++ cs)
  with_between key value ls bs cs h k = with_after key value ls (bs ++ cs) h ∙ ap (λ r. ls ++ r) (with_before key value bs cs k)

  -- ---- the changed pairs
  each-with : (P : ℕ → Type 0) (key : ℕ) (value : T) (es : List (ℕ × T)) → P key → AllByRecursion P (keys_of es) → AllByRecursion P (keys_of (with_value key value es))
  each-with P key value [] here h = (here, tt)
  each-with P key value (e ∷ es) here h = elim (nat_cmp key e.0) as (λ o. AllByRecursion P (keys_of (match_ordering o ((key, value) ∷ e ∷ es) ((e.0, value) ∷ es) (e ∷ with_value key value es)))) [
    | Less ↦ (here, h)
    | Equal ↦ h
    | Greater ↦ (h.0, each-with P key value es here h.1)
  ]

  each-without : (P : ℕ → Type 0) (key : ℕ) (es : List (ℕ × T)) → AllByRecursion P (keys_of es) → AllByRecursion P (keys_of (without_key key es))
  each-without P key [] h = tt
  each-without P key (e ∷ es) h = elim (is_at (nat_cmp key) e.0) as (λ b. AllByRecursion P (keys_of (cond b es (e ∷ without_key key es)))) [
    | true ↦ h.1
    | false ↦ (h.0, each-without P key es h.1)
  ]

  pub ascending-without : (key : ℕ) (es : List (ℕ × T)) → IsAscending es → IsAscending (without_key key es)
  unfolding IsStrictlySortedBy
  ascending-without key [] h = tt
  ascending-without key (e ∷ es) h = elim (is_at (nat_cmp key) e.0) as (λ b. IsStrictlySortedBy nat_cmp (keys_of (cond b es (e ∷ without_key key es)))) [
    | true ↦ h.1
    | false ↦ (each-without (λ k. nat_cmp e.0 k ≡ Less) key es h.0, ascending-without key es h.1)
  ]

  pub ascending-with : (key : ℕ) (value : T) (es : List (ℕ × T)) → IsAscending es → IsAscending (with_value key value es)
  unfolding IsStrictlySortedBy
  ascending-with key value [] h = (tt, tt)
  ascending-with key value (e ∷ es) h = let Q : List (ℕ × T) → Type 0 = λ l. IsAscending l in elim (compared key e.0) [
    | inl l ↦ subst Q (sym (with_cons key value e es Less (less_cmp key e.0 l))) ((less_cmp key e.0 l, below_rest key e.0 (keys_of es) l h.0), h)
    | inr m ↦ elim m [
      | inl q ↦ subst Q (sym (with_cons key value e es Equal (equal_cmp key e.0 q))) h
      | inr g ↦ subst Q (sym (with_cons key value e es Greater (greater_cmp key e.0 g))) (each-with (λ k. nat_cmp e.0 k ≡ Less) key value es (less_cmp e.0 key g) h.0, ascending-with key value es h.1)
    ]
  ]

  pub value-with_same : (key : ℕ) (value : T) (es : List (ℕ × T)) → value_at key (with_value key value es) ≡ Some value
  value-with_same key value [] = value_cons key (key, value) [] true (at-same key key refl)
  value-with_same key value (e ∷ es) = elim (compared key e.0) [
    | inl l ↦ ap (value_at key) (with_cons key value e es Less (less_cmp key e.0 l)) ∙ value_cons key (key, value) (e ∷ es) true (at-same key key refl)
    | inr m ↦ elim m [
      | inl q ↦ ap (value_at key) (with_cons key value e es Equal (equal_cmp key e.0 q)) ∙ value_cons key (e.0, value) es true (at-same key e.0 q)
      | inr g ↦ let other : e.0 ≢ key = omega arith in ap (value_at key) (with_cons key value e es Greater (greater_cmp key e.0 g)) ∙ value_cons key e (with_value key value es) false (apart key e.0 other) ∙ value-with_same key value es
    ]
  ]

  pub value-with_other : (key other : ℕ) (value : T) (es : List (ℕ × T)) → other ≢ key → value_at other (with_value key value es) ≡ value_at other es
  value-with_other key other value [] h = let k : key ≢ other = omega arith in value_cons other (key, value) [] false (apart other key k)
  value-with_other key other value (e ∷ es) h = let k : key ≢ other = omega arith in elim (nat_cmp key e.0) as (λ o. (nat_cmp key e.0 ≡ o) → value_at other (match_ordering o ((key, value) ∷ e ∷ es) ((e.0, value) ∷ es) (e ∷ with_value key value es)) ≡ value_at other (e ∷ es)) [
    | Less ↦ λ q. value_cons other (key, value) (e ∷ es) false (apart other key k)
    | Equal ↦ λ q. let n : e.0 ≢ other = let w : key ≡ e.0 = from_equal key e.0 q in omega arith in value_cons other (e.0, value) es false (apart other e.0 n) ∙ sym (value_cons other e es false (apart other e.0 n))
    | Greater ↦ λ q. ap (λ r. cond (is_at (nat_cmp other) e.0) (Some e.1) r) (value-with_other key other value es h)
  ] refl

  pub value-without_other : (key other : ℕ) (es : List (ℕ × T)) → other ≢ key → value_at other (without_key key es) ≡ value_at other es
  value-without_other key other [] h = refl
  value-without_other key other (e ∷ es) h = elim (is_at (nat_cmp key) e.0) as (λ b. (is_at (nat_cmp key) e.0 ≡ b) → value_at other (cond b es (e ∷ without_key key es)) ≡ value_at other (e ∷ es)) [
    | true ↦ λ q. let n : e.0 ≢ other = let w : key ≡ e.0 = from_at key e.0 q in omega arith in sym (value_cons other e es false (apart other e.0 n))
    | false ↦ λ q. ap (λ r. cond (is_at (nat_cmp other) e.0) (Some e.1) r) (value-without_other key other es h)
  ] refl

  -- the keys after a first key are others
  rest_apart : (key : ℕ) (es : List (ℕ × T)) → AllByRecursion (λ k. nat_cmp key k ≡ Less) (keys_of es) → AllByRecursion (λ e. key < e.0) es
  rest_apart key [] h = tt
  rest_apart key (e ∷ es) h = (from_less key e.0 h.0, rest_apart key es h.1)

  pub value-without_same : (key : ℕ) (es : List (ℕ × T)) → IsAscending es → value_at key (without_key key es) ≡ None
  unfolding IsStrictlySortedBy
  value-without_same key [] h = refl
  value-without_same key (e ∷ es) h = elim (is_at (nat_cmp key) e.0) as (λ b. (is_at (nat_cmp key) e.0 ≡ b) → value_at key (cond b es (e ∷ without_key key es)) ≡ None) [
    | true ↦ λ q. let w : key ≡ e.0 = from_at key e.0 q in let P : ℕ → Type 0 = λ k. AllByRecursion (λ p. k < p.0) es in value-none key es (apart_above key es (subst P (sym w) (rest_apart e.0 es h.0)))
    | false ↦ λ q. value_cons key e (without_key key es) false q ∙ value-without_same key es h.1
  ] refl

  pub length-without : (key : ℕ) (es : List (ℕ × T)) → length (without_key key es) + (if is_some (value_at key es) then 1 else 0) ≡ length es
  length-without key [] = refl
  length-without key (e ∷ es) = elim (is_at (nat_cmp key) e.0) as (λ b. length (cond b es (e ∷ without_key key es)) + (if is_some (cond b (Some e.1) (value_at key es)) then 1 else 0) ≡ length (e ∷ es)) [
    | true ↦ omega arith
    | false ↦ omega (arith, length-without key es)
  ]

  pub length-with : (key : ℕ) (value : T) (es : List (ℕ × T)) → IsAscending es → length (with_value key value es) ≡ length es + (if is_some (value_at key es) then 0 else 1)
  unfolding IsStrictlySortedBy
  length-with key value [] h = refl
  length-with key value (e ∷ es) h = elim (compared key e.0) [
    | inl l ↦ let none : value_at key (e ∷ es) ≡ None = value-none key (e ∷ es) (apart_above key (e ∷ es) ((l, rest_apart key es (below_rest key e.0 (keys_of es) l h.0)))) in rw (with_cons key value e es Less (less_cmp key e.0 l), none) (omega arith)
    | inr m ↦ elim m [
      | inl q ↦ rw (with_cons key value e es Equal (equal_cmp key e.0 q), value_cons key e es true (at-same key e.0 q)) (omega arith)
      | inr g ↦ let other : e.0 ≢ key = omega arith in rw (with_cons key value e es Greater (greater_cmp key e.0 g), value_cons key e es false (apart key e.0 other)) (omega (arith, length-with key value es h.1))
    ]
  ]

  pub without-missing : (key : ℕ) (es : List (ℕ × T)) → value_at key es ≡ None → without_key key es ≡ es
  without-missing key [] h = refl
  without-missing key (e ∷ es) h = elim (is_at (nat_cmp key) e.0) as (λ b. cond b (Some e.1) (value_at key es) ≡ None → cond b es (e ∷ without_key key es) ≡ e ∷ es) [
    | true ↦ λ (q : Some e.1 ≡ None). cc
    | false ↦ λ q. ap (λ r. e ∷ r) (without-missing key es q)
  ] h
