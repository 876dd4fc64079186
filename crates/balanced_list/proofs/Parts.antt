-- A list that is one list, an item and another list: what is found in it, put in and taken out.
use Rattle.std.proofs.Common.{◌≡◌, ℕ, zero, suc, ◌+◌, ◌-◌, ◌<◌, ◌≤◌, Bool, true, false, cond, List, [], ◌∷◌, ◌++◌, length, refl, sym, ap, ◌∙◌, subst, arith, ◌⊎◌, inl, inr}
use Rattle.std.specs.Prelude.{slice_set, slice_index_or, slice_get, Option, Some, None}
use Rattle.std.specs.List.{AllByRecursion as All, insert, remove}
use Rattle.balanced_list.specs.Search.{leading, HoldsAtFirst}

pub insert_before : {T : Type 0} (l r : List T) (x y : T) (i : ℕ) → i ≤ length l → insert (l ++ x ∷ r) i y ≡ insert l i y ++ x ∷ r
insert_before [] r x y zero h = refl
insert_before [] r x y (suc i) h = absurd (omega (arith, h))
insert_before (a ∷ l) r x y zero h = refl
insert_before (a ∷ l) r x y (suc i) h = ap (λ xs. a ∷ xs) (insert_before l r x y i (omega (arith, h)))

insert_later : {T : Type 0} (l r : List T) (x y : T) (j : ℕ) → insert (l ++ x ∷ r) (length l + suc j) y ≡ l ++ x ∷ insert r j y
insert_later [] r x y j = let e : 0 + suc j ≡ suc j = omega arith in rw e refl
insert_later (a ∷ l) r x y j =
    let e : length (a ∷ l) + suc j ≡ suc (length l + suc j) = omega arith in
    rw e (ap (λ xs. a ∷ xs) (insert_later l r x y j))

pub insert_after : {T : Type 0} (l r : List T) (x y : T) (i : ℕ) → length l < i → insert (l ++ x ∷ r) i y ≡ l ++ x ∷ insert r (i - length l - 1) y
insert_after l r x y i h =
    let e : i ≡ length l + suc (i - length l - 1) = omega arith in
    ap (λ n. insert (l ++ x ∷ r) n y) e ∙ insert_later l r x y (i - length l - 1)

pub remove_before : {T : Type 0} (l r : List T) (x : T) (i : ℕ) → i < length l → remove (l ++ x ∷ r) i ≡ remove l i ++ x ∷ r
remove_before [] r x i h = absurd (omega (arith, h))
remove_before (a ∷ l) r x zero h = refl
remove_before (a ∷ l) r x (suc i) h = ap (λ xs. a ∷ xs) (remove_before l r x i (omega (arith, h)))

remove_here : {T : Type 0} (l r : List T) (x : T) → remove (l ++ x ∷ r) (length l) ≡ l ++ r
remove_here [] r x = refl
remove_here (a ∷ l) r x = ap (λ xs. a ∷ xs) (remove_here l r x)

pub remove_between : {T : Type 0} (l r : List T) (x : T) (i : ℕ) → i ≡ length l → remove (l ++ x ∷ r) i ≡ l ++ r
remove_between l r x i e = ap (λ n. remove (l ++ x ∷ r) n) e ∙ remove_here l r x

remove_later : {T : Type 0} (l r : List T) (x : T) (j : ℕ) → remove (l ++ x ∷ r) (length l + suc j) ≡ l ++ x ∷ remove r j
remove_later [] r x j = let e : 0 + suc j ≡ suc j = omega arith in rw e refl
remove_later (a ∷ l) r x j =
    let e : length (a ∷ l) + suc j ≡ suc (length l + suc j) = omega arith in
    rw e (ap (λ xs. a ∷ xs) (remove_later l r x j))

pub remove_after : {T : Type 0} (l r : List T) (x : T) (i : ℕ) → length l < i → remove (l ++ x ∷ r) i ≡ l ++ x ∷ remove r (i - length l - 1)
remove_after l r x i h =
    let e : i ≡ length l + suc (i - length l - 1) = omega arith in
    ap (λ n. remove (l ++ x ∷ r) n) e ∙ remove_later l r x (i - length l - 1)

pub set_before : {T : Type 0} (l r : List T) (x y : T) (i : ℕ) → i < length l → slice_set (l ++ x ∷ r) i y ≡ slice_set l i y ++ x ∷ r
set_before [] r x y i h = absurd (omega (arith, h))
set_before (a ∷ l) r x y zero h = refl
set_before (a ∷ l) r x y (suc i) h = ap (λ xs. a ∷ xs) (set_before l r x y i (omega (arith, h)))

pub set_between : {T : Type 0} (l r : List T) (x y : T) → slice_set (l ++ x ∷ r) (length l) y ≡ l ++ y ∷ r
set_between [] r x y = refl
set_between (a ∷ l) r x y = ap (λ xs. a ∷ xs) (set_between l r x y)

set_later : {T : Type 0} (l r : List T) (x y : T) (j : ℕ) → slice_set (l ++ x ∷ r) (length l + suc j) y ≡ l ++ x ∷ slice_set r j y
set_later [] r x y j = let e : 0 + suc j ≡ suc j = omega arith in rw e refl
set_later (a ∷ l) r x y j =
    let e : length (a ∷ l) + suc j ≡ suc (length l + suc j) = omega arith in
    rw e (ap (λ xs. a ∷ xs) (set_later l r x y j))

pub set_after : {T : Type 0} (l r : List T) (x y : T) (i : ℕ) → length l < i → slice_set (l ++ x ∷ r) i y ≡ l ++ x ∷ slice_set r (i - length l - 1) y
set_after l r x y i h =
    let e : i ≡ length l + suc (i - length l - 1) = omega arith in
    ap (λ n. slice_set (l ++ x ∷ r) n y) e ∙ set_later l r x y (i - length l - 1)

pub item_before : {T : Type 0} (l r : List T) (x d : T) (i : ℕ) → i < length l → slice_index_or (l ++ x ∷ r) i d ≡ slice_index_or l i d
item_before [] r x d i h = absurd (omega (arith, h))
item_before (a ∷ l) r x d zero h = refl
item_before (a ∷ l) r x d (suc i) h = item_before l r x d i (omega (arith, h))

pub item_between : {T : Type 0} (l r : List T) (x d : T) → slice_index_or (l ++ x ∷ r) (length l) d ≡ x
item_between [] r x d = refl
item_between (a ∷ l) r x d = item_between l r x d

item_later : {T : Type 0} (l r : List T) (x d : T) (j : ℕ) → slice_index_or (l ++ x ∷ r) (length l + suc j) d ≡ slice_index_or r j d
item_later [] r x d j = let e : 0 + suc j ≡ suc j = omega arith in rw e refl
item_later (a ∷ l) r x d j =
    let e : length (a ∷ l) + suc j ≡ suc (length l + suc j) = omega arith in
    rw e (item_later l r x d j)

pub item_after : {T : Type 0} (l r : List T) (x d : T) (i : ℕ) → length l < i → slice_index_or (l ++ x ∷ r) i d ≡ slice_index_or r (i - length l - 1) d
item_after l r x d i h =
    let e : i ≡ length l + suc (i - length l - 1) = omega arith in
    ap (λ n. slice_index_or (l ++ x ∷ r) n d) e ∙ item_later l r x d (i - length l - 1)

-- ---- tests

all_before : {T : Type 0} (P : T → Type 0) (l r : List T) (x : T) → All P (l ++ x ∷ r) → All P l
all_before P [] r x h = tt
all_before P (a ∷ l) r x h = (h.0, all_before P l r x h.1)

all_from : {T : Type 0} (P : T → Type 0) (l r : List T) (x : T) → All P (l ++ x ∷ r) → P x × All P r
all_from P [] r x h = h
all_from P (a ∷ l) r x h = all_from P l r x h.1

pub not_both : (b : Bool) → b ≡ true → b ≡ false → ⊥
not_both true h e = absurd (grind (arith, e))
not_both false h e = absurd (grind (arith, h))

pub either : (b : Bool) → (b ≡ true) ⊎ (b ≡ false)
either true = inl refl
either false = inr refl

pub none_holds : {T : Type 0} (test : T → Bool) (xs : List T) → All (λ y. test y ≡ false) xs → HoldsAtFirst test xs
none_holds test [] h = tt
none_holds test (x ∷ xs) h = (λ t. none_holds test xs h.1, λ f. h.1)

pub first_before : {T : Type 0} (test : T → Bool) (l r : List T) (x : T) → HoldsAtFirst test (l ++ x ∷ r) → HoldsAtFirst test l
first_before test [] r x h = tt
first_before test (a ∷ l) r x h = (λ t. first_before test l r x (h.0 t), λ f. all_before (λ y. test y ≡ false) l r x (h.1 f))

pub first_after : {T : Type 0} (test : T → Bool) (l r : List T) (x : T) → HoldsAtFirst test (l ++ x ∷ r) → HoldsAtFirst test r
first_after test [] r x h = elim (either (test x)) [ inl t ↦ h.0 t | inr f ↦ none_holds test r (h.1 f) ]
first_after test (a ∷ l) r x h = elim (either (test a)) [
  | inl t ↦ first_after test l r x (h.0 t)
  | inr f ↦ none_holds test r (all_from (λ y. test y ≡ false) l r x (h.1 f)).1
]

pub leading_on : {T : Type 0} (test : T → Bool) (l r : List T) (x : T) → HoldsAtFirst test (l ++ x ∷ r) → test x ≡ true → leading test (l ++ x ∷ r) ≡ length l + 1 + leading test r
leading_on test [] r x h t = rw t (omega arith)
leading_on test (a ∷ l) r x h t = elim (either (test a)) [
  | inl s ↦ let e : leading test (l ++ x ∷ r) ≡ length l + 1 + leading test r = leading_on test l r x (h.0 s) t in rw s (omega (arith, e))
  | inr f ↦ absurd (not_both (test x) t (all_from (λ y. test y ≡ false) l r x (h.1 f)).0)
]

pub leading_off : {T : Type 0} (test : T → Bool) (l r : List T) (x : T) → test x ≡ false → leading test (l ++ x ∷ r) ≡ leading test l
leading_off test [] r x f = rw f refl
leading_off test (a ∷ l) r x f = ap (λ n. cond (test a) (n + 1) 0) (leading_off test l r x f)

-- ---- where a search is

-- A search of some items has come down to a part of them. So many stand before the part, and a test that the first items meet,
-- and no others, ends to hold in it or right behind it, where this item stands.
pub record IsPart {T : Type 0} (test : T → Bool) (items : List T) (before : ℕ) (part : List T) (behind : Option T) : Type 0 where
  pub fits : before + length part ≤ length items
  pub is : (i : ℕ) → i < length part → slice_get items (before + i) ≡ slice_get part i
  pub behind_is : behind ≡ slice_get items (before + length part)
  pub holds : HoldsAtFirst test items → HoldsAtFirst test part × (leading test items ≡ before + leading test part)

get_later : {T : Type 0} (l r : List T) (x : T) (j : ℕ) → slice_get (l ++ x ∷ r) (length l + suc j) ≡ slice_get r j
get_later [] r x j = let e : 0 + suc j ≡ suc j = omega arith in rw e refl
get_later (a ∷ l) r x j =
    let e : length (a ∷ l) + suc j ≡ suc (length l + suc j) = omega arith in
    rw e (get_later l r x j)

get_before : {T : Type 0} (l r : List T) (x : T) (i : ℕ) → i < length l → slice_get (l ++ x ∷ r) i ≡ slice_get l i
get_before [] r x i h = absurd (omega (arith, h))
get_before (a ∷ l) r x zero h = refl
get_before (a ∷ l) r x (suc i) h = get_before l r x i (omega (arith, h))

get_between : {T : Type 0} (l r : List T) (x : T) → slice_get (l ++ x ∷ r) (length l) ≡ Some x
get_between [] r x = refl
get_between (a ∷ l) r x = get_between l r x

get_past : {T : Type 0} (xs : List T) → slice_get xs (length xs) ≡ None
get_past [] = refl
get_past (x ∷ xs) = get_past xs

pub joined_length : {T : Type 0} (l r : List T) (x : T) → length (l ++ x ∷ r) ≡ length l + 1 + length r
joined_length [] r x = omega arith
joined_length (a ∷ l) r x = let e = joined_length l r x in omega (arith, e)

module _ {T : Type 0} (test : T → Bool) (items : List T) where
  -- at first the whole list is the part
  pub whole : IsPart test items 0 items None
  whole = record {
    fits = omega arith;
    is = λ i h. ap (slice_get items) (let e : 0 + i ≡ i = omega arith in e);
    behind_is = sym (ap (slice_get items) (let e : 0 + length items ≡ length items = omega arith in e) ∙ get_past items);
    holds = λ h. (h, omega arith);
  }

  module _ (l r part : List T) (x : T) (before : ℕ) (behind : Option T) (same : part ≡ l ++ x ∷ r) (at : IsPart test items before part behind) where
    split : IsPart test items before (l ++ x ∷ r) behind
    split = subst (λ p. IsPart test items before p behind) same at

    -- it goes on behind an item that the test holds at
    pub to_right : (more : ℕ) → more ≡ length l + 1 → test x ≡ true → IsPart test items (before + more) r behind
    to_right more m t =
        let n = joined_length l r x in
        let f = split.fits in
        record {
          fits = omega (arith, n, m, f);
          is = λ i h.
              let e : before + more + i ≡ before + (length l + suc i) = omega (arith, m) in
              ap (slice_get items) e ∙ split.is (length l + suc i) (omega (arith, n, h)) ∙ get_later l r x i;
          behind_is =
              let e : before + length (l ++ x ∷ r) ≡ before + more + length r = omega (arith, n, m) in
              split.behind_is ∙ ap (slice_get items) e;
          holds = λ h.
              let held = split.holds h in
              let e = leading_on test l r x held.0 t in
              let g = held.1 in
              (first_after test l r x held.0, omega (arith, e, g, m));
        }

    -- and else before it
    pub to_left : test x ≡ false → IsPart test items before l (Some x)
    to_left f =
        let n = joined_length l r x in
        let k = split.fits in
        record {
          fits = omega (arith, n, k);
          is = λ i h. split.is i (omega (arith, n, h)) ∙ get_before l r x i h;
          behind_is = sym (split.is (length l) (omega (arith, n)) ∙ get_between l r x);
          holds = λ h.
              let held = split.holds h in
              (first_before test l r x held.0, held.1 ∙ ap (λ n. before + n) (leading_off test l r x f));
        }

pub ruleset parts = (insert_before, insert_after, remove_before, remove_between, remove_after, set_before, set_between, set_after, item_before, item_between, item_after)
