-- A list that is one list and another one behind it: what is found in it, put in and taken out.
use Rattle.std.proofs.Common.{◌≡◌, ℕ, zero, suc, ◌+◌, ◌-◌, ◌<◌, ◌≤◌, Bool, true, false, cond, List, [], ◌∷◌, ◌++◌, length, map, refl, sym, ap, ◌∙◌, subst, arith, ◌⊎◌, inl, inr}
use Rattle.std.specs.Prelude.{slice_set, slice_index_or, slice_get, Option, Some, None}
use Rattle.std.specs.List.{AllByRecursion as All, insert, remove}
use Rattle.balanced_list.specs.Search.{leading, HoldsAtFirst}
use Rattle.balanced_list.proofs.Parts.{either, not_both, none_holds}

pub both_length : {T : Type 0} (l r : List T) → length (l ++ r) ≡ length l + length r
both_length [] r = omega arith
both_length (a ∷ l) r = let e = both_length l r in omega (arith, e)

pub insert_first : {T : Type 0} (xs : List T) (y : T) → insert xs 0 y ≡ y ∷ xs
insert_first [] y = refl
insert_first (x ∷ xs) y = refl

pub insert_in_rest : {T : Type 0} (l r : List T) (y : T) (i : ℕ) → length l ≤ i → insert (l ++ r) i y ≡ l ++ insert r (i - length l) y
insert_in_rest [] r y i h = let e : i - 0 ≡ i = omega arith in rw e refl
insert_in_rest (a ∷ l) r y zero h = absurd (omega (arith, h))
insert_in_rest (a ∷ l) r y (suc i) h = let e : suc i - length (a ∷ l) ≡ i - length l = omega arith in rw e (ap (λ xs. a ∷ xs) (insert_in_rest l r y i (omega (arith, h))))

pub remove_in_front : {T : Type 0} (l r : List T) (i : ℕ) → i < length l → remove (l ++ r) i ≡ remove l i ++ r
remove_in_front [] r i h = absurd (omega (arith, h))
remove_in_front (a ∷ l) r zero h = refl
remove_in_front (a ∷ l) r (suc i) h = ap (λ xs. a ∷ xs) (remove_in_front l r i (omega (arith, h)))

pub remove_in_rest : {T : Type 0} (l r : List T) (i : ℕ) → length l ≤ i → remove (l ++ r) i ≡ l ++ remove r (i - length l)
remove_in_rest [] r i h = let e : i - 0 ≡ i = omega arith in rw e refl
remove_in_rest (a ∷ l) r zero h = absurd (omega (arith, h))
remove_in_rest (a ∷ l) r (suc i) h = let e : suc i - length (a ∷ l) ≡ i - length l = omega arith in rw e (ap (λ xs. a ∷ xs) (remove_in_rest l r i (omega (arith, h))))

pub set_in_front : {T : Type 0} (l r : List T) (y : T) (i : ℕ) → i < length l → slice_set (l ++ r) i y ≡ slice_set l i y ++ r
set_in_front [] r y i h = absurd (omega (arith, h))
set_in_front (a ∷ l) r y zero h = refl
set_in_front (a ∷ l) r y (suc i) h = ap (λ xs. a ∷ xs) (set_in_front l r y i (omega (arith, h)))

pub set_in_rest : {T : Type 0} (l r : List T) (y : T) (i : ℕ) → length l ≤ i → slice_set (l ++ r) i y ≡ l ++ slice_set r (i - length l) y
set_in_rest [] r y i h = let e : i - 0 ≡ i = omega arith in rw e refl
set_in_rest (a ∷ l) r y zero h = absurd (omega (arith, h))
set_in_rest (a ∷ l) r y (suc i) h = let e : suc i - length (a ∷ l) ≡ i - length l = omega arith in rw e (ap (λ xs. a ∷ xs) (set_in_rest l r y i (omega (arith, h))))

pub item_in_front : {T : Type 0} (l r : List T) (d : T) (i : ℕ) → i < length l → slice_index_or (l ++ r) i d ≡ slice_index_or l i d
item_in_front [] r d i h = absurd (omega (arith, h))
item_in_front (a ∷ l) r d zero h = refl
item_in_front (a ∷ l) r d (suc i) h = item_in_front l r d i (omega (arith, h))

pub item_in_rest : {T : Type 0} (l r : List T) (d : T) (i : ℕ) → length l ≤ i → slice_index_or (l ++ r) i d ≡ slice_index_or r (i - length l) d
item_in_rest [] r d i h = let e : i - 0 ≡ i = omega arith in rw e refl
item_in_rest (a ∷ l) r d zero h = absurd (omega (arith, h))
item_in_rest (a ∷ l) r d (suc i) h = let e : suc i - length (a ∷ l) ≡ i - length l = omega arith in rw e (item_in_rest l r d i (omega (arith, h)))

pub get_in_front : {T : Type 0} (l r : List T) (i : ℕ) → i < length l → slice_get (l ++ r) i ≡ slice_get l i
get_in_front [] r i h = absurd (omega (arith, h))
get_in_front (a ∷ l) r zero h = refl
get_in_front (a ∷ l) r (suc i) h = get_in_front l r i (omega (arith, h))

pub get_in_rest : {T : Type 0} (l r : List T) (i : ℕ) → length l ≤ i → slice_get (l ++ r) i ≡ slice_get r (i - length l)
get_in_rest [] r i h = let e : i - 0 ≡ i = omega arith in rw e refl
get_in_rest (a ∷ l) r zero h = absurd (omega (arith, h))
get_in_rest (a ∷ l) r (suc i) h = let e : suc i - length (a ∷ l) ≡ i - length l = omega arith in rw e (get_in_rest l r i (omega (arith, h)))

-- what stands nowhere in a list has its place past the last
pub past_the_last : {T : Type 0} (xs : List T) (i : ℕ) → slice_get xs i ≡ None → length xs ≤ i
past_the_last [] i h = omega arith
past_the_last (x ∷ xs) zero h = cc
past_the_last (x ∷ xs) (suc i) h = let e = past_the_last xs i h in omega (arith, e)

-- what stands somewhere in a list has its place before the end
pub stands_within : {T : Type 0} (xs : List T) (i : ℕ) (x : T) → slice_get xs i ≡ Some x → i < length xs
stands_within [] i x h = cc
stands_within (y ∷ xs) zero x h = omega arith
stands_within (y ∷ xs) (suc i) x h = let e = stands_within xs i x h in omega (arith, e)

-- ---- tests

all_in_front : {T : Type 0} (P : T → Type 0) (l r : List T) → All P (l ++ r) → All P l
all_in_front P [] r h = tt
all_in_front P (a ∷ l) r h = (h.0, all_in_front P l r h.1)

all_in_rest : {T : Type 0} (P : T → Type 0) (l r : List T) → All P (l ++ r) → All P r
all_in_rest P [] r h = h
all_in_rest P (a ∷ l) r h = all_in_rest P l r h.1

pub holds_in_front : {T : Type 0} (test : T → Bool) (l r : List T) → HoldsAtFirst test (l ++ r) → HoldsAtFirst test l
holds_in_front test [] r h = tt
holds_in_front test (a ∷ l) r h = (λ t. holds_in_front test l r (h.0 t), λ f. all_in_front (λ y. test y ≡ false) l r (h.1 f))

pub holds_in_rest : {T : Type 0} (test : T → Bool) (l r : List T) → HoldsAtFirst test (l ++ r) → HoldsAtFirst test r
holds_in_rest test [] r h = h
holds_in_rest test (a ∷ l) r h = elim (either (test a)) [
  | inl t ↦ holds_in_rest test l r (h.0 t)
  | inr f ↦ none_holds test r (all_in_rest (λ y. test y ≡ false) l r (h.1 f))
]

none_leads : {T : Type 0} (test : T → Bool) (xs : List T) → All (λ y. test y ≡ false) xs → leading test xs ≡ 0
none_leads test [] h = refl
none_leads test (x ∷ xs) h = rw h.0 refl

-- the test holds at some of the rest, so at all in front of it
pub leads_into_rest : {T : Type 0} (test : T → Bool) (l r : List T) → HoldsAtFirst test (l ++ r) → 0 < leading test r → leading test (l ++ r) ≡ length l + leading test r
leads_into_rest test [] r h some = omega arith
leads_into_rest test (a ∷ l) r h some = elim (either (test a)) [
  | inl t ↦ let e = leads_into_rest test l r (h.0 t) some in rw t (omega (arith, e))
  | inr f ↦ let none = none_leads test r (all_in_rest (λ y. test y ≡ false) l r (h.1 f)) in absurd (omega (arith, none, some))
]

-- it holds at none of the rest
pub leads_in_front : {T : Type 0} (test : T → Bool) (l r : List T) → leading test r ≡ 0 → leading test (l ++ r) ≡ leading test l
leads_in_front test [] r none = none
leads_in_front test (a ∷ l) r none = ap (λ n. cond (test a) (n + 1) 0) (leads_in_front test l r none)

pub ruleset halves = (insert_in_rest, remove_in_front, remove_in_rest, set_in_front, set_in_rest, item_in_front, item_in_rest, get_in_front, get_in_rest)
