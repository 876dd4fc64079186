-- What a tile holds of two lists of sources of which one has a source more, and what goes on to the tiles below.
use Rattle.std.proofs.Common.{◌≡◌, ℕ, zero, suc, ◌+◌, ◌≤◌, Bool, true, false, cond, List, [], ◌∷◌, ◌++◌, length, take, drop, refl, sym, ap, ◌∙◌, subst, arith, inl, inr}
use Rattle.std.proofs.lemmas.List.{take_all, drop_all}
use Rattle.std.specs.Prelude.{slice_get, Option, Some, None}
use Rattle.std.specs.List.{AllByRecursion as All, filter}
use Rattle.hips_catalog.specs.Rows.{Source, is_better, placed}
use Rattle.hips_catalog.proofs.Order.{either, IsInOrder}
use Rattle.hips_catalog.proofs.OneMore.{OneMore, here, later, more_has, more_length, more_at_end, beyond, fits, pushes, cut}
use Rattle.hips_catalog.proofs.Places.{placed_first}

-- ---- parts of lists in order

pub picked_all : {T : Type 0} (P : T → Type 0) (test : T → Bool) (xs : List T) → All P xs → All P (filter test xs)
picked_all P test [] h = tt
picked_all P test (x ∷ xs) h =
    elim (test x) as (λ b. All P (cond b (x ∷ filter test xs) (filter test xs))) [ true ↦ (h.0, picked_all P test xs h.1) | false ↦ picked_all P test xs h.1 ]

pub picked_meet : {T : Type 0} (test : T → Bool) (xs : List T) → All (λ x. test x ≡ true) (filter test xs)
picked_meet test [] = tt
picked_meet test (x ∷ xs) = elim (either (test x)) [
  | inl t ↦ subst (λ b. All (λ x. test x ≡ true) (cond b (x ∷ filter test xs) (filter test xs))) (sym t) (t, picked_meet test xs)
  | inr f ↦ subst (λ b. All (λ x. test x ≡ true) (cond b (x ∷ filter test xs) (filter test xs))) (sym f) (picked_meet test xs)
]

pub picked_ordered : (test : Source → Bool) (ss : List Source) → IsInOrder ss → IsInOrder (filter test ss)
picked_ordered test [] h = tt
picked_ordered test (s ∷ ss) h =
    elim (test s) as (λ b. IsInOrder (cond b (s ∷ filter test ss) (filter test ss))) [
      | true ↦ (picked_all (λ r. is_better s r ≡ true) test ss h.0, picked_ordered test ss h.1)
      | false ↦ picked_ordered test ss h.1
    ]

pub dropped_all : {T : Type 0} (P : T → Type 0) (n : ℕ) (xs : List T) → All P xs → All P (drop n xs)
dropped_all P zero xs h = h
dropped_all P (suc n) [] h = tt
dropped_all P (suc n) (x ∷ xs) h = dropped_all P n xs h.1

pub dropped_ordered : (n : ℕ) (ss : List Source) → IsInOrder ss → IsInOrder (drop n ss)
dropped_ordered zero ss h = h
dropped_ordered (suc n) [] h = tt
dropped_ordered (suc n) (s ∷ ss) h = dropped_ordered n ss h.1

pub taken_all : {T : Type 0} (P : T → Type 0) (n : ℕ) (xs : List T) → All P xs → All P (take n xs)
taken_all P zero xs h = tt
taken_all P (suc n) [] h = tt
taken_all P (suc n) (x ∷ xs) h = (h.0, taken_all P n xs h.1)

pub taken_ordered : (n : ℕ) (ss : List Source) → IsInOrder ss → IsInOrder (take n ss)
taken_ordered zero ss h = tt
taken_ordered (suc n) [] h = tt
taken_ordered (suc n) (s ∷ ss) h = (taken_all (λ r. is_better s r ≡ true) n ss h.0, taken_ordered n ss h.1)

all_ended : {T : Type 0} (P : T → Type 0) (x : T) (xs : List T) → All P xs → P x → All P (xs ++ x ∷ [])
all_ended P x [] h p = (p, tt)
all_ended P x (y ∷ ys) h p = (h.0, all_ended P x ys h.1 p)

-- the first n with one of those after them are in order
pub ended_ordered : {x : Source} {few : List Source} (n : ℕ) (many : List Source) → IsInOrder many → OneMore x few (drop n many) → IsInOrder (take n many ++ x ∷ [])
ended_ordered zero ss o h = (tt, tt)
ended_ordered (suc n) [] o h = (tt, tt)
ended_ordered {x} (suc n) (s ∷ ss) o h =
    (all_ended (λ r. is_better s r ≡ true) x (take n ss) (taken_all (λ r. is_better s r ≡ true) n ss o.0) (more_has (λ r. is_better s r ≡ true) h (dropped_all (λ r. is_better s r ≡ true) n ss o.0)), ended_ordered n ss o.1 h)

-- ---- one tile

-- a source is placed where the longer list has it
pub placed_is : {x : Source} {few many : List Source} → IsInOrder many → OneMore x few many → placed x few ≡ many
placed_is {x} o (here {xs = xs}) = placed_first x xs o.0
placed_is {x} o (later {y = y} {few = fs} h) =
    ap (λ b. cond b (y ∷ placed x fs) (x ∷ y ∷ fs)) (more_has (λ r. is_better y r ≡ true) h o.0) ∙ ap (λ ys. y ∷ ys) (placed_is o.1 h)

-- what becomes of a tile's n sources as one is placed among them
pub data Step (n : ℕ) (x : Source) (few many : List Source) : Type 0 where
  -- there is room
  stays : length many ≤ n → placed x (take n few) ≡ many → take n many ≡ many → Step n x few many
  -- the last goes on to the tiles below
  spills : (z : Source) → placed x (take n few) ≡ take n many ++ z ∷ [] → length (take n many) ≡ n → OneMore z (drop n few) (drop n many) → Step n x few many

-- where items are left after the first n, there are n
pub full : {T : Type 0} (n : ℕ) (few many : List T) (z : T) → OneMore z few (drop n many) → length (take n many) ≡ n
full zero few many z h = omega arith
full (suc n) few [] z h = elim h [ ]
full (suc n) few (m ∷ ms) z h = let e : length (take n ms) ≡ n = full n few ms z h in omega (arith, e)

pub step : {x : Source} (n : ℕ) (few many : List Source) → IsInOrder many → OneMore x few many → Step n x few many
step {x} n few many o h = elim (cut n h) [
  | beyond t d ↦ spills x (ap (placed x) (sym t) ∙ placed_is (ended_ordered n many o d) (more_at_end x (take n many))) (full n (drop n few) many x d) d
  | fits l ↦
      let e : length many ≡ length few + 1 = more_length h in
      stays l (ap (placed x) (take_all n few (omega (arith, e, l))) ∙ placed_is o h) (take_all n many l)
  | pushes z d m ↦
      let g : OneMore z (drop n few) (drop n many) = subst (λ ys. OneMore z (drop n few) ys) (sym d) here in
      spills z (placed_is (ended_ordered n many o g) m) (full n (drop n few) many z g) g
]

get_at_end : {T : Type 0} (xs : List T) (z : T) (n : ℕ) → length xs ≡ n → slice_get (xs ++ z ∷ []) n ≡ Some z
get_at_end [] z zero e = refl
get_at_end [] z (suc n) e = absurd (omega (arith, e))
get_at_end (x ∷ xs) z zero e = absurd (omega (arith, e))
get_at_end (x ∷ xs) z (suc n) e = get_at_end xs z n (omega (arith, e))

take_before_end : {T : Type 0} (xs : List T) (z : T) (n : ℕ) → length xs ≡ n → take n (xs ++ z ∷ []) ≡ xs
take_before_end [] z zero e = refl
take_before_end [] z (suc n) e = absurd (omega (arith, e))
take_before_end (x ∷ xs) z zero e = absurd (omega (arith, e))
take_before_end (x ∷ xs) z (suc n) e = ap (λ ys. x ∷ ys) (take_before_end xs z n (omega (arith, e)))

get_past : {T : Type 0} (xs : List T) (n : ℕ) → length xs ≤ n → slice_get xs n ≡ None
get_past [] n e = refl
get_past (x ∷ xs) zero e = absurd (omega (arith, e))
get_past (x ∷ xs) (suc n) e = get_past xs n (omega (arith, e))

-- the tile then has the first n of the longer list
pub step_held : {x : Source} (n : ℕ) (few many : List Source) → IsInOrder many → OneMore x few many → take n (placed x (take n few)) ≡ take n many
step_held n few many o h = elim (step n few many o h) [
  | stays l e t ↦ ap (take n) e
  | spills z e f m ↦ ap (take n) e ∙ take_before_end (take n many) z n f
]

-- what goes on is the source that the tiles below have more
pub data Out (n : ℕ) (few many : List Source) (out : Option Source) : Type 0 where
  none : out ≡ None → drop n few ≡ drop n many → Out n few many out
  some : (z : Source) → out ≡ Some z → OneMore z (drop n few) (drop n many) → Out n few many out

pub step_out : {x : Source} (n : ℕ) (few many : List Source) → IsInOrder many → OneMore x few many → Out n few many (slice_get (placed x (take n few)) n)
step_out n few many o h = elim (step n few many o h) [
  | stays l e t ↦
      let f : length many ≡ length few + 1 = more_length h in
      none (ap (λ ys. slice_get ys n) e ∙ get_past many n l) (drop_all n few (omega (arith, f, l)) ∙ sym (drop_all n many l))
  | spills z e f m ↦ some z (ap (λ ys. slice_get ys n) e ∙ get_at_end (take n many) z n f) m
]
