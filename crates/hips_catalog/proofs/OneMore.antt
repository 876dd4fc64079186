-- Lists of which one has an item more than the other, and the same ones otherwise in the same order.
use Rattle.std.proofs.Common.{◌≡◌, ℕ, zero, suc, ◌+◌, ◌≤◌, ◌<◌, Bool, true, false, cond, List, [], ◌∷◌, ◌++◌, length, take, drop, refl, sym, ap, subst, arith}
use Rattle.std.specs.Prelude.{slice_index_or}
use Rattle.std.specs.List.{AllByRecursion as All, filter, remove}
pub use Rattle.hips_catalog.specs.More.{OneMore, here, later}

pub more_length : {T : Type 0} {x : T} {few many : List T} → OneMore x few many → length many ≡ length few + 1
more_length here = omega arith
more_length (later h) = let r = more_length h in omega (arith, r)

-- what a test picks of the two differs by the item too, where it picks the item
pub more_picked : {T : Type 0} {x : T} (test : T → Bool) {few many : List T} → test x ≡ true → OneMore x few many → OneMore x (filter test few) (filter test many)
more_picked {T} {x} test t (here {xs = xs}) = subst (λ b. OneMore x (filter test xs) (cond b (x ∷ filter test xs) (filter test xs))) (sym t) here
more_picked {T} {x} test t (later {y = y} {few = few} {many = many} h) =
    let r : OneMore x (filter test few) (filter test many) = more_picked test t h in
    elim (test y) as (λ b. OneMore x (cond b (y ∷ filter test few) (filter test few)) (cond b (y ∷ filter test many) (filter test many))) [ true ↦ later r | false ↦ r ]

-- and else nothing
pub more_left : {T : Type 0} {x : T} (test : T → Bool) {few many : List T} → test x ≡ false → OneMore x few many → filter test few ≡ filter test many
more_left {T} {x} test f (here {xs = xs}) = sym (ap (λ b. cond b (x ∷ filter test xs) (filter test xs)) f)
more_left test f (later {y = y} h) = ap (λ ys. cond (test y) (y ∷ ys) ys) (more_left test f h)

pub more_has : {T : Type 0} {x : T} (P : T → Type 0) {few many : List T} → OneMore x few many → All P many → P x
more_has P here a = a.0
more_has P (later h) a = more_has P h a.1

pub more_rest : {T : Type 0} {x : T} (P : T → Type 0) {few many : List T} → OneMore x few many → All P many → All P few
more_rest P here a = a.1
more_rest P (later h) a = (a.0, more_rest P h a.1)

pub more_all : {T : Type 0} {x : T} (P : T → Type 0) {few many : List T} → OneMore x few many → P x → All P few → All P many
more_all P here p a = (p, a)
more_all P (later h) p a = (a.0, more_all P h p a.1)

pub more_at_end : {T : Type 0} (x : T) (xs : List T) → OneMore x xs (xs ++ x ∷ [])
more_at_end x [] = here
more_at_end x (y ∷ ys) = later (more_at_end x ys)

pub more_behind : {T : Type 0} {x : T} {few many : List T} (ys : List T) → OneMore x few many → OneMore x (few ++ ys) (many ++ ys)
more_behind ys here = here
more_behind ys (later h) = later (more_behind ys h)

pub removed_more : {T : Type 0} (xs : List T) (i : ℕ) (d : T) → i < length xs → OneMore (slice_index_or xs i d) (remove xs i) xs
removed_more [] i d h = absurd (omega (arith, h))
removed_more (x ∷ xs) zero d h = here
removed_more (x ∷ xs) (suc i) d h = later (removed_more xs i d (omega (arith, h)))

-- ---- cut after n items

-- what the two lists of n items have, and what is left of both
pub data Cut {T : Type 0} (x : T) (n : ℕ) (few many : List T) : Type 0 where
  -- the item is past the first n
  beyond : take n many ≡ take n few → OneMore x (drop n few) (drop n many) → Cut x n few many
  -- the longer list has at most n items
  fits : length many ≤ n → Cut x n few many
  -- the item is among the first n, and the last of those in the shorter list is the first that is left of the longer one
  pushes : (z : T) → drop n many ≡ z ∷ drop n few → OneMore x (take n few) (take n many ++ z ∷ []) → Cut x n few many

-- the last of the first n + 1 items, where there are so many
pub data Last {T : Type 0} (n : ℕ) (xs : List T) : Type 0 where
  short : length xs ≤ n → Last n xs
  last : (z : T) → drop n xs ≡ z ∷ drop (suc n) xs → take (suc n) xs ≡ take n xs ++ z ∷ [] → Last n xs

last_of : {T : Type 0} (n : ℕ) (xs : List T) → Last n xs
last_of n [] = short (omega arith)
last_of zero (x ∷ xs) = last x refl refl
last_of (suc n) (x ∷ xs) = elim (last_of n xs) [
  | short h ↦ short (omega (arith, h))
  | last z d t ↦ last z d (ap (λ ys. x ∷ ys) t)
]

pub cut : {T : Type 0} {x : T} (n : ℕ) {few many : List T} → OneMore x few many → Cut x n few many
cut zero here = beyond refl here
cut zero (later h) = beyond refl (later h)
cut {T} {x} (suc n) (here {xs = xs}) = elim (last_of n xs) [
  | short h ↦ fits (omega (arith, h))
  | last z d t ↦ pushes z d (subst (λ ys. OneMore x ys (x ∷ (take n xs ++ z ∷ []))) (sym t) here)
]
cut {T} {x} (suc n) (later {y = y} h) = elim (cut n h) [
  | beyond t d ↦ beyond (ap (λ ys. y ∷ ys) t) d
  | fits l ↦ fits (omega (arith, l))
  | pushes z d m ↦ pushes z d (later m)
]
