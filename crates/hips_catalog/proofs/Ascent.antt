-- How a source less changes the tiles: each tile from its own downward takes up the best source of those below.
use Rattle.std.proofs.Common.{◌≡◌, ℕ, zero, suc, ◌+◌, ◌-◌, ◌/◌, ◌^◌, ◌<◌, Bool, true, false, cond, ltb, List, [], ◌∷◌, ◌++◌, length, take, drop, refl, sym, ap, ◌∙◌, subst, arith, ◌⊎◌, inl, inr}
use Rattle.std.proofs.lemmas.List.{take_all, drop_all}
use Rattle.std.specs.Prelude.{slice_get, Some, None, unwrap_or}
use Rattle.std.specs.List.{AllByRecursion as All, filter, remove}
use Rattle.healpix_nested.specs.Cells.{lies_under}
use Rattle.hips_catalog.specs.Rows.{Source, is_better}
use Rattle.hips_catalog.specs.Held.{is_under, rest_of, held}
pub use Rattle.hips_catalog.specs.Rising.{Rising}
use Rattle.hips_catalog.proofs.Order.{not_both, not_itself as never_itself, IsInOrder, all_map}
use Rattle.hips_catalog.proofs.OneMore.{OneMore, here, later, more_has, more_behind, beyond, fits, pushes, cut, more_length}
use Rattle.hips_catalog.proofs.Places.{same, same_few}
use Rattle.hips_catalog.proofs.Steps.{dropped_ordered, dropped_all, picked_all, ended_ordered}
use Rattle.hips_catalog.proofs.Descent.{under_from, outside, itself, under_child, where_is, same_held, held_above, child_more, rest_under, rest_ordered, goes_under, child_of, not_itself, deeper, under_deeper, under_as, others_same, above_child, SameBut}

-- ---- lists

pub same_less : {x : Source} {a b many : List Source} → IsInOrder many → OneMore x a many → OneMore x b many → a ≡ b
same_less {x} o h g = elim (same_few o (never_itself x) (never_itself x) h g) [ same e l ↦ l ]

-- no source stands both among the first n and after them
apart : {x : Source} {a b : List Source} (n : ℕ) (many : List Source) → IsInOrder many → OneMore x a (take n many) → OneMore x b (drop n many) → ⊥
apart zero many o h g = elim h [ ]
apart (suc n) [] o h g = elim h [ ]
apart {x} (suc n) (m ∷ ms) o here g = not_both (is_better m m) (more_has (λ r. is_better m r ≡ true) g (dropped_all (λ r. is_better m r ≡ true) n ms o.0)) (never_itself m)
apart (suc n) (m ∷ ms) o (later h) g = apart n ms o.1 h g

abbrev first_or : {T : Type 0} → T → List T → T
first_or d [] = d
first_or d (x ∷ xs) = x

abbrev rest_from : {T : Type 0} → List T → List T
rest_from [] = []
rest_from (x ∷ xs) = xs

abbrev is_some_list : {T : Type 0} → List T → Bool
is_some_list [] = false
is_some_list (x ∷ xs) = true

no_items : {T : Type 0} (x : T) (xs : List T) → [] ≡ x ∷ xs → ⊥
no_items x xs e = not_both (is_some_list (x ∷ xs)) refl (sym (ap is_some_list e))

-- ---- one tile

-- the tile takes up z, the first of what is left after it, and the tiles below have z less
pub data Refilled (n : ℕ) (few many kept left : List Source) (z : Source) : Type 0 where
  refilled : kept ++ z ∷ [] ≡ take n few → left ≡ drop n few → Refilled n few many kept left z

pub refill : {x : Source} (n : ℕ) (few many kept left : List Source) (z : Source) → IsInOrder many → OneMore x few many → OneMore x kept (take n many) →
    drop n many ≡ z ∷ left → Refilled n few many kept left z
refill {x} n few many kept left z o h k d = elim (cut n h) [
  | beyond t g ↦ absurd (apart n many o k g)
  | fits l ↦ absurd (no_items z left (sym (drop_all n many l) ∙ d))
  | pushes y e m ↦
      let same_z : y ≡ z = ap (first_or z) (sym e ∙ d) in
      let m2 : OneMore x (take n few) (take n many ++ z ∷ []) = subst (λ w. OneMore x (take n few) (take n many ++ w ∷ [])) same_z m in
      let g : OneMore z left (drop n many) = subst (λ ys. OneMore z left ys) (sym d) here in
      refilled (same_less (ended_ordered n many o g) (more_behind (z ∷ []) k) m2) (sym (ap rest_from (sym e ∙ d)))
]

pub not_refilled : {x : Source} (n : ℕ) (few many kept : List Source) → IsInOrder many → OneMore x few many → OneMore x kept (take n many) →
    drop n many ≡ [] → kept ≡ take n few
not_refilled {x} n few many kept o h k d = elim (cut n h) [
  | beyond t g ↦ absurd (apart n many o k g)
  | fits l ↦
      let whole : take n many ≡ many = take_all n many l in
      let e : length many ≡ length few + 1 = more_length h in
      same_less o (subst (λ ys. OneMore x kept ys) whole k) h ∙ sym (take_all n few (omega (arith, l, e)))
  | pushes y e m ↦ absurd (no_items y (drop n few) (sym d ∙ e))
]

-- ---- the best of those below

pub first_in : {T : Type 0} (P : T → Type 0) (xs : List T) (z : T) → All P xs → slice_get xs 0 ≡ Some z → P z
first_in P [] z h e = absurd (grind (arith, e))
first_in {T} P (x ∷ xs) z h e = let f : x ≡ z = ap (λ o. unwrap_or o z) e in subst P f h.0

pub first_more : {T : Type 0} (xs : List T) (z : T) → slice_get xs 0 ≡ Some z → OneMore z (drop 1 xs) xs
first_more [] z e = absurd (grind (arith, e))
first_more (x ∷ xs) z e = let f : x ≡ z = ap (λ o. unwrap_or o z) e in subst (λ y. OneMore y xs (x ∷ xs)) f here

taken_first : {T : Type 0} (n : ℕ) (xs : List T) → 0 < n → slice_get (take n xs) 0 ≡ slice_get xs 0
taken_first zero xs h = absurd (omega (arith, h))
taken_first (suc n) [] h = refl
taken_first (suc n) (x ∷ xs) h = refl

pub held_first : (top n : ℕ) (ss : List Source) (k p : ℕ) → 0 < n → slice_get (held top n ss k p) 0 ≡ slice_get (rest_of top n ss k p) 0
held_first top n ss k p h =
    elim (ltb k top) as (λ b. slice_get (cond b (take n (rest_of top n ss k p)) (rest_of top n ss k p)) 0 ≡ slice_get (rest_of top n ss k p) 0) [
      | true ↦ taken_first n (rest_of top n ss k p) h
      | false ↦ refl
    ]

first_picked : {T : Type 0} (test : T → Bool) (y : T) (ys : List T) → test y ≡ true → slice_get (filter test (y ∷ ys)) 0 ≡ Some y
first_picked test y ys t = ap (λ b. slice_get (cond b (y ∷ filter test ys) (filter test ys)) 0) t

-- of the parts of a list, the one with the best first source has the first of the whole list
pub data Begins (z : Source) (ss : List Source) : Type 0 where
  begins : (left : List Source) → ss ≡ z ∷ left → Begins z ss

best_begins : (top k p : ℕ) (ss : List Source) (c : ℕ) (z : Source) → k < top → IsInOrder ss → All (λ s. is_under top k p s ≡ true) ss →
    slice_get (filter (is_under top (suc k) c) ss) 0 ≡ Some z →
    ((d : ℕ) (s : Source) → d / 4 ≡ p → slice_get (filter (is_under top (suc k) d) ss) 0 ≡ Some s → is_better s z ≡ false) → Begins z ss
best_begins top k p [] c z l o u e best = absurd (grind (arith, e))
best_begins top k p (y ∷ ys) c z l o u e best =
    let v : is_under top (suc k) (y.npix / 4 ^ (top - suc k)) y ≡ true = under_from top y.npix (suc k) (omega (arith, l)) in
    let b : is_better y z ≡ false = best (y.npix / 4 ^ (top - suc k)) y (child_of top k p (y.npix / 4 ^ (top - suc k)) y u.0 v) (first_picked (is_under top (suc k) (y.npix / 4 ^ (top - suc k))) y ys v) in
    let P : Source → Type 0 = λ s. (y ≡ s) ⊎ (is_better y s ≡ true) in
    let all : All P (y ∷ ys) = (inl refl, all_map (λ s. is_better y s ≡ true) P (λ s t. inr t) ys o.0) in
    elim (first_in P (filter (is_under top (suc k) c) (y ∷ ys)) z (picked_all P (is_under top (suc k) c) (y ∷ ys) all) e) [
      | inl f ↦ begins ys (ap (λ w. w ∷ ys) f)
      | inr t ↦ absurd (not_both (is_better y z) t b)
    ]

none_begin : (top k p : ℕ) (ss : List Source) → k < top → All (λ s. is_under top k p s ≡ true) ss →
    ((d : ℕ) → d / 4 ≡ p → slice_get (filter (is_under top (suc k) d) ss) 0 ≡ None) → ss ≡ []
none_begin top k p [] l u e = refl
none_begin top k p (y ∷ ys) l u e =
    let v : is_under top (suc k) (y.npix / 4 ^ (top - suc k)) y ≡ true = under_from top y.npix (suc k) (omega (arith, l)) in
    let f = e (y.npix / 4 ^ (top - suc k)) (child_of top k p (y.npix / 4 ^ (top - suc k)) y u.0 v) in
    let g = first_picked (is_under top (suc k) (y.npix / 4 ^ (top - suc k))) y ys v in
    let i : Some y ≡ None = sym g ∙ f in absurd (grind (arith, i))

child_first : (top n : ℕ) (ss : List Source) (k p d : ℕ) → 0 < n → d / 4 ≡ p →
    slice_get (held top n ss (suc k) d) 0 ≡ slice_get (filter (is_under top (suc k) d) (drop n (rest_of top n ss k p))) 0
child_first top n ss k p d h e =
    held_first top n ss (suc k) d h ∙ ap (λ r. slice_get (filter (is_under top (suc k) d) (drop n (rest_of top n ss k r))) 0) e

-- a child's first source, than which no other child's first is better, is the first of those left after the tile
pub best_below : (top n : ℕ) (ss : List Source) (k p c : ℕ) (z : Source) → k < top → 0 < n → IsInOrder ss → c / 4 ≡ p →
    slice_get (held top n ss (suc k) c) 0 ≡ Some z →
    ((d : ℕ) (s : Source) → d / 4 ≡ p → slice_get (held top n ss (suc k) d) 0 ≡ Some s → is_better s z ≡ false) →
    Begins z (drop n (rest_of top n ss k p))
best_below top n ss k p c z l h o ec e best =
    best_begins top k p (drop n (rest_of top n ss k p)) c z l (dropped_ordered n (rest_of top n ss k p) (rest_ordered top n ss o k p))
    (dropped_all (λ s. is_under top k p s ≡ true) n (rest_of top n ss k p) (rest_under top n ss k p)) (sym (child_first top n ss k p c h ec) ∙ e)
    (λ d s ed f. best d s ed (child_first top n ss k p d h ed ∙ f))

pub none_below : (top n : ℕ) (ss : List Source) (k p : ℕ) → k < top → 0 < n →
    ((d : ℕ) → d / 4 ≡ p → slice_get (held top n ss (suc k) d) 0 ≡ None) → drop n (rest_of top n ss k p) ≡ []
none_below top n ss k p l h e =
    none_begin top k p (drop n (rest_of top n ss k p)) l (dropped_all (λ s. is_under top k p s ≡ true) n (rest_of top n ss k p) (rest_under top n ss k p))
    (λ d ed. sym (child_first top n ss k p d h ed) ∙ e d ed)

-- ---- a source that is taken away

-- the two are the same but for a tile and a child of it
abbrev pub SameButTwo : ℕ → ℕ → ℕ → (ℕ → ℕ → List Source) → (ℕ → ℕ → List Source) → Type 0
SameButTwo k p c old new = (j q : ℕ) → ¬ ((j ≡ k) × (q ≡ p)) → ¬ ((j ≡ suc k) × (q ≡ c)) → new j q ≡ old j q

other_order : (j q k c : ℕ) → j ≡ k → ¬ ((j ≡ suc k) × (q ≡ c))
other_order j q k c e h = let f : j ≡ suc k = h.0 in absurd (omega (arith, e, f))

pub child_below : (k p c : ℕ) → c / 4 ≡ p → lies_under (suc k) c k p ≡ true
child_below k p c e = subst (λ r. lies_under (suc k) c k r ≡ true) e (above_child k c)

pub rise : (top n : ℕ) (few many : List Source) (old new : ℕ → ℕ → List Source) (k p c i : ℕ) (x z dead : Source) → k < top → 0 < n → IsInOrder many →
    Rising top n few many old k p x i → Begins z (drop n (rest_of top n many k p)) → is_under top (suc k) c z ≡ true →
    slice_get (old (suc k) c) 0 ≡ Some z →
    new k p ≡ remove (old k p) i ++ z ∷ [] → new (suc k) c ≡ dead ∷ drop 1 (old (suc k) c) → SameButTwo k p c old new →
    Rising top n few many new (suc k) c z 0
rise top n few many old new k p c i x z dead l h o s (begins left d) v first at there keeps =
    let e : c / 4 ≡ p = child_of top k p c z (goes_under top n left many k p z (subst (λ ys. OneMore z left ys) (sym d) here)) v in
    let kept : OneMore x (remove (old k p) i) (take n (rest_of top n many k p)) = subst (λ ys. OneMore x (remove (old k p) i) ys) (held_above top n many k p l) s.gone in
    elim (refill n (rest_of top n few k p) (rest_of top n many k p) (remove (old k p) i) left z (rest_ordered top n many o k p) s.more kept d) [
      | refilled full rest ↦
          let m : OneMore z (drop n (rest_of top n few k p)) (drop n (rest_of top n many k p)) =
          subst (λ ys. OneMore z ys (drop n (rest_of top n many k p))) rest (subst (λ ys. OneMore z left ys) (sym d) here) in
          let child_was : old (suc k) c ≡ held top n many (suc k) c = s.below (suc k) c (child_below k p c e) (deeper (suc k) c k p (omega arith)) in
          record {
            more = child_more top n few many k p c z e v m;
            done = λ j q f. elim (where_is k p j q) [
              | outside g ↦ keeps j q (not_itself j q k p g) (not_itself j q (suc k) c f) ∙ s.done j q g
              | itself a b ↦ subst (λ y. new y q ≡ held top n few y q) (sym a) (subst (λ r. new k r ≡ held top n few k r) (sym b) (at ∙ full ∙ sym (held_above top n few k p l)))
              | under_child t ed u deep ↦ keeps j q (deeper j q k p deep) (not_itself j q (suc k) c f) ∙ s.below j q (under_as j q k t p ed u) (deeper j q k p deep) ∙ sym (others_same top n few many k p c t j q z ed u v f m)
            ];
            below = λ j q t w. keeps j q (deeper j q k p (under_deeper j q k c t)) w ∙ s.below j q (under_as j q k c p e t) (deeper j q k p (under_deeper j q k c t));
            place = subst (λ ys. 0 < length ys) (sym there) (omega arith);
            gone = subst (λ ys. OneMore z (remove ys 0) (held top n many (suc k) c)) (sym there) (subst (λ ys. OneMore z (drop 1 (old (suc k) c)) ys) child_was (first_more (old (suc k) c) z first));
          }
    ]

-- nothing is taken up any more
pub risen : (top n : ℕ) (few many : List Source) (old new : ℕ → ℕ → List Source) (k p i : ℕ) (x : Source) →
    Rising top n few many old k p x i → new k p ≡ held top n few k p → SameBut k p old new →
    ((c : ℕ) → c / 4 ≡ p → rest_of top n few (suc k) c ≡ rest_of top n many (suc k) c) → (j q : ℕ) → new j q ≡ held top n few j q
risen top n few many old new k p i x s at keeps below j q = elim (where_is k p j q) [
  | outside g ↦ keeps j q (not_itself j q k p g) ∙ s.done j q g
  | itself a b ↦ subst (λ y. new y q ≡ held top n few y q) (sym a) (subst (λ r. new k r ≡ held top n few k r) (sym b) at)
  | under_child d ed u deep ↦ keeps j q (deeper j q k p deep) ∙ s.below j q (under_as j q k d p ed u) (deeper j q k p deep) ∙ sym (same_held top n few many (suc k) d j q u (below d ed))
]
