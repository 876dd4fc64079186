-- What holds as a row sinks, whatever lists it is the difference of.
use Rattle.std.proofs.Common.{◌≡◌, ℕ, zero, suc, ◌+◌, ◌-◌, ◌/◌, ◌^◌, ◌≤◌, ◌<◌, Bool, true, false, cond, ltb, List, [], ◌∷◌, length, take, drop, refl, sym, ap, ◌∙◌, subst, arith, inl, inr}
use Rattle.std.proofs.lemmas.Bool.{ltb-true}
use Rattle.std.proofs.lemmas.List.{take_all}
use Rattle.healpix_nested.specs.CellLaws.{under_self}
use Rattle.std.specs.Prelude.{slice_get, Option, Some, None, IsSome, unwrap_or}
use Rattle.std.specs.List.{AllByRecursion as All, filter}
use Rattle.balanced_list.specs.Search.{HoldsAtFirst}
use Rattle.healpix_nested.specs.Cells.{IsCell, lies_under}
use Rattle.hips_catalog.specs.Rows.{Source, is_better, placed}
use Rattle.hips_catalog.specs.Held.{is_under, rest_of, held}
use Rattle.hips_catalog.specs.Tiles.{rows_at, AreListed, NoneIsEmpty}
use Rattle.hips_catalog.specs.Parts.{AreTilesOf, Differ}
use Rattle.hips_catalog.specs.declared.tile.Tile.{Tile}
use Rattle.hips_catalog.proofs.Order.{IsInOrder, either, not_both}
use Rattle.hips_catalog.proofs.OneMore.{OneMore, more_has, more_picked, more_left, more_length}
use Rattle.hips_catalog.proofs.Places.{better_at_first, ordered_less}
use Rattle.hips_catalog.proofs.Steps.{step_held, step_out, Out, none, some, placed_is, taken_ordered, picked_all, dropped_all}
use Rattle.hips_catalog.proofs.Descent.{Sinking, sink, sunk, SameBut, under_from, under_parts, no_other, same_held, held_above, child_same, rest_ordered}

-- ---- lengths

picked_length : {T : Type 0} (test : T → Bool) (xs : List T) → length (filter test xs) ≤ length xs
picked_length test [] = omega arith
picked_length test (x ∷ xs) =
    let h : length (filter test xs) ≤ length xs = picked_length test xs in
    elim (either (test x)) [
      | inl t ↦ rw t (omega (arith, h))
      | inr f ↦ rw f (omega (arith, h))
    ]

dropped_length : {T : Type 0} (n : ℕ) (xs : List T) → length (drop n xs) ≤ length xs
dropped_length zero xs = omega arith
dropped_length (suc n) [] = omega arith
dropped_length (suc n) (x ∷ xs) = let h : length (drop n xs) ≤ length xs = dropped_length n xs in omega (arith, h)

taken_at_most : {T : Type 0} (n : ℕ) (xs : List T) → (length (take n xs) ≤ n) × (length (take n xs) ≤ length xs)
taken_at_most zero xs = (omega arith, omega arith)
taken_at_most (suc n) [] = (omega arith, omega arith)
taken_at_most (suc n) (x ∷ xs) = let h = taken_at_most n xs in (omega (arith, h.0), omega (arith, h.1))

pub rest_length : (top n : ℕ) (ss : List Source) (k p : ℕ) → length (rest_of top n ss k p) ≤ length ss
rest_length top n ss zero p = picked_length (is_under top 0 p) ss
rest_length top n ss (suc k) p =
    let a : length (filter (is_under top (suc k) p) (drop n (rest_of top n ss k (p / 4)))) ≤ length (drop n (rest_of top n ss k (p / 4))) = picked_length (is_under top (suc k) p) (drop n (rest_of top n ss k (p / 4))) in
    let b : length (drop n (rest_of top n ss k (p / 4))) ≤ length (rest_of top n ss k (p / 4)) = dropped_length n (rest_of top n ss k (p / 4)) in
    let d : length (rest_of top n ss k (p / 4)) ≤ length ss = rest_length top n ss k (p / 4) in omega (arith, a, b, d)

-- ---- the beginning

pub begin_with : (top n : ℕ) (few many : List Source) (tiles : ℕ → ℕ → List Source) (x : Source) → ((j q : ℕ) → tiles j q ≡ held top n few j q) → OneMore x few many →
    Sinking top n few many tiles 0 (x.npix / 4 ^ (top - 0)) x
begin_with top n few many tiles x t m =
    let p : ℕ = x.npix / 4 ^ (top - 0) in
    let u : is_under top 0 p x ≡ true = under_from top x.npix 0 (omega arith) in
    record {
      more = more_picked (is_under top 0 p) u m;
      done = λ j q f.
          let c : ℕ = q / 4 ^ (j - 0) in
          let v : lies_under j q 0 c ≡ true = under_from j q 0 (omega arith) in
          let n2 : is_under top 0 c x ≡ false = no_other top 0 p c x u (λ e. not_both (lies_under j q 0 p) (subst (λ r. lies_under j q 0 r ≡ true) e v) f) in
          t j q ∙ same_held top n few many 0 c j q v (more_left (is_under top 0 c) n2 m);
      todo = λ j q f. t j q;
    }

pub begin : (top n : ℕ) (few many : List Source) (tiles : List Tile) (x : Source) → AreTilesOf top n few tiles → OneMore x few many →
    Sinking top n few many (λ k p. rows_at tiles k p) 0 (x.npix / 4 ^ (top - 0)) x
begin top n few many tiles x t m = begin_with top n few many (λ k p. rows_at tiles k p) x t m

-- ---- one tile

pub held_ordered : (top n : ℕ) (ss : List Source) (k p : ℕ) → IsInOrder ss → IsInOrder (held top n ss k p)
held_ordered top n ss k p o =
    elim (ltb k top) as (λ b. IsInOrder (cond b (take n (rest_of top n ss k p)) (rest_of top n ss k p))) [
      | true ↦ taken_ordered n (rest_of top n ss k p) (rest_ordered top n ss o k p)
      | false ↦ rest_ordered top n ss o k p
    ]

pub held_length : (top n : ℕ) (ss : List Source) (k p : ℕ) → length (held top n ss k p) ≤ length ss
held_length top n ss k p =
    let a : length (take n (rest_of top n ss k p)) ≤ length (rest_of top n ss k p) = (taken_at_most n (rest_of top n ss k p)).1 in
    let b : length (rest_of top n ss k p) ≤ length ss = rest_length top n ss k p in
    elim (ltb k top) as (λ b. length (cond b (take n (rest_of top n ss k p)) (rest_of top n ss k p)) ≤ length ss) [ true ↦ omega (arith, a, b) | false ↦ b ]

pub here_is : (top n : ℕ) (few many : List Source) (tiles : ℕ → ℕ → List Source) (k p : ℕ) (x : Source) → Sinking top n few many tiles k p x → tiles k p ≡ held top n few k p
here_is top n few many tiles k p x s = s.todo k p (under_self k p)

pub first_ok : (top n : ℕ) (few many : List Source) (tiles : ℕ → ℕ → List Source) (k p : ℕ) (x x0 : Source) → Sinking top n few many tiles k p x → Differ top x0 few many →
    (y : Source) → HoldsAtFirst (λ s. is_better s y) (tiles k p)
first_ok top n few many tiles k p x x0 s d y =
    subst (λ ys. HoldsAtFirst (λ r. is_better r y) ys) (sym (here_is top n few many tiles k p x s)) (better_at_first y (held top n few k p) (held_ordered top n few k p (ordered_less d.more d.ordered)))

pub room_ok : (top n : ℕ) (few many : List Source) (tiles : ℕ → ℕ → List Source) (k p : ℕ) (x : Source) → k < top → Sinking top n few many tiles k p x → length (tiles k p) ≤ n
room_ok top n few many tiles k p x l s =
    let e : length (tiles k p) ≡ length (take n (rest_of top n few k p)) = ap length (here_is top n few many tiles k p x s ∙ held_above top n few k p l) in
    let h : length (take n (rest_of top n few k p)) ≤ n = (taken_at_most n (rest_of top n few k p)).0 in omega (arith, e, h)

pub short_ok : (top n : ℕ) (few many : List Source) (tiles : ℕ → ℕ → List Source) (k p : ℕ) (x y : Source) → Sinking top n few many tiles k p y → Differ top x few many →
    length (tiles k p) + 1 < 9223372036854775809
short_ok top n few many tiles k p x y s d =
    let e : length (tiles k p) ≡ length (held top n few k p) = ap length (here_is top n few many tiles k p y s) in
    let a : length (held top n few k p) ≤ length few = held_length top n few k p in
    let b : length many ≡ length few + 1 = more_length d.more in
    let h : length many < 9223372036854775808 = d.short in omega (arith, e, a, b, h)

rest_all : (P : Source → Type 0) (top n : ℕ) (ss : List Source) → All P ss → (k p : ℕ) → All P (rest_of top n ss k p)
rest_all P top n ss h zero p = picked_all P (is_under top 0 p) ss h
rest_all P top n ss h (suc k) p = picked_all P (is_under top (suc k) p) (drop n (rest_of top n ss k (p / 4))) (dropped_all P n (rest_of top n ss k (p / 4)) (rest_all P top n ss h k (p / 4)))

none_some : (z : Source) → None ≡ Some z → ⊥
none_some z e = absurd (grind (arith, e))

pub record Gone (top n : ℕ) (few many : List Source) (new : ℕ → ℕ → List Source) (k : ℕ) (z : Source) : Type 0 where
  pub sinking : Sinking top n few many new (suc k) (z.npix / 4 ^ (top - suc k)) z
  pub cell : IsCell top z.npix

-- what the tile has after the row was placed in it
now_has : (top n : ℕ) (few many : List Source) (old new : ℕ → ℕ → List Source) (k p : ℕ) (x y : Source) → k < top → Differ top y few many → Sinking top n few many old k p x →
    new k p ≡ take n (placed x (old k p)) → new k p ≡ take n (rest_of top n many k p)
now_has top n few many old new k p x y l d s e =
    e ∙ ap (λ ys. take n (placed x ys)) (here_is top n few many old k p x s ∙ held_above top n few k p l)
    ∙ step_held n (rest_of top n few k p) (rest_of top n many k p) (rest_ordered top n many d.ordered k p) s.more

went_out : (top n : ℕ) (few many : List Source) (old : ℕ → ℕ → List Source) (k p : ℕ) (x y : Source) → k < top → Differ top y few many → Sinking top n few many old k p x →
    Out n (rest_of top n few k p) (rest_of top n many k p) (slice_get (placed x (old k p)) n)
went_out top n few many old k p x y l d s =
    subst (λ ys. Out n (rest_of top n few k p) (rest_of top n many k p) (slice_get (placed x ys) n)) (sym (here_is top n few many old k p x s ∙ held_above top n few k p l))
    (step_out n (rest_of top n few k p) (rest_of top n many k p) (rest_ordered top n many d.ordered k p) s.more)

pub goes_on : (top n : ℕ) (few many : List Source) (old new : ℕ → ℕ → List Source) (k p : ℕ) (x y z : Source) → k < top → Differ top y few many → Sinking top n few many old k p x →
    new k p ≡ take n (placed x (old k p)) → SameBut k p old new → Some z ≡ slice_get (placed x (old k p)) n → Gone top n few many new k z
goes_on top n few many old new k p x y z l d s e o f = elim (went_out top n few many old k p x y l d s) [
  | none g h ↦ absurd (none_some z (sym g ∙ sym f))
  | some w g m ↦
      let same_z : w ≡ z = ap (λ q. unwrap_or q z) (sym g ∙ sym f) in
      let m2 : OneMore z (drop n (rest_of top n few k p)) (drop n (rest_of top n many k p)) = subst (λ v. OneMore v (drop n (rest_of top n few k p)) (drop n (rest_of top n many k p))) same_z m in
      record {
        sinking = sink top n few many old new k p (z.npix / 4 ^ (top - suc k)) x z l s (now_has top n few many old new k p x y l d s e) o m2 (under_from top z.npix (suc k) (omega (arith, l)));
        cell = more_has (λ r. IsCell top r.npix) m2 (dropped_all (λ r. IsCell top r.npix) n (rest_of top n many k p) (rest_all (λ r. IsCell top r.npix) top n many d.of_cells k p));
      }
]

pub ends : (top n : ℕ) (few many : List Source) (old new : ℕ → ℕ → List Source) (k p : ℕ) (x y : Source) → k < top → Differ top y few many → Sinking top n few many old k p x →
    new k p ≡ take n (placed x (old k p)) → SameBut k p old new → None ≡ slice_get (placed x (old k p)) n → (j q : ℕ) → new j q ≡ held top n many j q
ends top n few many old new k p x y l d s e o f = elim (went_out top n few many old k p x y l d s) [
  | none g h ↦ sunk top n few many old new k p x s (now_has top n few many old new k p x y l d s e ∙ sym (held_above top n many k p l)) o (λ c ec. child_same top n few many k p c ec h)
  | some w g m ↦ absurd (none_some w (f ∙ g))
]

-- ---- the deepest tile

nothing : (test : Source → Bool) (ss : List Source) → ((s : Source) → test s ≡ false) → filter test ss ≡ []
nothing test [] h = refl
nothing test (s ∷ ss) h = ap (λ b. cond b (s ∷ filter test ss) (filter test ss)) (h s) ∙ nothing test ss h

too_deep : (top c : ℕ) (s : Source) → is_under top (suc top) c s ≡ false
too_deep top c s = elim (either (is_under top (suc top) c s)) [
  | inl t ↦ let l : suc top ≤ top = (under_parts top s.npix (suc top) c t).0 in absurd (omega (arith, l))
  | inr f ↦ f
]

pub held_top : (top n : ℕ) (ss : List Source) (p : ℕ) → held top n ss top p ≡ rest_of top n ss top p
held_top top n ss p = elim (either (ltb top top)) [
  | inl t ↦ let l : top < top = ltb-true top top t in absurd (omega (arith, l))
  | inr f ↦ ap (λ b. cond b (take n (rest_of top n ss top p)) (rest_of top n ss top p)) f
]

pub no_deeper : (top n : ℕ) (few many : List Source) (c : ℕ) → rest_of top n few (suc top) c ≡ rest_of top n many (suc top) c
no_deeper top n few many c =
    nothing (is_under top (suc top) c) (drop n (rest_of top n few top (c / 4))) (too_deep top c)
    ∙ sym (nothing (is_under top (suc top) c) (drop n (rest_of top n many top (c / 4))) (too_deep top c))

pub ends_at_top : (top n m : ℕ) (few many : List Source) (old new : ℕ → ℕ → List Source) (p : ℕ) (x y : Source) → Differ top y few many → Sinking top n few many old top p x →
    9223372036854775808 ≤ m → new top p ≡ take m (placed x (old top p)) → SameBut top p old new → (j q : ℕ) → new j q ≡ held top n many j q
ends_at_top top n m few many old new p x y d s big e o =
    let r : placed x (old top p) ≡ rest_of top n many top p =
    ap (placed x) (here_is top n few many old top p x s ∙ held_top top n few p) ∙ placed_is (rest_ordered top n many d.ordered top p) s.more in
    let a : length (rest_of top n many top p) ≤ length many = rest_length top n many top p in
    let b : length many < 9223372036854775808 = d.short in
    let whole : take m (rest_of top n many top p) ≡ rest_of top n many top p = take_all m (rest_of top n many top p) (omega (arith, a, b, big)) in
    sunk top n few many old new top p x s (e ∙ ap (take m) r ∙ whole ∙ sym (held_top top n many p)) o (λ c ec. no_deeper top n few many c)

-- ---- the loop

pub record SinkState (initial tiles : List Tile) (x0 x : Source) (top room order : ℕ) (spare : Option Tile) : Type 0 where
  pub listed : AreListed tiles
  pub spare_left : IsSome spare
  pub full : NoneIsEmpty initial → NoneIsEmpty tiles
  pub cell : IsCell top x.npix
  pub sinking : (few many : List Source) → AreTilesOf top room few initial → Differ top x0 few many →
      Sinking top room few many (λ k p. rows_at tiles k p) order (x.npix / 4 ^ (top - order)) x

-- the cell of the row, by its order and number
pub at_cell : (top n : ℕ) (few many : List Source) (tiles : ℕ → ℕ → List Source) (k p k2 p2 : ℕ) (x : Source) → k2 ≡ k → p2 ≡ p → Sinking top n few many tiles k p x → Sinking top n few many tiles k2 p2 x
at_cell top n few many tiles k p k2 p2 x e f s =
    subst (λ i. Sinking top n few many tiles i p2 x) (sym e) (subst (λ r. Sinking top n few many tiles k r x) (sym f) s)

pub ends_deepest : (top n m : ℕ) (few many : List Source) (old new : ℕ → ℕ → List Source) (k p : ℕ) (x y : Source) → k ≡ top → Differ top y few many → 9223372036854775808 ≤ m →
    Sinking top n few many old k p x → new k p ≡ take m (placed x (old k p)) → SameBut k p old new → (j q : ℕ) → new j q ≡ held top n many j q
ends_deepest top n m few many old new k p x y e d big =
    let F : ℕ → Type 0 = λ i. Sinking top n few many old i p x → new i p ≡ take m (placed x (old i p)) → SameBut i p old new → (j q : ℕ) → new j q ≡ held top n many j q in
    subst F (sym e) (λ s r o. ends_at_top top n m few many old new p x y d s big r o)

pub next_order : (top n : ℕ) (few many : List Source) (tiles : ℕ → ℕ → List Source) (k i : ℕ) (z : Source) → i ≡ suc k → Sinking top n few many tiles (suc k) (z.npix / 4 ^ (top - suc k)) z →
    Sinking top n few many tiles i (z.npix / 4 ^ (top - i)) z
next_order top n few many tiles k i z e s = subst (λ (m : ℕ). Sinking top n few many tiles m (z.npix / 4 ^ (top - m)) z) (sym e) s
