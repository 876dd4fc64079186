-- How a source more changes the tiles, from the top downward.
use Rattle.std.proofs.Common.{◌≡◌, ◌≢◌, ℕ, zero, suc, ◌+◌, ◌-◌, ◌/◌, ◌^◌, ◌≤◌, ◌<◌, true, false, cond, eqb, leb, ltb, List, take, drop, refl, sym, ap, ◌∙◌, subst, arith, inl, inr}
use Rattle.std.proofs.Math.Nat.{div-div-eq-div-mul, pow-succ'}
use Rattle.std.proofs.lemmas.Bool.{and_parts, leb-true, le-leb, eqb-true, eq-eqb, lt-ltb, cases_eq}
use Rattle.std.specs.List.{AllByRecursion as All, filter}
use Rattle.healpix_nested.specs.Cells.{lies_under}
use Rattle.healpix_nested.specs.CellLaws.{under_self, under_trans, under_one, under_parent}
use Rattle.hips_catalog.specs.Rows.{Source}
use Rattle.hips_catalog.specs.Held.{is_under, rest_of, held}
use Rattle.hips_catalog.proofs.Order.{either, not_both, IsInOrder}
use Rattle.hips_catalog.proofs.OneMore.{OneMore, more_has, more_picked, more_left}
use Rattle.hips_catalog.proofs.Steps.{picked_meet, picked_ordered, dropped_ordered, dropped_all}

-- ---- cells

pub under_parts : (j q k p : ℕ) → lies_under j q k p ≡ true → (k ≤ j) × (q / 4 ^ (j - k) ≡ p)
under_parts j q k p h = let a = and_parts (leb k j) (eqb (q / 4 ^ (j - k)) p) h in (leb-true k j a.0, eqb-true (q / 4 ^ (j - k)) p a.1)

pub under_from : (j q k : ℕ) → k ≤ j → lies_under j q k (q / 4 ^ (j - k)) ≡ true
under_from j q k h = let a : leb k j ≡ true = le-leb k j h in let b : eqb (q / 4 ^ (j - k)) (q / 4 ^ (j - k)) ≡ true = eq-eqb (q / 4 ^ (j - k)) (q / 4 ^ (j - k)) refl in rw (a, b) refl

-- a cell of the next order lies under the one above it
pub above_child : (k c : ℕ) → lies_under (suc k) c k (c / 4) ≡ true
above_child k c = let e : suc k ≡ k + 1 = omega arith in subst (λ m. lies_under m c k (c / 4) ≡ true) (sym e) (under_parent k c)

-- what lies under a cell of the next order lies under the one above it
pub up : (j q k c : ℕ) → lies_under j q (suc k) c ≡ true → lies_under j q k (c / 4) ≡ true
up j q k c h = under_trans j q (suc k) c k (c / 4) h (above_child k c)

-- a cell seen from a cell
pub data Where (k p j q : ℕ) : Type 0 where
  outside : lies_under j q k p ≡ false → Where k p j q
  itself : j ≡ k → q ≡ p → Where k p j q
  under_child : (c : ℕ) → c / 4 ≡ p → lies_under j q (suc k) c ≡ true → suc k ≤ j → Where k p j q

level : (j q k p : ℕ) → (k ≤ j) × (q / 4 ^ (j - k) ≡ p) → j ≡ k → q ≡ p
level j q k p h e =
    let z : j - k ≡ 0 = omega (arith, e) in
    let d : q / 4 ^ (j - k) ≡ q / 4 ^ 0 = ap (λ (m : ℕ). q / 4 ^ m) z in
    let one : q / 4 ^ 0 ≡ q = omega arith in
    sym one ∙ sym d ∙ h.1

pub where_is : (k p j q : ℕ) → Where k p j q
where_is k p j q = elim (either (lies_under j q k p)) [
  | inr f ↦ outside f
  | inl t ↦ elim (cases_eq j k) [
    | inl e ↦ itself e (level j q k p (under_parts j q k p t) e)
    | inr n ↦
        let parts = under_parts j q k p t in
        let l : k ≤ j = parts.0 in
        let more : suc k ≤ j = omega (arith, l, n) in
        let u : lies_under j q (suc k) (q / 4 ^ (j - suc k)) ≡ true = under_from j q (suc k) more in
        under_child (q / 4 ^ (j - suc k)) (under_one j q k (q / 4 ^ (j - suc k) / 4) p (up j q k (q / 4 ^ (j - suc k)) u) t) u more
  ]
]

-- ---- the same rest, the same tiles below

same_rest : (top n : ℕ) (a b : List Source) (k c : ℕ) → rest_of top n a k c ≡ rest_of top n b k c →
    (d j q : ℕ) → j ≡ k + d → q / 4 ^ d ≡ c → rest_of top n a j q ≡ rest_of top n b j q
same_rest top n a b k c h zero j q ej eq =
    let e : j ≡ k = omega (arith, ej) in
    let one : q / 4 ^ 0 ≡ q = omega arith in
    let f : q ≡ c = sym one ∙ eq in
    subst (λ i. rest_of top n a i q ≡ rest_of top n b i q) (sym e) (subst (λ r. rest_of top n a k r ≡ rest_of top n b k r) (sym f) h)
same_rest top n a b k c h (suc d) zero q ej eq = absurd (omega (arith, ej))
same_rest top n a b k c h (suc d) (suc i) q ej eq =
    let up : q / 4 / 4 ^ d ≡ c = div-div-eq-div-mul q 4 (4 ^ d) ∙ ap (λ (m : ℕ). q / m) (sym (pow-succ' 4 d)) ∙ eq in
    ap (λ ys. filter (is_under top (suc i) q) (drop n ys)) (same_rest top n a b k c h d i (q / 4) (omega (arith, ej)) up)

pub same_held : (top n : ℕ) (a b : List Source) (k c j q : ℕ) → lies_under j q k c ≡ true → rest_of top n a k c ≡ rest_of top n b k c → held top n a j q ≡ held top n b j q
same_held top n a b k c j q u h =
    let parts = under_parts j q k c u in
    let l : k ≤ j = parts.0 in
    ap (λ ys. cond (ltb j top) (take n ys) ys) (same_rest top n a b k c h (j - k) j q (omega (arith, l)) parts.1)

pub held_above : (top n : ℕ) (ss : List Source) (k p : ℕ) → k < top → held top n ss k p ≡ take n (rest_of top n ss k p)
held_above top n ss k p h = ap (λ b. cond b (take n (rest_of top n ss k p)) (rest_of top n ss k p)) (lt-ltb k top h)

-- ---- a child of a tile

child_rest : (top n : ℕ) (ss : List Source) (k p c : ℕ) → c / 4 ≡ p → rest_of top n ss (suc k) c ≡ filter (is_under top (suc k) c) (drop n (rest_of top n ss k p))
child_rest top n ss k p c e = ap (λ r. filter (is_under top (suc k) c) (drop n (rest_of top n ss k r))) e

pub child_same : (top n : ℕ) (a b : List Source) (k p c : ℕ) → c / 4 ≡ p → drop n (rest_of top n a k p) ≡ drop n (rest_of top n b k p) →
    rest_of top n a (suc k) c ≡ rest_of top n b (suc k) c
child_same top n a b k p c e h =
    child_rest top n a k p c e ∙ ap (filter (is_under top (suc k) c)) h ∙ sym (child_rest top n b k p c e)

pub child_more : (top n : ℕ) (a b : List Source) (k p c : ℕ) (z : Source) → c / 4 ≡ p → is_under top (suc k) c z ≡ true →
    OneMore z (drop n (rest_of top n a k p)) (drop n (rest_of top n b k p)) → OneMore z (rest_of top n a (suc k) c) (rest_of top n b (suc k) c)
child_more top n a b k p c z e t h =
    subst (λ ys. OneMore z ys (rest_of top n b (suc k) c)) (sym (child_rest top n a k p c e)) (subst (λ ys. OneMore z (filter (is_under top (suc k) c) (drop n (rest_of top n a k p))) ys) (sym (child_rest top n b k p c e)) (more_picked (is_under top (suc k) c) t h))

pub child_left : (top n : ℕ) (a b : List Source) (k p c : ℕ) (z : Source) → c / 4 ≡ p → is_under top (suc k) c z ≡ false →
    OneMore z (drop n (rest_of top n a k p)) (drop n (rest_of top n b k p)) → rest_of top n a (suc k) c ≡ rest_of top n b (suc k) c
child_left top n a b k p c z e f h =
    child_rest top n a k p c e ∙ more_left (is_under top (suc k) c) f h ∙ sym (child_rest top n b k p c e)

-- all sources that are left for a tile lie under its cell
pub rest_under : (top n : ℕ) (ss : List Source) (k p : ℕ) → All (λ s. is_under top k p s ≡ true) (rest_of top n ss k p)
rest_under top n ss zero p = picked_meet (is_under top 0 p) ss
rest_under top n ss (suc k) p = picked_meet (is_under top (suc k) p) (drop n (rest_of top n ss k (p / 4)))

pub rest_ordered : (top n : ℕ) (ss : List Source) → IsInOrder ss → (k p : ℕ) → IsInOrder (rest_of top n ss k p)
rest_ordered top n ss o zero p = picked_ordered (is_under top 0 p) ss o
rest_ordered top n ss o (suc k) p =
    picked_ordered (is_under top (suc k) p) (drop n (rest_of top n ss k (p / 4))) (dropped_ordered n (rest_of top n ss k (p / 4)) (rest_ordered top n ss o k (p / 4)))

-- the source that goes on lies under the tile
pub goes_under : (top n : ℕ) (few : List Source) (ss : List Source) (k p : ℕ) (z : Source) → OneMore z few (drop n (rest_of top n ss k p)) → is_under top k p z ≡ true
goes_under top n few ss k p z h = more_has (λ s. is_under top k p s ≡ true) h (dropped_all (λ s. is_under top k p s ≡ true) n (rest_of top n ss k p) (rest_under top n ss k p))

-- its cell of the next order is a child of the tile's
pub child_of : (top k p c : ℕ) (z : Source) → is_under top k p z ≡ true → is_under top (suc k) c z ≡ true → c / 4 ≡ p
child_of top k p c z u v = under_one top z.npix k (c / 4) p (up top z.npix k c v) u

-- it lies under no other child
pub no_other : (top k c d : ℕ) (z : Source) → is_under top k c z ≡ true → d ≢ c → is_under top k d z ≡ false
no_other top k c d z u n = elim (either (is_under top k d z)) [
  | inl t ↦ absurd (n (under_one top z.npix k d c t u))
  | inr f ↦ f
]

-- ---- a source that goes down

-- the tiles not under cell p of order k are those of many, and the others those of few, whose rest for that cell lacks x
pub record Sinking (top n : ℕ) (few many : List Source) (tiles : ℕ → ℕ → List Source) (k p : ℕ) (x : Source) : Type 0 where
  pub more : OneMore x (rest_of top n few k p) (rest_of top n many k p)
  pub done : (j q : ℕ) → lies_under j q k p ≡ false → tiles j q ≡ held top n many j q
  pub todo : (j q : ℕ) → lies_under j q k p ≡ true → tiles j q ≡ held top n few j q

-- the two are the same but for one tile
abbrev pub SameBut : ℕ → ℕ → (ℕ → ℕ → List Source) → (ℕ → ℕ → List Source) → Type 0
SameBut k p old new = (j q : ℕ) → ¬ ((j ≡ k) × (q ≡ p)) → new j q ≡ old j q

pub not_itself : (j q k p : ℕ) → lies_under j q k p ≡ false → ¬ ((j ≡ k) × (q ≡ p))
not_itself j q k p f h =
    not_both (lies_under k p k p) (under_self k p) (subst (λ i. lies_under i p k p ≡ false) h.0 (subst (λ r. lies_under j r k p ≡ false) h.1 f))

pub deeper : (j q k p : ℕ) → suc k ≤ j → ¬ ((j ≡ k) × (q ≡ p))
deeper j q k p l h = let e : j ≡ k = h.0 in absurd (omega (arith, l, e))

pub under_deeper : (j q k c : ℕ) → lies_under j q (suc k) c ≡ true → suc k ≤ j
under_deeper j q k c h = (under_parts j q (suc k) c h).0

pub under_as : (j q k c p : ℕ) → c / 4 ≡ p → lies_under j q (suc k) c ≡ true → lies_under j q k p ≡ true
under_as j q k c p e h = subst (λ r. lies_under j q k r ≡ true) e (up j q k c h)

-- the children of a tile that x doesn't go to are the same for both
pub others_same : (top n : ℕ) (few many : List Source) (k p c d j q : ℕ) (z : Source) → d / 4 ≡ p → lies_under j q (suc k) d ≡ true →
    is_under top (suc k) c z ≡ true → lies_under j q (suc k) c ≡ false →
    OneMore z (drop n (rest_of top n few k p)) (drop n (rest_of top n many k p)) → held top n few j q ≡ held top n many j q
others_same top n few many k p c d j q z e u v f m =
    same_held top n few many (suc k) d j q u (child_left top n few many k p d z e (no_other top (suc k) c d z v (λ i. not_both (lies_under j q (suc k) c) (subst (λ r. lies_under j q (suc k) r ≡ true) i u) f)) m)

pub sink : (top n : ℕ) (few many : List Source) (old new : ℕ → ℕ → List Source) (k p c : ℕ) (x z : Source) → k < top →
    Sinking top n few many old k p x → new k p ≡ take n (rest_of top n many k p) → SameBut k p old new →
    OneMore z (drop n (rest_of top n few k p)) (drop n (rest_of top n many k p)) → is_under top (suc k) c z ≡ true →
    Sinking top n few many new (suc k) c z
sink top n few many old new k p c x z l s at same m v =
    let e : c / 4 ≡ p = child_of top k p c z (goes_under top n (drop n (rest_of top n few k p)) many k p z m) v in
    record {
      more = child_more top n few many k p c z e v m;
      done = λ j q f. elim (where_is k p j q) [
        | outside g ↦ same j q (not_itself j q k p g) ∙ s.done j q g
        | itself a b ↦ subst (λ i. new i q ≡ held top n many i q) (sym a) (subst (λ r. new k r ≡ held top n many k r) (sym b) (at ∙ sym (held_above top n many k p l)))
        | under_child d ed u deep ↦ same j q (deeper j q k p deep) ∙ s.todo j q (under_as j q k d p ed u) ∙ others_same top n few many k p c d j q z ed u v f m
      ];
      todo = λ j q t. same j q (deeper j q k p (under_deeper j q k c t)) ∙ s.todo j q (under_as j q k c p e t);
    }

-- nothing goes on
pub sunk : (top n : ℕ) (few many : List Source) (old new : ℕ → ℕ → List Source) (k p : ℕ) (x : Source) →
    Sinking top n few many old k p x → new k p ≡ held top n many k p → SameBut k p old new →
    ((c : ℕ) → c / 4 ≡ p → rest_of top n few (suc k) c ≡ rest_of top n many (suc k) c) → (j q : ℕ) → new j q ≡ held top n many j q
sunk top n few many old new k p x s at same below j q = elim (where_is k p j q) [
  | outside g ↦ same j q (not_itself j q k p g) ∙ s.done j q g
  | itself a b ↦ subst (λ i. new i q ≡ held top n many i q) (sym a) (subst (λ r. new k r ≡ held top n many k r) (sym b) at)
  | under_child d ed u deep ↦ same j q (deeper j q k p deep) ∙ s.todo j q (under_as j q k d p ed u) ∙ same_held top n few many (suc k) d j q u (below d ed)
]
