-- Each row stands in exactly one tile.
use Rattle.std.proofs.Common.{◌≡◌, ℕ, zero, suc, ◌+◌, ◌-◌, ◌/◌, ◌^◌, ◌≤◌, ◌<◌, Bool, true, false, cond, ltb, List, [], ◌∷◌, take, drop, refl, sym, ap, ◌∙◌, subst, arith, ◌⊎◌, inl, inr}
use Rattle.std.proofs.lemmas.Bool.{ltb-true, ltb-false}
use Rattle.std.specs.List.{AllByRecursion as All, filter}
use Rattle.healpix_nested.specs.CellLaws.{under_one}
use Rattle.hips_catalog.specs.Rows.{Source, is_better, placed, in_order}
use Rattle.hips_catalog.specs.Held.{is_under, rest_of, held}
use Rattle.hips_catalog.specs.More.{IsInOrder}
use Rattle.hips_catalog.specs.Catalogue.{Catalogue, tile_rows}
use Rattle.hips_catalog.specs.Laws.{IsAmong, EachRowStandsInOneTile, TilesHoldRowsInOrder}
use Rattle.hips_catalog.proofs.Order.{either, not_both, not_itself, all_map, in_order_all, in_order_ordered}
use Rattle.hips_catalog.proofs.Steps.{dropped_all}
use Rattle.hips_catalog.proofs.Descent.{under_from, under_parts, up, held_above, rest_ordered}
use Rattle.hips_catalog.proofs.Sunk.{held_top, held_ordered}
use Rattle.hips_catalog.proofs.Ids.{distinct}
use Rattle.hips_catalog.proofs.Existing.{held_under}

-- ---- which lists have a source

pub among_all : (P : Source → Type 0) (ss : List Source) (s : Source) → IsAmong s ss → All P ss → P s
among_all P [] s m h = absurd m
among_all P (r ∷ rs) s m h = elim m [ inl e ↦ subst P (sym e) h.0 | inr n ↦ among_all P rs s n h.1 ]

all_among : (ss : List Source) → All (λ r. IsAmong r ss) ss
all_among [] = tt
all_among (r ∷ rs) = (inl refl, all_map (λ q. IsAmong q rs) (λ q. IsAmong q (r ∷ rs)) (λ q m. inr m) rs (all_among rs))

placed_among : (s x : Source) (ss : List Source) → (s ≡ x) ⊎ IsAmong s ss → IsAmong s (placed x ss)
placed_among s x [] m = m
placed_among s x (r ∷ rs) m =
    elim (is_better r x) as (λ b. IsAmong s (cond b (r ∷ placed x rs) (x ∷ r ∷ rs))) [
      | true ↦ elim m [
        | inl e ↦ inr (placed_among s x rs (inl e))
        | inr n ↦ elim n [ inl e ↦ inl e | inr l ↦ inr (placed_among s x rs (inr l)) ]
      ]
      | false ↦ m
    ]

ordered_among : (s : Source) (ss : List Source) → IsAmong s ss → IsAmong s (in_order ss)
ordered_among s [] m = m
ordered_among s (r ∷ rs) m = placed_among s r (in_order rs) (elim m [ inl e ↦ inl e | inr n ↦ inr (ordered_among s rs n) ])

picked_among : (test : Source → Bool) (s : Source) (ss : List Source) → test s ≡ true → IsAmong s ss → IsAmong s (filter test ss)
picked_among test s [] t m = m
picked_among test s (r ∷ rs) t m = elim m [
  | inl e ↦ subst (λ b. IsAmong s (cond b (r ∷ filter test rs) (filter test rs))) (sym (subst (λ q. test q ≡ true) e t)) (inl e)
  | inr n ↦ let l : IsAmong s (filter test rs) = picked_among test s rs t n in elim (test r) as (λ b. IsAmong s (cond b (r ∷ filter test rs) (filter test rs))) [ true ↦ inr l | false ↦ l ]
]

among_picked : (test : Source → Bool) (s : Source) (ss : List Source) → IsAmong s (filter test ss) → IsAmong s ss
among_picked test s [] m = m
among_picked test s (r ∷ rs) m = elim (either (test r)) [
  | inl t ↦ elim (subst (λ b. IsAmong s (cond b (r ∷ filter test rs) (filter test rs))) t m) [ inl e ↦ inl e | inr n ↦ inr (among_picked test s rs n) ]
  | inr f ↦ inr (among_picked test s rs (subst (λ b. IsAmong s (cond b (r ∷ filter test rs) (filter test rs))) f m))
]

among_dropped : (s : Source) (n : ℕ) (ss : List Source) → IsAmong s (drop n ss) → IsAmong s ss
among_dropped s zero ss m = m
among_dropped s (suc n) [] m = m
among_dropped s (suc n) (r ∷ rs) m = inr (among_dropped s n rs m)

among_taken : (s : Source) (n : ℕ) (ss : List Source) → IsAmong s (take n ss) → IsAmong s ss
among_taken s zero ss m = absurd m
among_taken s (suc n) [] m = m
among_taken s (suc n) (r ∷ rs) m = elim m [ inl e ↦ inl e | inr l ↦ inr (among_taken s n rs l) ]

cut_among : (s : Source) (n : ℕ) (ss : List Source) → IsAmong s ss → IsAmong s (take n ss) ⊎ IsAmong s (drop n ss)
cut_among s zero ss m = inr m
cut_among s (suc n) [] m = inr m
cut_among s (suc n) (r ∷ rs) m = elim m [
  | inl e ↦ inl (inl e)
  | inr l ↦ elim (cut_among s n rs l) [ inl a ↦ inl (inr a) | inr b ↦ inr b ]
]

-- of sources in order each of the first n is better than each after them
pub better_first : (r s : Source) (n : ℕ) (ss : List Source) → IsInOrder ss → IsAmong r (take n ss) → IsAmong s (drop n ss) → is_better r s ≡ true
better_first r s zero ss o a b = absurd a
better_first r s (suc n) [] o a b = absurd a
better_first r s (suc n) (q ∷ qs) o a b = elim a [
  | inl e ↦ subst (λ t. is_better t s ≡ true) (sym e) (among_all (λ t. is_better q t ≡ true) (drop n qs) s b (dropped_all (λ t. is_better q t ≡ true) n qs o.0))
  | inr l ↦ better_first r s n qs o.1 l b
]

on_one_side : (s : Source) (n : ℕ) (ss : List Source) → IsInOrder ss → IsAmong s (take n ss) → IsAmong s (drop n ss) → ⊥
on_one_side s n ss o a b = not_both (is_better s s) (better_first s s n ss o a b) (not_itself s)

-- ---- the path of a source

abbrev pub path : ℕ → Source → ℕ → ℕ
path top s k = s.npix / 4 ^ (top - k)

path_up : (top k : ℕ) (s : Source) → suc k ≤ top → path top s (suc k) / 4 ≡ path top s k
path_up top k s h =
    under_one top s.npix k (path top s (suc k) / 4) (path top s k) (up top s.npix k (path top s (suc k)) (under_from top s.npix (suc k) h)) (under_from top s.npix k (omega (arith, h)))

go_down : (top n : ℕ) (ss : List Source) (s : Source) (k : ℕ) → suc k ≤ top → IsAmong s (drop n (rest_of top n ss k (path top s k))) → IsAmong s (rest_of top n ss (suc k) (path top s (suc k)))
go_down top n ss s k h m =
    picked_among (is_under top (suc k) (path top s (suc k))) s (drop n (rest_of top n ss k (path top s (suc k) / 4))) (under_from top s.npix (suc k) h)
    (subst (λ (p : ℕ). IsAmong s (drop n (rest_of top n ss k p))) (sym (path_up top k s h)) m)

go_up : (top n : ℕ) (ss : List Source) (s : Source) (k : ℕ) → suc k ≤ top → IsAmong s (rest_of top n ss (suc k) (path top s (suc k))) → IsAmong s (drop n (rest_of top n ss k (path top s k)))
go_up top n ss s k h m =
    subst (λ (p : ℕ). IsAmong s (drop n (rest_of top n ss k p))) (path_up top k s h)
    (among_picked (is_under top (suc k) (path top s (suc k))) s (drop n (rest_of top n ss k (path top s (suc k) / 4))) m)

-- ---- the tile that has it

pub data Found (top n : ℕ) (ss : List Source) (s : Source) : Type 0 where
  found : (k : ℕ) → k ≤ top → IsAmong s (held top n ss k (path top s k)) → Found top n ss s

seek : (top n : ℕ) (ss : List Source) (s : Source) (d k : ℕ) → top ≡ k + d → IsAmong s (rest_of top n ss k (path top s k)) → Found top n ss s
seek top n ss s zero k e m =
    let ek : top ≡ k = omega (arith, e) in
    let at_top : IsAmong s (rest_of top n ss top (path top s top)) = subst (λ (i : ℕ). IsAmong s (rest_of top n ss i (path top s i))) (sym ek) m in
    found top (omega arith) (subst (λ rs. IsAmong s rs) (sym (held_top top n ss (path top s top))) at_top)
seek top n ss s (suc d) k e m =
    let l : k < top = omega (arith, e) in
    elim (cut_among s n (rest_of top n ss k (path top s k)) m) [
      | inl a ↦ found k (omega (arith, l)) (subst (λ rs. IsAmong s rs) (sym (held_above top n ss k (path top s k) l)) a)
      | inr b ↦ seek top n ss s d (suc k) (omega (arith, e)) (go_down top n ss s k (omega (arith, l)) b)
    ]

begins : (top n : ℕ) (ss : List Source) (s : Source) → IsAmong s ss → Found top n ss s
begins top n ss s m = seek top n ss s top 0 (omega arith) (picked_among (is_under top 0 (path top s 0)) s ss (under_from top s.npix 0 (omega arith)) m)

-- ---- no other tile has it

pub among_held : (top n : ℕ) (ss : List Source) (s : Source) (k p : ℕ) → IsAmong s (held top n ss k p) → IsAmong s (rest_of top n ss k p)
among_held top n ss s k p m = elim (either (ltb k top)) [
  | inl t ↦ among_taken s n (rest_of top n ss k p) (subst (λ b. IsAmong s (cond b (take n (rest_of top n ss k p)) (rest_of top n ss k p))) t m)
  | inr f ↦ subst (λ b. IsAmong s (cond b (take n (rest_of top n ss k p)) (rest_of top n ss k p))) f m
]

-- what is left for a tile was left over by each tile above it
pub was_left : (top n : ℕ) (ss : List Source) (s : Source) (d j k : ℕ) → k ≡ suc j + d → k ≤ top → IsAmong s (rest_of top n ss k (path top s k)) → IsAmong s (drop n (rest_of top n ss j (path top s j)))
was_left top n ss s zero j k e h m =
    let ek : k ≡ suc j = omega (arith, e) in
    go_up top n ss s j (omega (arith, ek, h)) (subst (λ (i : ℕ). IsAmong s (rest_of top n ss i (path top s i))) ek m)
was_left top n ss s (suc d) j k e h m =
    let ek : k ≡ suc (suc j + d) = omega (arith, e) in
    was_left top n ss s d j (suc j + d) refl (omega (arith, ek, h))
    (among_dropped s n (rest_of top n ss (suc j + d) (path top s (suc j + d))) (go_up top n ss s (suc j + d) (omega (arith, ek, h)) (subst (λ (i : ℕ). IsAmong s (rest_of top n ss i (path top s i))) ek m)))

not_below : (top n : ℕ) (ss : List Source) (s : Source) (j k : ℕ) → IsInOrder ss → j < k → k ≤ top → IsAmong s (held top n ss j (path top s j)) → IsAmong s (held top n ss k (path top s k)) → ⊥
not_below top n ss s j k o l h a b =
    on_one_side s n (rest_of top n ss j (path top s j)) (rest_ordered top n ss o j (path top s j))
    (subst (λ rs. IsAmong s rs) (held_above top n ss j (path top s j) (omega (arith, l, h))) a)
    (was_left top n ss s (k - suc j) j k (omega (arith, l)) h (among_held top n ss s k (path top s k) b))

same_order : (top n : ℕ) (ss : List Source) (s : Source) (j k : ℕ) → IsInOrder ss → j ≤ top → k ≤ top → IsAmong s (held top n ss j (path top s j)) → IsAmong s (held top n ss k (path top s k)) → j ≡ k
same_order top n ss s j k o hj hk a b = elim (either (ltb j k)) [
  | inl t ↦ absurd (not_below top n ss s j k o (ltb-true j k t) hk a b)
  | inr f ↦ elim (either (ltb k j)) [
    | inl t ↦ absurd (not_below top n ss s k j o (ltb-true k j t) hj b a)
    | inr g ↦ let l : k ≤ j = ltb-false j k f in let m : j ≤ k = ltb-false k j g in omega (arith, l, m)
  ]
]

no_other : (top n : ℕ) (ss : List Source) (s : Source) (k j q : ℕ) → IsInOrder ss → k ≤ top → IsAmong s (held top n ss k (path top s k)) → IsAmong s (held top n ss j q) → (j ≡ k) × (q ≡ path top s k)
no_other top n ss s k j q o h there m =
    let parts = under_parts top s.npix j q (among_all (λ r. is_under top j q r ≡ true) (held top n ss j q) s m (held_under top n ss j q)) in
    let on_path : IsAmong s (held top n ss j (path top s j)) = subst (λ (p : ℕ). IsAmong s (held top n ss j p)) (sym parts.1) m in
    let e : j ≡ k = same_order top n ss s j k o parts.0 h on_path there in
    (e, sym parts.1 ∙ ap (path top s) e)

-- ---- the laws

pub one_tile : EachRowStandsInOneTile
one_tile c a s m =
    let o : IsInOrder (in_order c.rows) = in_order_ordered c.rows (distinct c.rows a) in
    elim (begins c.top c.per_tile (in_order c.rows) s (ordered_among s c.rows m)) [
      | found k h t ↦ record {
        order = k;
        known = h;
        there = t;
        nowhere_else = λ j q g. no_other c.top c.per_tile (in_order c.rows) s k j q o h t g;
      }
    ]

among_rest : (top n : ℕ) (ss : List Source) (s : Source) (k p : ℕ) → IsAmong s (rest_of top n ss k p) → IsAmong s ss
among_rest top n ss s zero p m = among_picked (is_under top 0 p) s ss m
among_rest top n ss s (suc k) p m =
    among_rest top n ss s k (p / 4) (among_dropped s n (rest_of top n ss k (p / 4)) (among_picked (is_under top (suc k) p) s (drop n (rest_of top n ss k (p / 4))) m))

-- what holds of all sources of the catalogue holds of those of a tile
pub tile_all : (P : Source → Type 0) (c : Catalogue) (k p : ℕ) (s : Source) → All P c.rows → IsAmong s (tile_rows c k p) → P s
tile_all P c k p s h m =
    among_all P (in_order c.rows) s (among_rest c.top c.per_tile (in_order c.rows) s k p (among_held c.top c.per_tile (in_order c.rows) s k p m)) (in_order_all P c.rows h)

pub rows_in_order : TilesHoldRowsInOrder
rows_in_order c a k p = record {
  rows = λ s m. tile_all (λ r. IsAmong r c.rows) c k p s (all_among c.rows) m;
  in_order = held_ordered c.top c.per_tile (in_order c.rows) k p (in_order_ordered c.rows (distinct c.rows a));
}
