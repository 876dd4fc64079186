-- Where a source is found among the tiles, and what is left as it rises out of them.
use Rattle.std.proofs.Common.{◌≡◌, ℕ, zero, suc, ◌+◌, ◌-◌, ◌*◌, ◌/◌, ◌^◌, ◌≤◌, ◌<◌, true, false, List, [], ◌∷◌, ◌++◌, length, take, drop, refl, sym, ap, ◌∙◌, subst, arith, ◌⊎◌, inl, inr}
use Rattle.std.proofs.lemmas.Bool.{cases_eq}
use Rattle.std.proofs.lemmas.List.{take_all, drop_all, length-drop}
use Rattle.std.specs.Prelude.{slice_get, Option, Some, None, IfSome}
use Rattle.std.specs.List.{AllByRecursion as All, remove}
use Rattle.balanced_list.specs.Search.{leading, HoldsAtFirst}
use Rattle.healpix_nested.specs.Cells.{NestedCell}
use Rattle.hips_catalog.specs.Rows.{Source, is_better}
use Rattle.hips_catalog.specs.Held.{is_under, rest_of, held}
use Rattle.hips_catalog.specs.Parts.{AreTilesOf, Differ}
use Rattle.hips_catalog.specs.Tiles.{rows_at, AreListed, NoneIsEmpty, IsBest, IsOneOf, child_cell}
use Rattle.hips_catalog.specs.declared.tile.Tile.{Tile}
use Rattle.hips_catalog.proofs.Order.{IsInOrder, not_both}
use Rattle.hips_catalog.proofs.OneMore.{OneMore, here, later, removed_more, more_length, more_has, beyond, fits, pushes, cut}
use Rattle.hips_catalog.proofs.Places.{same, same_few, found_there, better_at_first}
use Rattle.hips_catalog.proofs.Steps.{dropped_all, taken_ordered}
use Rattle.hips_catalog.proofs.Descent.{Sinking, sink, SameBut, under_from, held_above, rest_ordered, rest_under, deeper, child_same, under_parts}
use Rattle.hips_catalog.proofs.Ascent.{Rising, SameButTwo, Begins, best_below, none_below, rise, risen, not_refilled, same_less, child_below, first_in, held_first}
use Rattle.std.proofs.lemmas.Option.{slice_get_within, get_or_from_slice_get}
use Rattle.hips_catalog.proofs.Sunk.{held_top, held_ordered, held_length, no_deeper}

-- the item is in the list, or stands at its end
pub data SplitEnd {T : Type 0} (x z : T) (few ts : List T) : Type 0 where
  inside : (fs : List T) → OneMore x fs ts → SplitEnd x z few ts
  at_end : x ≡ z → few ≡ ts → SplitEnd x z few ts

split_end : {T : Type 0} {x z : T} {few : List T} (ts : List T) → OneMore x few (ts ++ z ∷ []) → SplitEnd x z few ts
split_end [] here = at_end refl refl
split_end [] (later h) = elim h [ ]
split_end (t ∷ ts) here = inside ts here
split_end (t ∷ ts) (later h) = elim (split_end ts h) [
  | inside fs g ↦ inside (t ∷ fs) (later g)
  | at_end e f ↦ at_end e (ap (λ ys. t ∷ ys) f)
]

-- what stands among the first n is better than what stands after them
first_better : {s x : Source} {a b : List Source} (n : ℕ) (many : List Source) → IsInOrder many → OneMore s a (take n many) → OneMore x b (drop n many) → is_better s x ≡ true
first_better zero many o h g = elim h [ ]
first_better (suc n) [] o h g = elim h [ ]
first_better (suc n) (m ∷ ms) o here g = more_has (λ r. is_better m r ≡ true) g (dropped_all (λ r. is_better m r ≡ true) n ms o.0)
first_better (suc n) (m ∷ ms) o (later h) g = first_better n ms o.1 h g

tied : {s x : Source} {a b many : List Source} → IsInOrder many → is_better s x ≡ false → is_better x s ≡ false → OneMore s a many → OneMore x b many → OneMore x a many
tied {s} {x} {a} {b} {many} o f g h k = elim (same_few o f g h k) [ same e l ↦ subst (λ y. OneMore y a many) e h ]

-- a source that is tied with x, and stands in the tile, is x
pub found_here : {s x : Source} (n : ℕ) (few many a : List Source) → IsInOrder many → OneMore x few many → is_better s x ≡ false → is_better x s ≡ false → OneMore s a (take n many) → OneMore x a (take n many)
found_here {s} {x} n few many a o m f g h = elim (cut n m) [
  | beyond t d ↦ absurd (not_both (is_better s x) (first_better n many o h d) f)
  | fits l ↦ tied (taken_ordered n many o) f g h (subst (λ ys. OneMore x few ys) (sym (take_all n many l)) m)
  | pushes z e p ↦ elim (split_end (take n many) p) [
    | inside fs k ↦ tied (taken_ordered n many o) f g h k
    | at_end ez ef ↦ absurd (not_both (is_better s x) (subst (λ y. is_better s y ≡ true) (sym ez) (first_better n many o h (subst (λ ys. OneMore z (drop n few) ys) (sym e) here))) f)
  ]
]

-- where the search doesn't end at x, x is past the tile
pub record Passed (n : ℕ) (x : Source) (few many : List Source) : Type 0 where
  pub first_same : take n many ≡ take n few
  pub left : OneMore x (drop n few) (drop n many)

pub missed_here : {x : Source} (n : ℕ) (few many : List Source) → IsInOrder many → OneMore x few many →
    ¬ (slice_get (take n many) (leading (λ s. is_better s x) (take n many)) ≡ Some x) → Passed n x few many
missed_here {x} n few many o m miss = elim (cut n m) [
  | beyond t d ↦ record { first_same = t; left = d }
  | fits l ↦ absurd (miss (found_there (taken_ordered n many o) (subst (λ ys. OneMore x few ys) (sym (take_all n many l)) m)))
  | pushes z e p ↦ elim (split_end (take n many) p) [
    | inside fs k ↦ absurd (miss (found_there (taken_ordered n many o) k))
    | at_end ez ef ↦ record { first_same = sym ef; left = subst (λ y. OneMore y (drop n few) (drop n many)) (sym ez) (subst (λ ys. OneMore z (drop n few) ys) (sym e) here) }
  ]
]

-- the search goes on to the next order
pub seek_on : (top n : ℕ) (few many : List Source) (k p : ℕ) (x : Source) → k < top → IsInOrder many → Sinking top n few many (λ j q. held top n few j q) k p x →
    ¬ (slice_get (held top n many k p) (leading (λ s. is_better s x) (held top n many k p)) ≡ Some x) →
    Sinking top n few many (λ j q. held top n few j q) (suc k) (x.npix / 4 ^ (top - suc k)) x
seek_on top n few many k p x l o s miss =
    let m : ¬ (slice_get (take n (rest_of top n many k p)) (leading (λ r. is_better r x) (take n (rest_of top n many k p))) ≡ Some x) =
    subst (λ ys. ¬ (slice_get ys (leading (λ r. is_better r x) ys) ≡ Some x)) (held_above top n many k p l) miss in
    let h = missed_here n (rest_of top n few k p) (rest_of top n many k p) (rest_ordered top n many o k p) s.more m in
    sink top n few many (λ j q. held top n few j q) (λ j q. held top n few j q) k p (x.npix / 4 ^ (top - suc k)) x x l s
    (held_above top n few k p l ∙ sym h.first_same) (λ j q w. refl) h.left (under_from top x.npix (suc k) (omega (arith, l)))

-- the search ends: from here on the source rises
pub starts : (top n : ℕ) (few many : List Source) (tiles : ℕ → ℕ → List Source) (k p i : ℕ) (x : Source) → ((j q : ℕ) → tiles j q ≡ held top n many j q) →
    Sinking top n few many (λ j q. held top n few j q) k p x → i < length (tiles k p) → OneMore x (remove (tiles k p) i) (held top n many k p) →
    Rising top n few many tiles k p x i
starts top n few many tiles k p i x t s w g = record {
  more = s.more;
  done = λ j q f. t j q ∙ sym (s.done j q f);
  below = λ j q f m. t j q;
  place = w;
  gone = g;
}

pub record LocateState (tiles : List Tile) (x : Source) (top order : ℕ) : Type 0 where
  pub seeking : (n : ℕ) (few many : List Source) → AreTilesOf top n many tiles → Differ top x few many →
      Sinking top n few many (λ j q. held top n few j q) order (x.npix / 4 ^ (top - order)) x

-- the source at a place, and the list without it
taken_more : (ss : List Source) (i : ℕ) (s : Source) → slice_get ss i ≡ Some s → OneMore s (remove ss i) ss
taken_more ss i s e = subst (λ y. OneMore y (remove ss i) ss) (get_or_from_slice_get ss i s s e) (removed_more ss i s (slice_get_within ss i s e))

pub located : (top n : ℕ) (few many tile : List Source) (k p i : ℕ) (x s : Source) → k < top → IsInOrder many → OneMore x (rest_of top n few k p) (rest_of top n many k p) →
    tile ≡ held top n many k p → slice_get tile i ≡ Some s → is_better s x ≡ false → is_better x s ≡ false → OneMore x (remove tile i) (held top n many k p)
located top n few many tile k p i x s l o m t e f g =
    let is : tile ≡ take n (rest_of top n many k p) = t ∙ held_above top n many k p l in
    subst (λ ys. OneMore x (remove tile i) ys) (sym (held_above top n many k p l))
    (found_here n (rest_of top n few k p) (rest_of top n many k p) (remove tile i) (rest_ordered top n many o k p) m f g (subst (λ ys. OneMore s (remove tile i) ys) is (taken_more tile i s e)))

-- where the search ends
pub ends_where : (top n : ℕ) (many tile : List Source) (k p i : ℕ) (x : Source) → IsInOrder many → tile ≡ held top n many k p →
    (HoldsAtFirst (λ s. is_better s x) tile → i ≡ leading (λ s. is_better s x) tile) → i ≡ leading (λ s. is_better s x) (held top n many k p)
ends_where top n many tile k p i x o t h =
    subst (λ ys. HoldsAtFirst (λ s. is_better s x) ys → i ≡ leading (λ s. is_better s x) ys) t h (better_at_first x (held top n many k p) (held_ordered top n many k p o))

pub not_there : (top n : ℕ) (many tile : List Source) (k p i : ℕ) (x : Source) → IsInOrder many → tile ≡ held top n many k p →
    (HoldsAtFirst (λ s. is_better s x) tile → i ≡ leading (λ s. is_better s x) tile) → ¬ (slice_get tile i ≡ Some x) →
    ¬ (slice_get (held top n many k p) (leading (λ s. is_better s x) (held top n many k p)) ≡ Some x)
not_there top n many tile k p i x o t h miss e =
    miss (ap (λ ys. slice_get ys i) t ∙ ap (slice_get (held top n many k p)) (ends_where top n many tile k p i x o t h) ∙ e)

pub at_top : (top n : ℕ) (few many tile : List Source) (k p i : ℕ) (x : Source) → k ≡ top → IsInOrder many → OneMore x (rest_of top n few k p) (rest_of top n many k p) →
    tile ≡ held top n many k p → (HoldsAtFirst (λ s. is_better s x) tile → i ≡ leading (λ s. is_better s x) tile) → slice_get tile i ≡ Some x
at_top top n few many tile k p i x ek o m t h =
    let whole : held top n many k p ≡ rest_of top n many k p = subst (λ j. held top n many j p ≡ rest_of top n many j p) (sym ek) (held_top top n many p) in
    let there : slice_get (rest_of top n many k p) (leading (λ s. is_better s x) (rest_of top n many k p)) ≡ Some x = found_there (rest_ordered top n many o k p) m in
    ap (λ ys. slice_get ys i) t ∙ ap (slice_get (held top n many k p)) (ends_where top n many tile k p i x o t h)
    ∙ ap (λ ys. slice_get ys (leading (λ s. is_better s x) ys)) whole ∙ there

pub located_top : (top n : ℕ) (many tile : List Source) (k p i : ℕ) (x : Source) → tile ≡ held top n many k p → slice_get tile i ≡ Some x → OneMore x (remove tile i) (held top n many k p)
located_top top n many tile k p i x t e = subst (λ ys. OneMore x (remove tile i) ys) t (taken_more tile i x e)

-- ---- the loop in which a source rises

-- the shorter list has nothing left either
none_left : {x : Source} (n : ℕ) (few many : List Source) → OneMore x few many → drop n many ≡ [] → drop n few ≡ []
none_left n few many m e =
    let l : length many ≡ length few + 1 = more_length m in
    let d : length (drop n many) ≡ 0 = ap length e in
    let k : length (drop n many) ≡ length many - n = length-drop n many in
    drop_all n few (omega (arith, l, d, k))

-- the first row of a tile lies under its cell
first_under : (top n : ℕ) (ss : List Source) (k c : ℕ) (z : Source) → 0 < n → slice_get (held top n ss (suc k) c) 0 ≡ Some z → is_under top (suc k) c z ≡ true
first_under top n ss k c z h e =
    first_in (λ s. is_under top (suc k) c s ≡ true) (rest_of top n ss (suc k) c) z (rest_under top n ss (suc k) c) (sym (held_first top n ss (suc k) c h) ∙ e)

pub record RiseState (initial tiles : List Tile) (x0 : Source) (top room order : ℕ) (cell : NestedCell) (i : ℕ) : Type 0 where
  pub listed : AreListed tiles
  pub full : NoneIsEmpty initial → NoneIsEmpty tiles
  pub at : cell.order ≡ order
  pub rising : (few many : List Source) → AreTilesOf top room many initial → Differ top x0 few many →
      (x : Source) × Rising top room few many (λ k p. rows_at tiles k p) cell.order cell.npix x i

-- what the tile of the cell, and those of its children, hold
pub place_ok : (top n : ℕ) (few many : List Source) (tiles : ℕ → ℕ → List Source) (k p i : ℕ) (x : Source) → Rising top n few many tiles k p x i → i < length (tiles k p)
place_ok top n few many tiles k p i x s = s.place

pub child_holds : (top n : ℕ) (few many : List Source) (tiles : ℕ → ℕ → List Source) (k p i c : ℕ) (x : Source) → Rising top n few many tiles k p x i → c / 4 ≡ p → tiles (suc k) c ≡ held top n many (suc k) c
child_holds top n few many tiles k p i c x s e = s.below (suc k) c (child_below k p c e) (deeper (suc k) c k p (omega arith))

-- the last tile takes up nothing: no child has rows
pub rests : (top n : ℕ) (few many : List Source) (old new : ℕ → ℕ → List Source) (k p i : ℕ) (x : Source) → k < top → 0 < n → IsInOrder many → Rising top n few many old k p x i →
    ((c : ℕ) → c / 4 ≡ p → slice_get (old (suc k) c) 0 ≡ None) → new k p ≡ remove (old k p) i → SameBut k p old new → (j q : ℕ) → new j q ≡ held top n few j q
rests top n few many old new k p i x l h o s none_there e keeps =
    let empty : drop n (rest_of top n many k p) ≡ [] = none_below top n many k p l h (λ c ec. ap (λ ys. slice_get ys 0) (sym (child_holds top n few many old k p i c x s ec)) ∙ none_there c ec) in
    let kept : OneMore x (remove (old k p) i) (take n (rest_of top n many k p)) = subst (λ ys. OneMore x (remove (old k p) i) ys) (held_above top n many k p l) s.gone in
    let same_tile : remove (old k p) i ≡ take n (rest_of top n few k p) = not_refilled n (rest_of top n few k p) (rest_of top n many k p) (remove (old k p) i) (rest_ordered top n many o k p) s.more kept empty in
    let few_empty : drop n (rest_of top n few k p) ≡ [] = none_left n (rest_of top n few k p) (rest_of top n many k p) s.more empty in
    risen top n few many old new k p i x s (e ∙ same_tile ∙ sym (held_above top n few k p l)) keeps (λ c ec. child_same top n few many k p c ec (few_empty ∙ sym empty))

pub rests_at_top : (top n : ℕ) (few many : List Source) (old new : ℕ → ℕ → List Source) (k p i : ℕ) (x : Source) → k ≡ top → IsInOrder many → Rising top n few many old k p x i →
    new k p ≡ remove (old k p) i → SameBut k p old new → (j q : ℕ) → new j q ≡ held top n few j q
rests_at_top top n few many old new k p i x ek o s e keeps =
    let whole : (ss : List Source) → held top n ss k p ≡ rest_of top n ss k p = λ ss. subst (λ j. held top n ss j p ≡ rest_of top n ss j p) (sym ek) (held_top top n ss p) in
    let g : OneMore x (remove (old k p) i) (rest_of top n many k p) = subst (λ ys. OneMore x (remove (old k p) i) ys) (whole many) s.gone in
    risen top n few many old new k p i x s (e ∙ same_less (rest_ordered top n many o k p) g s.more ∙ sym (whole few)) keeps
    (λ c ec. subst (λ j. rest_of top n few (suc j) c ≡ rest_of top n many (suc j) c) (sym ek) (no_deeper top n few many c))

-- the best child's first row is taken up
pub goes_up : (top n : ℕ) (few many : List Source) (old new : ℕ → ℕ → List Source) (k p c i : ℕ) (x z dead : Source) → k < top → 0 < n → IsInOrder many → Rising top n few many old k p x i →
    c / 4 ≡ p → slice_get (old (suc k) c) 0 ≡ Some z → ((d : ℕ) (s : Source) → d / 4 ≡ p → slice_get (old (suc k) d) 0 ≡ Some s → is_better s z ≡ false) →
    new k p ≡ remove (old k p) i ++ z ∷ [] → new (suc k) c ≡ dead ∷ drop 1 (old (suc k) c) → SameButTwo k p c old new → Rising top n few many new (suc k) c z 0
goes_up top n few many old new k p c i x z dead l h o s ec first best at there keeps =
    let f : slice_get (held top n many (suc k) c) 0 ≡ Some z = ap (λ ys. slice_get ys 0) (sym (child_holds top n few many old k p i c x s ec)) ∙ first in
    let b : Begins z (drop n (rest_of top n many k p)) = best_below top n many k p c z l h o ec f (λ d t ed g. best d t ed (ap (λ ys. slice_get ys 0) (child_holds top n few many old k p i d x s ed) ∙ g)) in
    let u : is_under top (suc k) c z ≡ true = first_under top n many k c z h f in
    rise top n few many old new k p c i x z dead l h o s b u first at there keeps

-- ---- the four children

four_parts : (c p : ℕ) → c / 4 ≡ p → (c ≡ 4 * p + 0) ⊎ ((c ≡ 4 * p + 1) ⊎ ((c ≡ 4 * p + 2) ⊎ (c ≡ 4 * p + 3)))
four_parts c p e = elim (cases_eq c (4 * p + 0)) [
  | inl h ↦ inl h
  | inr a ↦ elim (cases_eq c (4 * p + 1)) [
    | inl h ↦ inr (inl h)
    | inr b ↦ elim (cases_eq c (4 * p + 2)) [
      | inl h ↦ inr (inr (inl h))
      | inr d ↦ inr (inr (inr (omega (arith, e, a, b, d))))
    ]
  ]
]

abbrev pub four_of : NestedCell → List NestedCell
four_of cell = child_cell cell 3 ∷ child_cell cell 2 ∷ child_cell cell 1 ∷ child_cell cell 0 ∷ []

-- what holds of the four holds of each cell of the next order under this one
of_each : (P : ℕ → ℕ → Type 0) (cell : NestedCell) → All (λ (c : NestedCell). P c.order c.npix) (four_of cell) → (c : ℕ) → c / 4 ≡ cell.npix → P (suc cell.order) c
of_each P cell h c e =
    let o : cell.order + 1 ≡ suc cell.order = omega arith in
    subst (λ (k : ℕ). P k c) o (elim (four_parts c cell.npix e) [
      | inl f ↦ subst (λ (q : ℕ). P (cell.order + 1) q) (sym f) h.1.1.1.0
      | inr g ↦ elim g [
        | inl f ↦ subst (λ (q : ℕ). P (cell.order + 1) q) (sym f) h.1.1.0
        | inr g2 ↦ elim g2 [
          | inl f ↦ subst (λ (q : ℕ). P (cell.order + 1) q) (sym f) h.1.0
          | inr f ↦ subst (λ (q : ℕ). P (cell.order + 1) q) (sym f) h.0
        ]
      ]
    ])

pub none_has : (tiles : List Tile) (cell : NestedCell) → IsBest tiles None (four_of cell) → (c : ℕ) → c / 4 ≡ cell.npix → slice_get (rows_at tiles (suc cell.order) c) 0 ≡ None
none_has tiles cell b = of_each (λ k q. slice_get (rows_at tiles k q) 0 ≡ None) cell b.is

pub record IsChild (tiles : List Tile) (cell child : NestedCell) (z : Source) : Type 0 where
  pub order_is : child.order ≡ suc cell.order
  pub above : child.npix / 4 ≡ cell.npix
  pub first_is : slice_get (rows_at tiles (suc cell.order) child.npix) 0 ≡ Some z
  pub best : (d : ℕ) (s : Source) → d / 4 ≡ cell.npix → slice_get (rows_at tiles (suc cell.order) d) 0 ≡ Some s → is_better s z ≡ false

child_parts : (cell child : NestedCell) (i : ℕ) → i < 4 → child ≡ child_cell cell i → (child.order ≡ suc cell.order) × (child.npix / 4 ≡ cell.npix)
child_parts cell child i h e =
    let o : child.order ≡ cell.order + 1 = ap (λ (c : NestedCell). c.order) e in
    let p : child.npix ≡ 4 * cell.npix + i = ap (λ (c : NestedCell). c.npix) e in
    (omega (arith, o), omega (arith, p, h))

one_parts : (cell child : NestedCell) → IsOneOf child (four_of cell) → (child.order ≡ suc cell.order) × (child.npix / 4 ≡ cell.npix)
one_parts cell child h = elim h [
  | inl e ↦ child_parts cell child 3 (omega arith) e
  | inr g ↦ elim g [
    | inl e ↦ child_parts cell child 2 (omega arith) e
    | inr g2 ↦ elim g2 [
      | inl e ↦ child_parts cell child 1 (omega arith) e
      | inr g3 ↦ elim g3 [
        | inl e ↦ child_parts cell child 0 (omega arith) e
        | inr f ↦ absurd f
      ]
    ]
  ]
]

if_some_at : (o : Option Source) (s : Source) (P : Source → Type 0) → IfSome o P → o ≡ Some s → P s
if_some_at o s P h e = subst (λ q. IfSome q P) e h

pub best_of : (tiles : List Tile) (cell child : NestedCell) → IsBest tiles (Some child) (four_of cell) → (z : Source) × IsChild tiles cell child z
best_of tiles cell child b =
    let parts = one_parts cell child b.is.0 in (
      b.is.1,
      record {
        order_is = parts.0;
        above = parts.1;
        first_is = subst (λ (k : ℕ). slice_get (rows_at tiles k child.npix) 0 ≡ Some b.is.1) parts.0 b.is.2;
        best = λ d s ed e. if_some_at (slice_get (rows_at tiles (suc cell.order) d) 0) s (λ r. is_better r b.is.1 ≡ false)
            (of_each (λ k q. IfSome (slice_get (rows_at tiles k q) 0) (λ r. is_better r b.is.1 ≡ false)) cell b.is.3 d ed) e;
      },
    )

pub short_child : (top n : ℕ) (few many : List Source) (tiles : ℕ → ℕ → List Source) (k p i c j : ℕ) (x x0 : Source) → Rising top n few many tiles k p x i → c / 4 ≡ p → j ≡ suc k → Differ top x0 few many →
    length (tiles j c) < 18446744073709551616
short_child top n few many tiles k p i c j x x0 s e f d =
    let a : length (tiles (suc k) c) ≡ length (held top n many (suc k) c) = ap length (child_holds top n few many tiles k p i c x s e) in
    let b : length (held top n many (suc k) c) ≤ length many = held_length top n many (suc k) c in
    let g : length many < 9223372036854775808 = d.short in
    let h : length (tiles j c) ≡ length (tiles (suc k) c) = ap (λ (m : ℕ). length (tiles m c)) f in omega (arith, a, b, g, h)

pub goes_up_child : (top n : ℕ) (few many : List Source) (old new : ℕ → ℕ → List Source) (k p c o i : ℕ) (x z dead : Source) → o ≡ suc k → k < top → 0 < n → IsInOrder many → Rising top n few many old k p x i →
    c / 4 ≡ p → slice_get (old (suc k) c) 0 ≡ Some z → ((d : ℕ) (s : Source) → d / 4 ≡ p → slice_get (old (suc k) d) 0 ≡ Some s → is_better s z ≡ false) →
    ((y : Source) → slice_get (old o c) 0 ≡ Some y → new k p ≡ remove (old k p) i ++ y ∷ []) → new o c ≡ dead ∷ drop 1 (old o c) →
    ((j q : ℕ) → ¬ ((j ≡ k) × (q ≡ p)) → ¬ ((j ≡ o) × (q ≡ c)) → new j q ≡ old j q) → Rising top n few many new o c z 0
goes_up_child top n few many old new k p c o i x z dead e l h ord s ec first best =
    let F : ℕ → Type 0 = λ m. ((y : Source) → slice_get (old m c) 0 ≡ Some y → new k p ≡ remove (old k p) i ++ y ∷ []) → new m c ≡ dead ∷ drop 1 (old m c) →
    ((j q : ℕ) → ¬ ((j ≡ k) × (q ≡ p)) → ¬ ((j ≡ m) × (q ≡ c)) → new j q ≡ old j q) → Rising top n few many new m c z 0 in
    subst F (sym e) (λ at there keeps. goes_up top n few many old new k p c i x z dead l h ord s ec first best (at z first) there keeps)

-- a source rises at an order up to the deepest, since it lies under the cell
pub reaches : (top n : ℕ) (few many : List Source) (tiles : ℕ → ℕ → List Source) (k p i : ℕ) (x : Source) → Rising top n few many tiles k p x i → k ≤ top
reaches top n few many tiles k p i x s = (under_parts top x.npix k p (more_has (λ r. is_under top k p r ≡ true) s.more (rest_under top n many k p))).0
