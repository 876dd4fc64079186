-- A source more, in lists in order.
use Rattle.std.proofs.Common.{◌≡◌, ◌≢◌, suc, ◌+◌, true, false, cond, List, [], ◌∷◌, refl, sym, ap, subst, arith, inl, inr}
use Rattle.std.specs.Prelude.{slice_get, Some}
use Rattle.std.specs.List.{AllByRecursion as All, insert}
use Rattle.balanced_list.specs.Search.{leading, HoldsAtFirst}
use Rattle.hips_catalog.specs.Rows.{Source, is_better, placed, in_order}
use Rattle.hips_catalog.proofs.Order.{either, not_both, IsInOrder, IsNew, AreDistinct, better_trans, better_not_back, not_itself, one_is_better, better_than_all, all_map, in_order_all, in_order_ordered}
use Rattle.hips_catalog.proofs.OneMore.{OneMore, here, later, more_has, more_rest}

pub placed_more : (x : Source) (ss : List Source) → OneMore x ss (placed x ss)
placed_more x [] = here
placed_more x (s ∷ ss) =
    elim (is_better s x) as (λ b. OneMore x (s ∷ ss) (cond b (s ∷ placed x ss) (x ∷ s ∷ ss))) [ true ↦ later (placed_more x ss) | false ↦ here ]

-- a source that is better than all is placed first
pub placed_first : (y : Source) (ss : List Source) → All (λ r. is_better y r ≡ true) ss → placed y ss ≡ y ∷ ss
placed_first y [] h = refl
placed_first y (s ∷ ss) h = ap (λ b. cond b (s ∷ placed y ss) (y ∷ s ∷ ss)) (better_not_back y s h.0)

placed_both : {x : Source} (y : Source) {few many : List Source} → IsNew y many → IsInOrder many → OneMore x few many → OneMore x (placed y few) (placed y many)
placed_both {x} y n o (here {xs = xs}) = elim (either (is_better x y)) [
  | inl t ↦ subst (λ b. OneMore x (placed y xs) (cond b (x ∷ placed y xs) (y ∷ x ∷ xs))) (sym t) here
  | inr f ↦
      let b : is_better y x ≡ true = one_is_better x y (λ e. n.0 (sym e)) f in
      let e : placed y xs ≡ y ∷ xs = placed_first y xs (better_than_all y x xs b o.0) in
      subst (λ b. OneMore x (placed y xs) (cond b (x ∷ placed y xs) (y ∷ x ∷ xs))) (sym f) (subst (λ ys. OneMore x ys (y ∷ x ∷ xs)) (sym e) (later here))
]
placed_both {x} y n o (later {y = m} {few = fs} {many = ms} h) =
    let r : OneMore x (placed y fs) (placed y ms) = placed_both y n.1 o.1 h in
    elim (is_better m y) as (λ b. OneMore x (cond b (m ∷ placed y fs) (y ∷ m ∷ fs)) (cond b (m ∷ placed y ms) (y ∷ m ∷ ms))) [ true ↦ later r | false ↦ later (later h) ]

pub in_order_more : {x : Source} {few many : List Source} → AreDistinct many → OneMore x few many → OneMore x (in_order few) (in_order many)
in_order_more {x} d (here {xs = xs}) = placed_more x (in_order xs)
in_order_more {x} d (later {y = y} {many = ms} h) =
    placed_both y (in_order_all (λ r. y.id ≢ r.id) ms d.0) (in_order_ordered ms d.1) (in_order_more d.1 h)

pub ordered_less : {x : Source} {few many : List Source} → OneMore x few many → IsInOrder many → IsInOrder few
ordered_less here o = o.1
ordered_less (later {y = y} h) o = (more_rest (λ r. is_better y r ≡ true) h o.0, ordered_less h o.1)

pub distinct_less : {x : Source} {few many : List Source} → OneMore x few many → AreDistinct many → AreDistinct few
distinct_less here o = o.1
distinct_less (later {y = y} h) o = (more_rest (λ r. y.id ≢ r.id) h o.0, distinct_less h o.1)

-- there is one place for a source
pub same_many : {x : Source} {few a b : List Source} → IsInOrder a → IsInOrder b → OneMore x few a → OneMore x few b → a ≡ b
same_many oa ob here here = refl
same_many {x} oa ob here (later {y = y} h) =
    absurd (not_both (is_better y x) (more_has (λ r. is_better y r ≡ true) h ob.0) (better_not_back x y oa.0.0))
same_many {x} oa ob (later {y = y} h) here =
    absurd (not_both (is_better y x) (more_has (λ r. is_better y r ≡ true) h oa.0) (better_not_back x y ob.0.0))
same_many oa ob (later {y = y} h) (later g) = ap (λ ys. y ∷ ys) (same_many oa.1 ob.1 h g)

-- a list in order has a source once: two that neither is better are one
pub data Same (x y : Source) (a b : List Source) : Type 0 where
  same : x ≡ y → a ≡ b → Same x y a b

pub same_few : {x y : Source} {a b many : List Source} → IsInOrder many → is_better x y ≡ false → is_better y x ≡ false → OneMore x a many → OneMore y b many → Same x y a b
same_few o f g here here = same refl refl
same_few {x} {y} o f g here (later h) = absurd (not_both (is_better x y) (more_has (λ r. is_better x r ≡ true) h o.0) f)
same_few {x} {y} o f g (later h) here = absurd (not_both (is_better y x) (more_has (λ r. is_better y r ≡ true) h o.0) g)
same_few o f g (later {y = m} h) (later k) = elim (same_few o.1 f g h k) [ same e l ↦ same e (ap (λ ys. m ∷ ys) l) ]

-- ---- where the search ends

pub insert_placed : (x : Source) (ss : List Source) → insert ss (leading (λ s. is_better s x) ss) x ≡ placed x ss
insert_placed x [] = refl
insert_placed x (s ∷ ss) = elim (either (is_better s x)) [
  | inl t ↦ rw t (let e : leading (λ s. is_better s x) ss + 1 ≡ suc (leading (λ s. is_better s x) ss) = omega arith in rw e (ap (λ ys. s ∷ ys) (insert_placed x ss)))
  | inr f ↦ rw f refl
]

pub better_at_first : (x : Source) (ss : List Source) → IsInOrder ss → HoldsAtFirst (λ s. is_better s x) ss
better_at_first x [] o = tt
better_at_first x (s ∷ ss) o = (λ t. better_at_first x ss o.1, λ f. all_map (λ r. is_better s r ≡ true) (λ r. is_better r x ≡ false) (λ r t. elim (either (is_better r x)) [ inl b ↦ absurd (not_both (is_better s x) (better_trans s r x t b) f) | inr g ↦ g ]) ss o.0)

-- the search ends at the source, where the list has it
pub found_there : {x : Source} {few many : List Source} → IsInOrder many → OneMore x few many → slice_get many (leading (λ s. is_better s x) many) ≡ Some x
found_there {x} o (here {xs = xs}) = rw (not_itself x) refl
found_there {x} o (later {y = y} {many = ms} h) =
    let t : is_better y x ≡ true = more_has (λ r. is_better y r ≡ true) h o.0 in
    let e : leading (λ s. is_better s x) ms + 1 ≡ suc (leading (λ s. is_better s x) ms) = omega arith in
    rw t (rw e (found_there o.1 h))
