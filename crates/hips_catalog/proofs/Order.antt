-- The order of sources is strict, and there is one list of given sources in order.
use Rattle.std.proofs.Common.{◌≡◌, ◌≢◌, ℕ, ◌≤◌, ltb, Bool, true, false, cond, List, [], ◌∷◌, refl, sym, ap, ◌∙◌, subst, arith, ◌⊎◌, inl, inr}
use Rattle.std.specs.List.{AllByRecursion as All}
use Rattle.std.specs.Cmp.{IsTotalOrder, then_total, on_total, nat_cmp_is}
use Rattle.std.proofs.lemmas.Bool.{ltb-true, ltb-false}
use Rattle.std.specs.Cmp.Lexicographic.{slice_cmp, on_texts}
use Rattle.std.specs.declared.cmp.Ordering.{Ordering}
use Rattle.std.specs.Ordering.{nat_cmp, is_lt, ordering_reverse, ordering_then}
use Rattle.std.specs.declared.cmp.Ordering.TheVariants.{Less, Equal, Greater}
use Rattle.std.proofs.lemmas.Cmp.{nat_cmp_total}
use Rattle.std.proofs.lemmas.Map.Lookups.{exact_bytes}
use Rattle.hips_catalog.specs.Rows.{Source, source_cmp, is_better, has_id_below, placed, in_order}
pub use Rattle.hips_catalog.specs.More.{IsInOrder}

pub source_order : IsTotalOrder source_cmp
source_order = then_total (on_total (λ (s : Source). s.rank) nat_cmp_total) (on_texts (λ (s : Source). s.id))

pub either : (b : Bool) → (b ≡ true) ⊎ (b ≡ false)
either true = inl refl
either false = inr refl

pub not_both : (b : Bool) → b ≡ true → b ≡ false → ⊥
not_both true h e = absurd (grind (arith, e))
not_both false h e = absurd (grind (arith, h))

pub less_from : (o : Ordering) → is_lt o ≡ true → o ≡ Less
less_from Less h = refl
less_from Equal h = absurd (grind (arith, h))
less_from Greater h = absurd (grind (arith, h))

pub equal_from : (o : Ordering) → is_lt o ≡ false → is_lt (ordering_reverse o) ≡ false → o ≡ Equal
equal_from Less h g = absurd (grind (arith, h))
equal_from Equal h g = refl
equal_from Greater h g = absurd (grind (arith, g))

pub reversed : (o : Ordering) → o ≡ Less → is_lt (ordering_reverse o) ≡ false
reversed Less h = refl
reversed Equal h = refl
reversed Greater h = absurd (grind (arith, h))

pub better_trans : (a b c : Source) → is_better a b ≡ true → is_better b c ≡ true → is_better a c ≡ true
better_trans a b c h g =
    ap is_lt (source_order.trans a b c (less_from (source_cmp a b) h) (less_from (source_cmp b c) g))

pub better_not_back : (a b : Source) → is_better a b ≡ true → is_better b a ≡ false
better_not_back a b h = ap is_lt (source_order.antisymm b a) ∙ reversed (source_cmp a b) (less_from (source_cmp a b) h)

same_id : (o : Ordering) (a b : List ℕ) → ordering_then o (slice_cmp nat_cmp a b) ≡ Equal → slice_cmp nat_cmp a b ≡ Equal
same_id Less a b h = absurd (grind (arith, h))
same_id Equal a b h = h
same_id Greater a b h = absurd (grind (arith, h))

-- of two sources with different ids one is better
pub one_is_better : (a b : Source) → a.id ≢ b.id → is_better a b ≡ false → is_better b a ≡ true
one_is_better a b ne h = elim (either (is_better b a)) [
  | inl t ↦ t
  | inr f ↦ absurd (ne (exact_bytes a.id b.id (same_id (nat_cmp a.rank b.rank) a.id b.id (equal_from (source_cmp a b) h (ap is_lt (sym (source_order.antisymm b a)) ∙ f)))))
]

-- where two ranks are one, the ids decide
pub better_tied : (a b : Source) → a.rank ≡ b.rank → is_better a b ≡ has_id_below a b.id
better_tied a b e = ap (λ o. is_lt (ordering_then o (slice_cmp nat_cmp a.id b.id))) (sym (nat_cmp_is a.rank b.rank Equal e))

-- and else the ranks do
pub better_by_rank : (a b : Source) → ¬ (a.rank ≡ b.rank) → is_better a b ≡ ltb a.rank b.rank
better_by_rank a b n = elim (either (ltb a.rank b.rank)) [
  | inl t ↦ ap (λ o. is_lt (ordering_then o (slice_cmp nat_cmp a.id b.id))) (sym (nat_cmp_is a.rank b.rank Less (ltb-true a.rank b.rank t))) ∙ sym t
  | inr f ↦
      let least : b.rank ≤ a.rank = ltb-false a.rank b.rank f in
      ap (λ o. is_lt (ordering_then o (slice_cmp nat_cmp a.id b.id))) (sym (nat_cmp_is a.rank b.rank Greater (omega (arith, least, n)))) ∙ sym f
]

-- ---- lists in order

pub not_itself : (s : Source) → is_better s s ≡ false
not_itself s = elim (either (is_better s s)) [ inl t ↦ absurd (not_both (is_better s s) t (better_not_back s s t)) | inr f ↦ f ]

pub all_map : {T : Type 0} (P Q : T → Type 0) (f : (x : T) → P x → Q x) (xs : List T) → All P xs → All Q xs
all_map P Q f [] h = tt
all_map P Q f (x ∷ xs) h = (f x h.0, all_map P Q f xs h.1)

-- what is better than the first is better than all
pub better_than_all : (a s : Source) (ss : List Source) → is_better a s ≡ true → All (λ r. is_better s r ≡ true) ss → All (λ r. is_better a r ≡ true) ss
better_than_all a s ss h g = all_map (λ r. is_better s r ≡ true) (λ r. is_better a r ≡ true) (λ r t. better_trans a s r h t) ss g

pub placed_all : (P : Source → Type 0) (x : Source) (ss : List Source) → P x → All P ss → All P (placed x ss)
placed_all P x [] p h = (p, tt)
placed_all P x (s ∷ ss) p h =
    elim (is_better s x) as (λ b. All P (cond b (s ∷ placed x ss) (x ∷ s ∷ ss))) [ true ↦ (h.0, placed_all P x ss p h.1) | false ↦ (p, h) ]

pub in_order_all : (P : Source → Type 0) (ss : List Source) → All P ss → All P (in_order ss)
in_order_all P [] h = tt
in_order_all P (s ∷ ss) h = placed_all P s (in_order ss) h.0 (in_order_all P ss h.1)

-- no source of the list has this one's id
abbrev pub IsNew : Source → List Source → Type 0
IsNew x ss = All (λ r. x.id ≢ r.id) ss

abbrev pub AreDistinct : List Source → Type 0
AreDistinct [] = Unit {0}
AreDistinct (s ∷ ss) = IsNew s ss × AreDistinct ss

pub placed_in_order : (x : Source) (ss : List Source) → IsNew x ss → IsInOrder ss → IsInOrder (placed x ss)
placed_in_order x [] n h = (tt, tt)
placed_in_order x (s ∷ ss) n h = elim (either (is_better s x)) [
  | inl t ↦ subst (λ b. IsInOrder (cond b (s ∷ placed x ss) (x ∷ s ∷ ss))) (sym t) (placed_all (λ r. is_better s r ≡ true) x ss t h.0, placed_in_order x ss n.1 h.1)
  | inr f ↦
      let b : is_better x s ≡ true = one_is_better s x (λ e. n.0 (sym e)) f in
      subst (λ b. IsInOrder (cond b (s ∷ placed x ss) (x ∷ s ∷ ss))) (sym f) ((b, better_than_all x s ss b h.0), h)
]

pub in_order_ordered : (ss : List Source) → AreDistinct ss → IsInOrder (in_order ss)
in_order_ordered [] h = tt
in_order_ordered (s ∷ ss) h = placed_in_order s (in_order ss) (in_order_all (λ r. s.id ≢ r.id) ss h.0) (in_order_ordered ss h.1)
