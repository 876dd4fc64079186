-- Sources by their ids: where one stands, and what one more or less makes of them.
use Rattle.std.proofs.Common.{◌≡◌, ◌≢◌, ℕ, zero, suc, ◌+◌, ◌≤◌, ◌<◌, Bool, true, false, not, cond, ◌||◌, List, [], ◌∷◌, length, refl, sym, ap, ◌∙◌, subst, arith, inl, inr}
use Rattle.std.proofs.lemmas.Cmp.{nat_list_cmp_total}
use Rattle.std.proofs.lemmas.Map.Lookups.{exact_bytes}
use Rattle.std.proofs.lemmas.Slice.Eq.{bytes_eq-Decides}
use Rattle.std.specs.Prelude.{slice_get, Some, None, unwrap_or, option_map}
use Rattle.std.specs.Arc.{arc_value}
use Rattle.std.specs.declared.sync.Arc.{Arc}
use Rattle.std.specs.declared.alloc.Global.{Global}
use Rattle.std.specs.Str.{bytes_eq}
use Rattle.std.specs.Ordering.{nat_cmp, is_lt}
use Rattle.std.specs.Cmp.Lexicographic.{slice_cmp}
use Rattle.std.specs.List.{AllByRecursion as All, insert, remove}
use Rattle.balanced_list.specs.Search.{leading, HoldsAtFirst}
use Rattle.healpix_nested.specs.Cells.{IsCell}
use Rattle.hips_catalog.specs.Rows.{Source, has_id_below, in_order}
use Rattle.hips_catalog.specs.Catalogue.{AscendById, has_id, with_source, without_id}
use Rattle.hips_catalog.specs.Kept.{StandsAt, WouldStandAt}
use Rattle.hips_catalog.specs.Parts.{Differ}
use Rattle.hips_catalog.specs.Tiles.{sources}
use Rattle.hips_catalog.proofs.Shared.{get_map, length_map}
use Rattle.hips_catalog.proofs.Order.{either, not_both, less_from, equal_from, reversed, all_map, AreDistinct, in_order_all, in_order_ordered}
use Rattle.hips_catalog.proofs.OneMore.{OneMore, here, later, more_all, more_rest}
use Rattle.hips_catalog.proofs.Places.{in_order_more}
use Rattle.hips_catalog.proofs.Full.{placed_length}

-- ---- ids

abbrev below : List ℕ → List ℕ → Bool
below a b = is_lt (slice_cmp nat_cmp a b)

below_trans : (a b c : List ℕ) → below a b ≡ true → below b c ≡ true → below a c ≡ true
below_trans a b c h g = ap is_lt (nat_list_cmp_total.trans a b c (less_from (slice_cmp nat_cmp a b) h) (less_from (slice_cmp nat_cmp b c) g))

below_not_back : (a b : List ℕ) → below a b ≡ true → below b a ≡ false
below_not_back a b h = ap is_lt (nat_list_cmp_total.antisymm b a) ∙ reversed (slice_cmp nat_cmp a b) (less_from (slice_cmp nat_cmp a b) h)

not_below_itself : (a : List ℕ) → below a a ≡ false
not_below_itself a = elim (either (below a a)) [ inl t ↦ absurd (not_both (below a a) t (below_not_back a a t)) | inr f ↦ f ]

same_bytes : (a b : List ℕ) → bytes_eq a b ≡ true → a ≡ b
same_bytes a b h = (bytes_eq-Decides a b).0 h

bytes_of_same : (a b : List ℕ) → a ≡ b → bytes_eq a b ≡ true
bytes_of_same a b e = (bytes_eq-Decides a b).1 e

apart : (a b : List ℕ) → a ≢ b → bytes_eq a b ≡ false
apart a b n = elim (either (bytes_eq a b)) [ inl t ↦ absurd (n (same_bytes a b t)) | inr f ↦ f ]

below_differs : (a b : List ℕ) → below a b ≡ true → a ≢ b
below_differs a b h e = not_both (below a a) (subst (λ c. below a c ≡ true) (sym e) h) (not_below_itself a)

below_apart : (a b : List ℕ) → below a b ≡ true → bytes_eq a b ≡ false
below_apart a b h = apart a b (below_differs a b h)

above_apart : (a b : List ℕ) → below a b ≡ true → bytes_eq b a ≡ false
above_apart a b h = apart b a (λ e. below_differs a b h (sym e))

one_is_below : (a b : List ℕ) → bytes_eq a b ≡ false → below a b ≡ false → below b a ≡ true
one_is_below a b ne h = elim (either (below b a)) [
  | inl t ↦ t
  | inr f ↦ absurd (not_both (bytes_eq a b) (bytes_of_same a b (exact_bytes a b (equal_from (slice_cmp nat_cmp a b) h (ap is_lt (sym (nat_list_cmp_total.antisymm b a)) ∙ f)))) ne)
]

-- ---- sources by ascending ids

pub distinct : (ss : List Source) → AscendById ss → AreDistinct ss
distinct [] h = tt
distinct (s ∷ ss) h = (all_map (λ r. has_id_below s r.id ≡ true) (λ r. s.id ≢ r.id) (λ r t. below_differs s.id r.id t) ss h.0, distinct ss h.1)

pub ids_rise : (id : List ℕ) (ss : List Source) → AscendById ss → HoldsAtFirst (λ s. has_id_below s id) ss
ids_rise id [] h = tt
ids_rise id (s ∷ ss) h = (
  λ t. ids_rise id ss h.1,
  λ f. all_map (λ r. has_id_below s r.id ≡ true) (λ r. has_id_below r id ≡ false) (λ r t. elim (either (has_id_below r id)) [ inl b ↦ absurd (not_both (has_id_below s id) (below_trans s.id r.id id t b) f) | inr g ↦ g ]) ss h.0,
)

-- the sources after one that isn't below the id have other ids
later_apart : (id : List ℕ) (s : Source) (ss : List Source) → All (λ r. has_id_below s r.id ≡ true) ss → has_id_below s id ≡ false → All (λ r. bytes_eq r.id id ≡ false) ss
later_apart id s ss h f =
    all_map (λ r. has_id_below s r.id ≡ true) (λ r. bytes_eq r.id id ≡ false) (λ r t. apart r.id id (λ e. not_both (has_id_below s id) (subst (λ i. has_id_below s i ≡ true) e t) f)) ss h

or_false : (a b : Bool) → a ≡ false → b ≡ false → (a || b) ≡ false
or_false a b e f = rw (e, f) refl

or_parts : (a b : Bool) → (a || b) ≡ false → (a ≡ false) × (b ≡ false)
or_parts true b h = absurd (not_both true refl h)
or_parts false b h = (refl, h)

none_has : (id : List ℕ) (ss : List Source) → All (λ r. bytes_eq r.id id ≡ false) ss → has_id id ss ≡ false
none_has id [] h = refl
none_has id (s ∷ ss) h = or_false (bytes_eq s.id id) (has_id id ss) h.0 (none_has id ss h.1)

pub is_absent : (id : List ℕ) (ss : List Source) → AscendById ss → ((s : Source) → slice_get ss (leading (λ s. has_id_below s id) ss) ≡ Some s → bytes_eq s.id id ≡ false) → has_id id ss ≡ false
is_absent id [] h o = refl
is_absent id (s ∷ ss) h o = elim (either (has_id_below s id)) [
  | inl t ↦
      let i : ℕ = leading (λ s. has_id_below s id) ss in
      let e : leading (λ s. has_id_below s id) (s ∷ ss) ≡ suc i = ap (λ c. cond c (i + 1) 0) t ∙ (omega arith) in
      or_false (bytes_eq s.id id) (has_id id ss) (below_apart s.id id t) (is_absent id ss h.1 (λ r f. o r (ap (slice_get (s ∷ ss)) e ∙ f)))
  | inr f ↦
      let e : leading (λ s. has_id_below s id) (s ∷ ss) ≡ 0 = ap (λ c. cond c (leading (λ s. has_id_below s id) ss + 1) 0) f in
      or_false (bytes_eq s.id id) (has_id id ss) (o s (ap (slice_get (s ∷ ss)) e)) (none_has id ss (later_apart id s ss h.0 f))
]

none_some : (s : Source) → None ≡ Some s → ⊥
none_some s e = absurd (grind (arith, e))

got : (r s : Source) → Some r ≡ Some s → r ≡ s
got r s e = ap (λ o. unwrap_or o s) e

is_there : (id : List ℕ) (ss : List Source) (at : ℕ) (s : Source) → slice_get ss at ≡ Some s → bytes_eq s.id id ≡ true → has_id id ss ≡ true
is_there id [] at s e h = absurd (none_some s e)
is_there id (r ∷ ss) zero s e h = ap (λ b. b || has_id id ss) (subst (λ q. bytes_eq q.id id ≡ true) (sym (got r s e)) h)
is_there id (r ∷ ss) (suc at) s e h = let t : has_id id ss ≡ true = is_there id ss at s e h in elim (bytes_eq r.id id) as (λ b. (b || has_id id ss) ≡ true) [ true ↦ refl | false ↦ t ]

all_stay : (id : List ℕ) (ss : List Source) → All (λ r. bytes_eq r.id id ≡ false) ss → without_id id ss ≡ ss
all_stay id [] h = refl
all_stay id (s ∷ ss) h = ap (λ b. cond (not b) (s ∷ without_id id ss) (without_id id ss)) h.0 ∙ ap (λ ys. s ∷ ys) (all_stay id ss h.1)

pub absent_stay : (id : List ℕ) (ss : List Source) → has_id id ss ≡ false → without_id id ss ≡ ss
absent_stay id [] h = refl
absent_stay id (s ∷ ss) h =
    let p = or_parts (bytes_eq s.id id) (has_id id ss) h in
    ap (λ b. cond (not b) (s ∷ without_id id ss) (without_id id ss)) p.0 ∙ ap (λ ys. s ∷ ys) (absent_stay id ss p.1)

all_get : (P : Source → Type 0) (ss : List Source) (at : ℕ) (s : Source) → All P ss → slice_get ss at ≡ Some s → P s
all_get P [] at s h e = absurd (none_some s e)
all_get P (r ∷ ss) zero s h e = subst P (got r s e) h.0
all_get P (r ∷ ss) (suc at) s h e = all_get P ss at s h.1 e

removed : (id : List ℕ) (ss : List Source) (at : ℕ) (s : Source) → AscendById ss → slice_get ss at ≡ Some s → bytes_eq s.id id ≡ true → remove ss at ≡ without_id id ss
removed id [] at s a e h = absurd (none_some s e)
removed id (r ∷ ss) zero s a e h =
    let t : bytes_eq r.id id ≡ true = subst (λ q. bytes_eq q.id id ≡ true) (sym (got r s e)) h in
    let f : has_id_below r id ≡ false = subst (λ i. has_id_below r i ≡ false) (same_bytes r.id id t) (not_below_itself r.id) in
    sym (ap (λ b. cond (not b) (r ∷ without_id id ss) (without_id id ss)) t ∙ all_stay id ss (later_apart id r ss a.0 f))
removed id (r ∷ ss) (suc at) s a e h =
    let b : has_id_below r s.id ≡ true = all_get (λ q. has_id_below r q.id ≡ true) ss at s a.0 e in
    let f : bytes_eq r.id id ≡ false = subst (λ i. bytes_eq r.id i ≡ false) (same_bytes s.id id h) (below_apart r.id s.id b) in
    ap (λ ys. r ∷ ys) (removed id ss at s a.1 e h) ∙ sym (ap (λ b. cond (not b) (r ∷ without_id id ss) (without_id id ss)) f)

within : (ss : List Source) (at : ℕ) (s : Source) → slice_get ss at ≡ Some s → at < length ss
within [] at s e = absurd (none_some s e)
within (r ∷ ss) zero s e = omega arith
within (r ∷ ss) (suc at) s e = let h : at < length ss = within ss at s e in omega (arith, h)

pub stands_at : (id : List ℕ) (ss : List Source) (at : ℕ) (s : Source) → AscendById ss → slice_get ss at ≡ Some s → bytes_eq s.id id ≡ true → StandsAt id ss at
stands_at id ss at s a e h = record { there = is_there id ss at s e h; within = within ss at s e; without = removed id ss at s a e h }

insert_with : (x : Source) (ss : List Source) → insert ss (leading (λ s. has_id_below s x.id) ss) x ≡ with_source x ss
insert_with x [] = refl
insert_with x (s ∷ ss) = elim (either (has_id_below s x.id)) [
  | inl t ↦ rw t (let e : leading (λ s. has_id_below s x.id) ss + 1 ≡ suc (leading (λ s. has_id_below s x.id) ss) = omega arith in rw e (ap (λ ys. s ∷ ys) (insert_with x ss)))
  | inr f ↦ rw f refl
]

insert_at : (id : List ℕ) (ss : List Source) (at : ℕ) (x : Source) → at ≡ leading (λ s. has_id_below s id) ss → x.id ≡ id → insert ss at x ≡ with_source x ss
insert_at id ss at x e i =
    subst (λ m. insert ss m x ≡ with_source x ss) (sym e) (subst (λ j. insert ss (leading (λ s. has_id_below s j) ss) x ≡ with_source x ss) i (insert_with x ss))

pub would_stand_at : (id : List ℕ) (ss : List Source) (at : ℕ) → AscendById ss → at ≤ length ss → (HoldsAtFirst (λ s. has_id_below s id) ss → at ≡ leading (λ s. has_id_below s id) ss) →
    ((s : Source) → slice_get ss at ≡ Some s → bytes_eq s.id id ≡ false) → WouldStandAt id ss at
would_stand_at id ss at a w h o =
    let e : at ≡ leading (λ s. has_id_below s id) ss = h (ids_rise id ss a) in
    record {
      absent = is_absent id ss a (λ s f. o s (ap (slice_get ss) e ∙ f));
      within = w;
      with_one = λ x i. insert_at id ss at x e i;
    }

-- ---- a source more, a source less

pub with_more : (x : Source) (ss : List Source) → OneMore x ss (with_source x ss)
with_more x [] = here
with_more x (s ∷ ss) = elim (has_id_below s x.id) as (λ b. OneMore x (s ∷ ss) (cond b (s ∷ with_source x ss) (x ∷ s ∷ ss))) [ true ↦ later (with_more x ss) | false ↦ here ]

pub with_ascends : (x : Source) (ss : List Source) → AscendById ss → has_id x.id ss ≡ false → AscendById (with_source x ss)
with_ascends x [] a n = (tt, tt)
with_ascends x (s ∷ ss) a n =
    let p = or_parts (bytes_eq s.id x.id) (has_id x.id ss) n in
    elim (either (has_id_below s x.id)) [
      | inl t ↦ subst (λ b. AscendById (cond b (s ∷ with_source x ss) (x ∷ s ∷ ss))) (sym t) (more_all (λ r. has_id_below s r.id ≡ true) (with_more x ss) t a.0, with_ascends x ss a.1 p.1)
      | inr f ↦
          let b : has_id_below x s.id ≡ true = one_is_below s.id x.id p.0 f in
          subst (λ b. AscendById (cond b (s ∷ with_source x ss) (x ∷ s ∷ ss))) (sym f)
          ((b, all_map (λ r. has_id_below s r.id ≡ true) (λ r. has_id_below x r.id ≡ true) (λ r t. below_trans x.id s.id r.id b t) ss a.0), a)
    ]

pub less_ascends : {x : Source} {few many : List Source} → OneMore x few many → AscendById many → AscendById few
less_ascends here a = a.1
less_ascends (later {y = y} h) a = (more_rest (λ r. has_id_below y r.id ≡ true) h a.0, less_ascends h a.1)

in_order_length : (ss : List Source) → length (in_order ss) ≡ length ss
in_order_length [] = refl
in_order_length (s ∷ ss) =
    let e : length (in_order ss) ≡ length ss = in_order_length ss in
    let f = placed_length s (in_order ss) in omega (arith, e, f)

pub differ : (top : ℕ) (x : Source) (few many : List Source) → OneMore x few many → AscendById many → All (λ s. IsCell top s.npix) many → length many ≤ 1000000 → Differ top x (in_order few) (in_order many)
differ top x few many m a c l =
    let e : length (in_order many) ≡ length many = in_order_length many in
    record {
      more = in_order_more (distinct many a) m;
      ordered = in_order_ordered many (distinct many a);
      of_cells = in_order_all (λ s. IsCell top s.npix) many c;
      short = omega (arith, e, l);
    }

-- ---- shared rows

pub shared_item : (rows : List (Arc Source Global)) (at : ℕ) (row : Arc Source Global) → Some row ≡ slice_get rows at → slice_get (sources rows) at ≡ Some (arc_value row)
shared_item rows at row e = get_map arc_value rows at ∙ ap (option_map arc_value) (sym e)

pub other_item : (id : List ℕ) (rows : List (Arc Source Global)) (at : ℕ) (row : Arc Source Global) → Some row ≡ slice_get rows at → bytes_eq (arc_value row).id id ≡ false →
    (s : Source) → slice_get (sources rows) at ≡ Some s → bytes_eq s.id id ≡ false
other_item id rows at row e f s g = subst (λ (r : Source). bytes_eq r.id id ≡ false) (got (arc_value row) s (sym (shared_item rows at row e) ∙ g)) f

pub no_item : (id : List ℕ) (rows : List (Arc Source Global)) (at : ℕ) → None ≡ slice_get rows at → (s : Source) → slice_get (sources rows) at ≡ Some s → bytes_eq s.id id ≡ false
no_item id rows at e s g = absurd (none_some s (ap (option_map arc_value) e ∙ sym (get_map arc_value rows at) ∙ g))

pub shared_within : (rows : List (Arc Source Global)) (at : ℕ) → at ≤ length rows → at ≤ length (sources rows)
shared_within rows at h = let e : length (sources rows) ≡ length rows = length_map arc_value rows in omega (arith, e, h)
