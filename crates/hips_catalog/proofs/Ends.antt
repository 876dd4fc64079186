-- What the ranks at the ends of rows say of the place of another row, and of the better one of two lists.
use Rattle.std.proofs.Common.{◌≡◌, ℕ, zero, suc, ◌+◌, ◌-◌, ◌<◌, Bool, true, false, cond, List, [], ◌∷◌, length, refl, sym, ap, ◌∙◌, arith, inl, inr}
use Rattle.std.proofs.lemmas.Bool.{lt-ltb}
use Rattle.std.proofs.lemmas.Option.{slice_get_past}
use Rattle.std.specs.Prelude.{slice_get, Option, Some, None, IfSome, unwrap_or}
use Rattle.std.specs.List.{AllByRecursion as All}
use Rattle.std.specs.Arc.{arc_value}
use Rattle.std.specs.declared.sync.Arc.{Arc}
use Rattle.std.specs.declared.alloc.Global.{Global}
use Rattle.balanced_list.specs.Search.{leading, HoldsAtFirst}
use Rattle.hips_catalog.specs.Rows.{Source, is_better}
use Rattle.hips_catalog.specs.Ends.{HasRank, begins_better}
use Rattle.hips_catalog.specs.Tiles.{sources}
use Rattle.hips_catalog.proofs.Order.{either, not_both, better_by_rank, better_not_back}
use Rattle.hips_catalog.proofs.Shared.{search_map, length_map}

-- ---- two ranks

lower_better : (a b : Source) → a.rank < b.rank → is_better a b ≡ true
lower_better a b h = better_by_rank a b (λ e. absurd (omega (arith, h, e))) ∙ lt-ltb a.rank b.rank h

higher_no_better : (a b : Source) → b.rank < a.rank → is_better a b ≡ false
higher_no_better a b h = better_not_back b a (lower_better b a h)

-- ---- a test that holds at the last item, or fails at the first

none_holds : {T : Type 0} (test : T → Bool) (xs : List T) (i : ℕ) → i < length xs → All (λ x. test x ≡ false) xs → IfSome (slice_get xs i) (λ x. test x ≡ true) → ⊥
none_holds test [] i h a t = absurd (omega (arith, h))
none_holds test (x ∷ xs) zero h a t = not_both (test x) t a.0
none_holds test (x ∷ xs) (suc i) h a t = none_holds test xs i (omega (arith, h)) a.1 t

holds_to_end : {T : Type 0} (test : T → Bool) (xs : List T) (i : ℕ) → i + 1 ≡ length xs → IfSome (slice_get xs i) (λ x. test x ≡ true) → HoldsAtFirst test xs → length xs ≡ leading test xs
holds_to_end test [] i e t o = refl
holds_to_end test (x ∷ []) zero e t o = sym (ap (λ b. cond b 1 0) t)
holds_to_end test (x ∷ y ∷ ys) zero e t o = absurd (omega (arith, e))
holds_to_end test (x ∷ xs) (suc i) e t o = elim (either (test x)) [
  | inl b ↦
      let h : length xs ≡ leading test xs = holds_to_end test xs i (omega (arith, e)) t (o.0 b) in
      let g : leading test (x ∷ xs) ≡ leading test xs + 1 = ap (λ c. cond c (leading test xs + 1) 0) b in omega (arith, h, g)
  | inr f ↦ absurd (none_holds test xs i (omega (arith, e)) (o.1 f) t)
]

if_some : {T : Type 0} (P Q : T → Type 0) (f : (x : T) → P x → Q x) (o : Option T) → IfSome o P → IfSome o Q
if_some P Q f None h = tt
if_some P Q f (Some x) h = f x h

-- ---- the place of a row

module _ (rows : List (Arc Source Global)) (x : Source) where
  -- a rank above the last one's
  pub past_last : (last : ℕ) → HasRank rows (length rows - 1) last → last < x.rank →
      HoldsAtFirst (λ s. is_better s x) (sources rows) → length rows ≡ leading (λ s. is_better s x) (sources rows)
  past_last last h l = search_map arc_value (λ s. is_better s x) rows (length rows) (elim rows as (λ rs. HasRank rs (length rs - 1) last → HoldsAtFirst (λ r. is_better (arc_value r) x) rs → length rs ≡ leading (λ r. is_better (arc_value r) x) rs) [
    | [] ↦ λ g o. refl
    | r ∷ rs ↦ λ g o. holds_to_end (λ r. is_better (arc_value r) x) (r ∷ rs) (length (r ∷ rs) - 1) (omega arith)
        (if_some (λ (r : Arc Source Global). (arc_value r).rank ≡ last) (λ (r : Arc Source Global). is_better (arc_value r) x ≡ true) (λ r e. lower_better (arc_value r) x (let m : (arc_value r).rank ≡ last = e in omega (arith, m, l))) (slice_get (r ∷ rs) (length (r ∷ rs) - 1)) g) o
  ] h)

  pub nothing_past : slice_get (sources rows) (length rows) ≡ Some x → ⊥
  nothing_past e = let f : None ≡ Some x = sym (slice_get_past (sources rows) (length rows) (let l : length (sources rows) ≡ length rows = length_map arc_value rows in omega (arith, l))) ∙ e in absurd (grind (arith, f))

-- a rank below the first one's
pub before_first : (rows : List (Arc Source Global)) (x : Source) (first : ℕ) → HasRank rows 0 first → x.rank < first → 0 ≡ leading (λ s. is_better s x) (sources rows)
before_first [] x first h l = refl
before_first (r ∷ rs) x first h l =
    let e : (arc_value r).rank ≡ first = h in
    sym (ap (λ b. cond b (leading (λ s. is_better s x) (sources rs) + 1) 0) (higher_no_better (arc_value r) x (omega (arith, e, l))))

pub not_first : (rows : List (Arc Source Global)) (x : Source) (first : ℕ) → HasRank rows 0 first → x.rank < first → slice_get (sources rows) 0 ≡ Some x → ⊥
not_first [] x first h l e = absurd (grind (arith, e))
not_first (r ∷ rs) x first h l e =
    let m : (arc_value r).rank ≡ first = h in
    let f : (arc_value r).rank ≡ x.rank = ap (λ o. (unwrap_or o x).rank) e in absurd (omega (arith, m, f, l))

-- ---- the first rows of two lists

first_source : (rows : List (Arc Source Global)) (z : Source) (rank : ℕ) → HasRank rows 0 rank → slice_get (sources rows) 0 ≡ Some z → z.rank ≡ rank
first_source [] z rank h e = absurd (grind (arith, e))
first_source (r ∷ rs) z rank h e = sym (ap (λ o. (unwrap_or o z).rank) e) ∙ h

pub lower_first : (rows others : List (Arc Source Global)) (first other : ℕ) → HasRank rows 0 first → HasRank others 0 other → ¬ (length rows ≡ 0) → first < other →
    (z : Source) → slice_get (sources others) 0 ≡ Some z → true ≡ begins_better (sources rows) z
lower_first [] others first other h g n l z e = absurd (n refl)
lower_first (r ∷ rs) others first other h g n l z e =
    let m : (arc_value r).rank ≡ first = h in
    let k : z.rank ≡ other = first_source others z other g e in sym (lower_better (arc_value r) z (omega (arith, m, k, l)))

pub higher_first : (rows others : List (Arc Source Global)) (first other : ℕ) → HasRank rows 0 first → HasRank others 0 other → other < first →
    (z : Source) → slice_get (sources others) 0 ≡ Some z → false ≡ begins_better (sources rows) z
higher_first [] others first other h g l z e = refl
higher_first (r ∷ rs) others first other h g l z e =
    let m : (arc_value r).rank ≡ first = h in
    let k : z.rank ≡ other = first_source others z other g e in sym (higher_no_better (arc_value r) z (omega (arith, m, k, l)))

pub both_first : (rows others : List (Arc Source Global)) (r o : Arc Source Global) → Some r ≡ slice_get rows 0 → Some o ≡ slice_get others 0 →
    (z : Source) → slice_get (sources others) 0 ≡ Some z → is_better (arc_value r) (arc_value o) ≡ begins_better (sources rows) z
both_first [] others r o e f z g = absurd (grind (arith, e))
both_first (q ∷ qs) [] r o e f z g = absurd (grind (arith, g))
both_first (q ∷ qs) (p ∷ ps) r o e f z g =
    let a : r ≡ q = ap (λ w. unwrap_or w q) e in
    let b : o ≡ p = ap (λ w. unwrap_or w p) f in
    let c : arc_value p ≡ z = ap (λ w. unwrap_or w z) g in
    ap (λ y. is_better (arc_value y) (arc_value o)) a ∙ ap (λ y. is_better (arc_value q) (arc_value y)) b ∙ ap (is_better (arc_value q)) c
