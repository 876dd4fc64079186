-- Whether a range of keys holds one.
use Rattle.std.proofs.Common.{◌≡◌, ℕ, ◌≤◌, ◌&&◌, ◌||◌, Bool, true, false, cond, List, [], ◌∷◌, Option, Some, None, refl, sym, ◌∙◌, arith}
use Rattle.std.specs.Prelude.{nat_le, nat_lt, is_some, filter, MatchOption}
use Rattle.std.specs.declared.sync.Arc.{Arc}
use Rattle.std.specs.List.{list_any}
use Rattle.std.specs.Ordering.{nat_cmp}
use Rattle.std.specs.declared.ops.Bound.TheVariants.{Included, Excluded}
use Rattle.std.specs.BTreeMap.Range.{range_contains, entries_between}
use Rattle.std.proofs.lemmas.Bool.Decides.{nat_tests}
use Rattle.leaf_store.specs.Store.{any_key_in}
use Rattle.leaf_store.specs.Entries.{pairs_of}

-- a filter that keeps nothing, and one that keeps something, say what its test finds
any-from_filter_none : {X : Type 0} (p : X → Bool) (xs : List X) → filter p xs ≡ [] → list_any p xs ≡ false
any-from_filter_none p [] e = refl
any-from_filter_none {X} p (x ∷ xs) e = elim (p x) as (λ b. cond b (x ∷ filter p xs) (filter p xs) ≡ [] → (b || list_any p xs) ≡ false) [
  | true ↦ λ (k : x ∷ filter p xs ≡ []). cc
  | false ↦ λ k. any-from_filter_none p xs k
] e

any-from_filter_some : {X : Type 0} (p : X → Bool) (xs : List X) (y : X) (ys : List X) → filter p xs ≡ y ∷ ys → list_any p xs ≡ true
any-from_filter_some p [] y ys e = cc
any-from_filter_some {X} p (x ∷ xs) y ys e = elim (p x) as (λ b. cond b (x ∷ filter p xs) (filter p xs) ≡ y ∷ ys → (b || list_any p xs) ≡ true) [
  | true ↦ λ k. refl
  | false ↦ λ k. any-from_filter_some p xs y ys k
] e

-- the first of what a filter keeps is there exactly where its test finds something
first_there : {X Y : Type 0} (p : X → Bool) (es rest after : List X) (r : Option Y) (item : Y → X) → MatchOption r (rest ≡ [] × after ≡ []) (λ x. rest ≡ item x ∷ after) → rest ≡ filter p es → is_some r ≡ list_any p es
first_there p es rest after None item next e = sym (any-from_filter_none p es (sym e ∙ next.0))
first_there p es rest after (Some y) item next e = sym (any-from_filter_some p es (item y) after (sym e ∙ next))

-- what a range of an ordered map's keys holds
contains-range : (low high key : ℕ) → range_contains nat_cmp (Included low) (Excluded high) key ≡ (nat_le low key && nat_lt key high)
contains-range low high key = grind (arith, nat_tests)

module _ {T Z : Type 0} where
  any_entry : (low high : ℕ) (es : List (ℕ × Arc T Z)) → list_any (λ e. range_contains nat_cmp (Included low) (Excluded high) e.0) es ≡ any_key_in low high (pairs_of es)
  any_entry low high [] = refl
  any_entry low high (e ∷ es) = let head : range_contains nat_cmp (Included low) (Excluded high) e.0 ≡ (nat_le low e.0 && nat_lt e.0 high) = contains-range low high e.0 in let rest : list_any (λ e. range_contains nat_cmp (Included low) (Excluded high) e.0) es ≡ any_key_in low high (pairs_of es) = any_entry low high es in cc

  -- the first entry between two keys is there exactly where a key is
  pub first_in_range : {Y : Type 0} (low high : ℕ) (es rest after : List (ℕ × Arc T Z)) (r : Option Y) (item : Y → ℕ × Arc T Z) → MatchOption r (rest ≡ [] × after ≡ []) (λ x. rest ≡ item x ∷ after) → rest ≡ entries_between nat_cmp (Included low) (Excluded high) es → is_some r ≡ any_key_in low high (pairs_of es)
  first_in_range low high es rest after r item next e = first_there (λ e. range_contains nat_cmp (Included low) (Excluded high) e.0) es rest after r item next e ∙ any_entry low high es

-- no key is between two that don't ascend
none_between : (low high key : ℕ) → high ≤ low → (nat_le low key && nat_lt key high) ≡ false
none_between low high key h = grind (arith, nat_tests)

pub none_in_range : {T : Type 0} (low high : ℕ) (pairs : List (ℕ × T)) → high ≤ low → any_key_in low high pairs ≡ false
none_in_range low high [] h = refl
none_in_range low high (pair ∷ pairs) h = let head : (nat_le low pair.0 && nat_lt pair.0 high) ≡ false = none_between low high pair.0 h in let rest : any_key_in low high pairs ≡ false = none_in_range low high pairs h in cc
