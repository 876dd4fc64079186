-- Leaves by number: the map that the plain program keeps, and the leaf map that it stands for.
use Rattle.std.proofs.Common.{◌≡◌, ℕ, ◌+◌, ◌-◌, ◌*◌, ◌^◌, ◌<◌, ◌≤◌, ◌&&◌, ◌||◌, Bool, true, false, cond, List, [], ◌∷◌, Option, Some, None, sym, ◌∙◌, refl, arith}
use Rattle.std.specs.Prelude.{nat_le, nat_lt, is_some, filter, MatchOption, option_map, ℤ, Vec}
use Rattle.std.specs.List.{list_any}
use Rattle.std.specs.Map.{lookup}
use Rattle.std.specs.BTreeMap.Range.{range_contains}
use Rattle.std.specs.Ordering.{nat_cmp}
use Rattle.std.specs.declared.ops.Bound.TheVariants.{Included, Excluded}
use Rattle.std.specs.declared.alloc.Global.{Global}
use Rattle.std.proofs.lemmas.Bool.Decides.{nat_tests}
use Rattle.healpix_nested.specs.Cells.{lies_under}
use Rattle.pyramid_model.specs.Leaves.{leaf_map}
use Rattle.healpix_nested.specs.CellLaws.{under_from_range, range_under}

-- a filter that keeps nothing, and one that keeps something, say what the test finds
pub any-from_filter_none : {X : Type 0} (p : X → Bool) (xs : List X) → filter p xs ≡ [] → list_any p xs ≡ false
any-from_filter_none p [] e = refl
any-from_filter_none {X} p (x ∷ xs) e = elim (p x) as (λ b. cond b (x ∷ filter p xs) (filter p xs) ≡ [] → (b || list_any p xs) ≡ false) [
  | true ↦ λ (k : x ∷ filter p xs ≡ []). cc
  | false ↦ λ k. any-from_filter_none p xs k
] e

pub any-from_filter_some : {X : Type 0} (p : X → Bool) (xs : List X) (y : X) (ys : List X) → filter p xs ≡ y ∷ ys → list_any p xs ≡ true
any-from_filter_some p [] y ys e = cc
any-from_filter_some {X} p (x ∷ xs) y ys e = elim (p x) as (λ b. cond b (x ∷ filter p xs) (filter p xs) ≡ y ∷ ys → (b || list_any p xs) ≡ true) [
  | true ↦ λ k. refl
  | false ↦ λ k. any-from_filter_some p xs y ys k
] e

-- equal tests find alike
pub list_any-same : {X : Type 0} (p q : X → Bool) → ((x : X) → p x ≡ q x) → (xs : List X) → list_any p xs ≡ list_any q xs
list_any-same p q same [] = refl
list_any-same p q same (x ∷ xs) = let head : p x ≡ q x = same x in let rest : list_any p xs ≡ list_any q xs = list_any-same p q same xs in cc

-- what a range of an ordered map holds
pub contains-range : (first end key : ℕ) → range_contains nat_cmp (Included first) (Excluded end) key ≡ (nat_le first key && nat_lt key end)
contains-range first end key = grind (arith, nat_tests)

-- a test of the number of each leaf says the same of the leaf map
pub list_any-leaf_map : (p q : ℕ → Bool) → ((leaf : ℕ) → p leaf ≡ q leaf) → (es : List (ℕ × Vec ℤ Global)) → list_any (λ leaf. p leaf.0) es ≡ list_any (λ leaf. q leaf.0) (leaf_map es)
list_any-leaf_map p q same [] = refl
list_any-leaf_map p q same (e ∷ es) = let head : p e.0 ≡ q e.0 = same e.0 in let rest : list_any (λ leaf. p leaf.0) es ≡ list_any (λ leaf. q leaf.0) (leaf_map es) = list_any-leaf_map p q same es in cc

-- the first of what a range holds is there exactly where a test finds something
pub first_there : {X Y : Type 0} (p : X → Bool) (es rest after : List X) (r : Option Y) (item : Y → X) → MatchOption r (rest ≡ [] × after ≡ []) (λ x. rest ≡ item x ∷ after) → rest ≡ filter p es → is_some r ≡ list_any p es
first_there p es rest after None item next e = sym (any-from_filter_none p es (sym e ∙ next.0))
first_there p es rest after (Some y) item next e = sym (any-from_filter_some p es (item y) after (sym e ∙ next))

-- a test of a range is a test that holds exactly in it
same_test : (low high leaf : ℕ) (b : Bool) → (low ≤ leaf → leaf < high → b ≡ true) → (b ≡ true → (low ≤ leaf) × (leaf < high)) → (nat_le low leaf && nat_lt leaf high) ≡ b
same_test low high leaf true there back = grind (arith, nat_tests, back refl)
same_test low high leaf false there back = grind (arith, nat_tests)

-- the leaves under a cell are those in a range
pub lies_under_range : (top order p leaf : ℕ) → order ≤ top → (nat_le (p * 4 ^ (top - order)) leaf && nat_lt leaf ((p + 1) * 4 ^ (top - order))) ≡ lies_under top leaf order p
lies_under_range top order p leaf h =
    same_test (p * 4 ^ (top - order)) ((p + 1) * 4 ^ (top - order)) leaf (lies_under top leaf order p)
    (under_from_range top leaf order p h)
    (λ under. let range = range_under top leaf order p under in (range.1, range.2))

-- what the leaf map has at a number
pub lookup-leaf_map : (t : ℕ → Bool) (es : List (ℕ × Vec ℤ Global)) → lookup t (leaf_map es) ≡ option_map (λ numbers. numbers.items) (lookup t es)
lookup-leaf_map t [] = refl
lookup-leaf_map t (e ∷ es) = elim (t e.0) as (λ b. cond b (Some e.1.items) (lookup t (leaf_map es)) ≡ option_map (λ numbers. numbers.items) (cond b (Some e.1) (lookup t es))) [
  | true ↦ refl
  | false ↦ lookup-leaf_map t es
]
