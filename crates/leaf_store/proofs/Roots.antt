-- The empty store, and what a call that changes a store answers.
use Rattle.std.proofs.Common.{◌≡◌, ◌≢◌, ℕ, ◌+◌, List, [], length, Option, Some, None, option_map, sym, ◌∙◌, ap}
use Rattle.std.specs.Prelude.{is_some, if◌then◌else◌, Result, Ok, Err, OnOk, OnErr, IfOk}
use Rattle.std.specs.Arc.{arc_value}
use Rattle.std.specs.declared.sync.Arc.{Arc}
use Rattle.std.specs.List.Sorted.{IsStrictlySortedBy}
use Rattle.leaf_store.specs.Store.{IsAscending, value_at, with_value, without_key}
use Rattle.leaf_store.specs.Tree.{root_entries, IsRoot, IsTree}
use Rattle.leaf_store.proofs.Changed.{value-with_same, value-with_other, length-with, length-without}

ascending_none : (T : Type 0) → IsAscending {T = T} []
unfolding IsStrictlySortedBy
ascending_none T = tt

-- no root is the empty store
pub tree_none : {T : Type 0} → IsTree {T = T} None
unfolding root_entries IsRoot
tree_none {T} = record { ascending = ascending_none T; right = tt }

abbrev pairs_more : {T : Type 0} → Option T → ℕ
pairs_more v = (if is_some v then 0 else 1)

abbrev pairs_less : {T : Type 0} → Option T → ℕ
pairs_less v = (if is_some v then 1 else 0)

-- ---- what a call that put a value, or took a key out, answers
module _ {T Z : Type 0} (key : ℕ) (ps : List (ℕ × T)) where
  grown : (old : Option (Arc T Z)) → option_map arc_value old ≡ value_at key ps → ◌≡◌ {A = ℕ} (if is_some (value_at key ps) then 0 else 1) (if is_some old then 0 else 1)
  grown None e = ap (λ v. pairs_more v) (sym e)
  grown (Some x) e = ap (λ v. pairs_more v) (sym e)

  shrunk : (old : Option (Arc T Z)) → option_map arc_value old ≡ value_at key ps → ◌≡◌ {A = ℕ} (if is_some (value_at key ps) then 1 else 0) (if is_some old then 1 else 0)
  shrunk None e = ap (λ v. pairs_less v) (sym e)
  shrunk (Some x) e = ap (λ v. pairs_less v) (sym e)

  pub removed_count : (qs : List (ℕ × T)) (old : Option (Arc T Z)) → option_map arc_value old ≡ value_at key ps → qs ≡ without_key key ps → length qs + (if is_some old then 1 else 0) ≡ length ps
  removed_count qs old o e = ap (λ l. length l + (if is_some old then 1 else 0)) e ∙ ap (λ n. length (without_key key ps) + n) (sym (shrunk old o)) ∙ length-without key ps

module _ {T Z E : Type 0} (key : ℕ) (ps qs : List (ℕ × T)) where
  pub put_there : (value : T) (r : Result (Option (Arc T Z)) E) → OnOk r (qs ≡ with_value key value ps) → OnOk r (value_at key qs ≡ Some value)
  put_there value (Ok old) e = ap (value_at key) e ∙ value-with_same key value ps
  put_there value (Err x) e = tt

  pub put_others : (value : T) (r : Result (Option (Arc T Z)) E) → OnOk r (qs ≡ with_value key value ps) → OnErr r (qs ≡ ps) → (other : ℕ) → other ≢ key → value_at other qs ≡ value_at other ps
  put_others value (Ok old) e f other h = ap (value_at other) e ∙ value-with_other key other value ps h
  put_others value (Err x) e f other h = ap (value_at other) f

  pub put_count : (value : T) (r : Result (Option (Arc T Z)) E) → IsAscending ps → IfOk r (λ old. option_map arc_value old ≡ value_at key ps) → OnOk r (qs ≡ with_value key value ps)
      → IfOk r (λ old. length qs ≡ length ps + (if is_some old then 0 else 1))
  put_count value (Ok old) a o e = ap length e ∙ length-with key value ps a ∙ ap (λ n. length ps + n) (grown key ps old o)
  put_count value (Err x) a o e = tt
