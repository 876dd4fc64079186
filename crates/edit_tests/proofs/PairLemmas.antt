-- The pairs that entries of shared values stand for.
use Rattle.std.proofs.Common.{◌≡◌, ◌≢◌, ℕ, Bool, true, false, cond, List, [], ◌∷◌, Option, Some, None, option_map, refl, sym, ◌∙◌, ap, subst, arith, Bor}
use Rattle.std.specs.Arc.{arc_value}
use Rattle.std.specs.declared.sync.Arc.{Arc}
use Rattle.std.specs.declared.cmp.Ordering.TheVariants.{Less, Equal, Greater}
use Rattle.std.specs.Ordering.{nat_cmp, match_ordering}
use Rattle.std.specs.Option.{option_copied}
use Rattle.std.specs.List.{AllZip}
use Rattle.std.specs.List.Sorted.{IsStrictlySortedBy}
use Rattle.std.specs.Map.{lookup, keys_of, remove_entry}
use Rattle.std.specs.BTreeMap.{is_at, insert_entry}
use Rattle.std.proofs.lemmas.Bool.Decides.{nat_tests}
use Rattle.std.proofs.lemmas.Map.Made.{lookup-map_values, keys_of-map_values}
use Rattle.leaf_store.specs.Store.{IsAscending, value_at}
use Rattle.leaf_store.specs.Entries.{pairs_of}

-- a query for one key isn't at another
pub apart : (key other : ℕ) → other ≢ key → is_at (nat_cmp key) other ≡ false
apart key other h = grind (arith, nat_tests)

module _ {T Z : Type 0} where
  -- the keys are those of the entries
  pub ascending_pairs : (es : List (ℕ × Arc T Z)) → IsStrictlySortedBy nat_cmp (keys_of es) → IsAscending (pairs_of es)
  ascending_pairs es h = let P : List ℕ → Type 0 = λ ks. IsStrictlySortedBy nat_cmp ks in subst P (sym (keys_of-map_values arc_value es)) h

  -- what a look-up finds
  pub value_of_pairs : (key : ℕ) (es : List (ℕ × Arc T Z)) → value_at key (pairs_of es) ≡ option_map arc_value (lookup (is_at (nat_cmp key)) es)
  value_of_pairs key es = lookup-map_values arc_value (is_at (nat_cmp key)) es

  -- what a look-up lends
  pub value_lent : (r : Option (Bor (Arc T Z))) (found : Option (Arc T Z)) → option_copied r ≡ found → option_map (λ lent. arc_value lent.now) r ≡ option_map arc_value found
  value_lent None found e = ap (option_map arc_value) e
  value_lent (Some x) found e = ap (option_map arc_value) e

  pub pairs_of-insert_entry : (es : List (ℕ × Arc T Z)) (key : ℕ) (value : Arc T Z) → pairs_of (insert_entry nat_cmp es key value) ≡ insert_entry nat_cmp (pairs_of es) key (arc_value value)
  pairs_of-insert_entry [] key value = refl
  pairs_of-insert_entry (e ∷ es) key value = elim (nat_cmp key e.0) as (λ o. pairs_of (match_ordering o ((key, value) ∷ e ∷ es) ((e.0, value) ∷ es) (e ∷ insert_entry nat_cmp es key value))
      ≡ match_ordering o ((key, arc_value value) ∷ pairs_of (e ∷ es)) ((e.0, arc_value value) ∷ pairs_of es) ((e.0, arc_value e.1) ∷ insert_entry nat_cmp (pairs_of es) key (arc_value value))) [
        | Less ↦ refl
        | Equal ↦ refl
        | Greater ↦ ap (λ rest. (e.0, arc_value e.1) ∷ rest) (pairs_of-insert_entry es key value)
      ]

  pub pairs_of-remove_entry : (t : ℕ → Bool) (es : List (ℕ × Arc T Z)) → pairs_of (remove_entry t es) ≡ remove_entry t (pairs_of es)
  pairs_of-remove_entry t [] = refl
  pairs_of-remove_entry t (e ∷ es) = elim (t e.0) as (λ b. pairs_of (cond b es (e ∷ remove_entry t es)) ≡ cond b (pairs_of es) ((e.0, arc_value e.1) ∷ remove_entry t (pairs_of es))) [
    | true ↦ refl
    | false ↦ ap (λ rest. (e.0, arc_value e.1) ∷ rest) (pairs_of-remove_entry t es)
  ]

  -- another key's value stays where the entries' does
  pub other_stays : (key other : ℕ) (es fs : List (ℕ × Arc T Z)) → ((q : ℕ) → is_at (nat_cmp key) q ≡ false → lookup (is_at (nat_cmp q)) fs ≡ lookup (is_at (nat_cmp q)) es) → other ≢ key → value_at other (pairs_of fs) ≡ value_at other (pairs_of es)
  other_stays key other es fs stays h = value_of_pairs other fs ∙ ap (option_map arc_value) (stays other (apart key other h)) ∙ sym (value_of_pairs other es)

  -- clones of the entries stand for the same pairs
  pub cloned_pairs : (es fs : List (ℕ × Arc T Z)) → AllZip (λ e f. (f.0 ≡ e.0) × (arc_value f.1 ≡ arc_value e.1)) es fs → pairs_of fs ≡ pairs_of es
  cloned_pairs [] [] h = refl
  cloned_pairs [] (f ∷ fs) h = absurd h
  cloned_pairs (e ∷ es) [] h = absurd h
  cloned_pairs (e ∷ es) (f ∷ fs) h = let key : f.0 ≡ e.0 = h.0.0 in let value : arc_value f.1 ≡ arc_value e.1 = h.0.1 in let rest : pairs_of fs ≡ pairs_of es = cloned_pairs es fs h.1 in cc
