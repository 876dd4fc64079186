-- A page: the place of a key, and what a change there does to its pairs.
use Rattle.std.proofs.Common.{◌≡◌, ◌≢◌, ℕ, suc, ◌+◌, ◌<◌, ◌≤◌, ◌||◌, true, false, List, [], ◌∷◌, ◌++◌, length, take, drop, get_or, set, Some, None, refl, sym, ◌∙◌, ap, subst, arith}
use Rattle.std.specs.Prelude.{nat_lt}
use Rattle.std.specs.Arc.{arc_value}
use Rattle.std.specs.declared.sync.Arc.{Arc}
use Rattle.std.specs.List.{AllByRecursion, AllWithin, AllZip, insert}
use Rattle.std.specs.List.Sorted.{IsStrictlySortedBy, IsPartitionPoint, IsPartitionedBy}
use Rattle.std.specs.declared.cmp.Ordering.TheVariants.{Equal}
use Rattle.std.specs.Ordering.{nat_cmp}
use Rattle.std.specs.Map.{keys_of}
use Rattle.std.proofs.lemmas.Bool.Decides.{nat_tests}
use Rattle.std.proofs.lemmas.List.{take-append-drop, take-map, drop-map, drop_more, drop_all, get_or-take, length-take-le, length-map, get_or-map, map-append, set_split}
use Rattle.std.proofs.lemmas.List.Elements.{recursion_from_All}
use Rattle.std.proofs.lemmas.List.Sorted.{IsPartitionedBy-ltb}
use Rattle.std.proofs.lemmas.Map.Keys.{non_decreasing_from_sorted}
use Rattle.std.proofs.lemmas.Map.Made.{keys_of-map_values}
use Rattle.leaf_store.specs.Store.{IsAscending, value_at, with_value, without_key, any_key_in}
use Rattle.leaf_store.specs.Chunks.{first_key, AllBelow, AllAbove}
use Rattle.leaf_store.specs.Entries.{pairs_of}
use Rattle.leaf_store.specs.Places.{IsFound, IsGap}
use Rattle.leaf_store.proofs.Changed.{with_cons, equal_cmp, value_between, with_between, without_between, apart_below, apart_above, value-none, without-none, without_cons, value_cons, at-same, each-append}
use Rattle.leaf_store.proofs.Chunked.{ascending_right, ascending_left, above_keys, above_first}
use Rattle.leaf_store.proofs.LookUps.{first_below, any_between, first_is_below}

module _ {T : Type 0} where
  -- clones of the entries stand for the same pairs
  pub cloned_pairs : {Z : Type 0} (es fs : List (ℕ × Arc T Z)) → AllZip (λ e f. (f.0 ≡ e.0) × (arc_value f.1 ≡ arc_value e.1)) es fs → pairs_of fs ≡ pairs_of es
  cloned_pairs [] [] h = refl
  cloned_pairs [] (f ∷ fs) h = absurd h
  cloned_pairs (e ∷ es) [] h = absurd h
  cloned_pairs (e ∷ es) (f ∷ fs) h = let key : f.0 ≡ e.0 = h.0.0 in let value : arc_value f.1 ≡ arc_value e.1 = h.0.1 in let rest : pairs_of fs ≡ pairs_of es = cloned_pairs es fs h.1 in cc

  -- pairs at a found key
  found_parts : (key : ℕ) (ps : List (ℕ × T)) (i : ℕ) → IsFound key ps i → (value : T) × (ps ≡ take i ps ++ ((key, value) ∷ [] ++ drop (i + 1) ps)) × (drop i ps ≡ (key, value) ∷ drop (i + 1) ps)
  found_parts key [] i f = absurd (let b : i < 0 = f.bound in omega arith)
  found_parts key (p ∷ ps) i f =
      let rest : drop i (p ∷ ps) ≡ get_or (p ∷ ps) i p ∷ drop (i + 1) (p ∷ ps) = drop_more (p ∷ ps) i p f.bound in
      let first : first_key (get_or (p ∷ ps) i p ∷ drop (i + 1) (p ∷ ps)) ≡ Some key = sym (ap first_key rest) ∙ f.here in
      let same : (get_or (p ∷ ps) i p).0 ≡ key = cc in
      let all : drop i (p ∷ ps) ≡ (key, (get_or (p ∷ ps) i p).1) ∷ drop (i + 1) (p ∷ ps) = rest ∙ ap (λ k. (k, (get_or (p ∷ ps) i p).1) ∷ drop (i + 1) (p ∷ ps)) same in
      ((get_or (p ∷ ps) i p).1, sym (take-append-drop i (p ∷ ps)) ∙ ap (λ r. take i (p ∷ ps) ++ r) all, all)

  with_one : (key : ℕ) (value old : T) → with_value key value ((key, old) ∷ []) ≡ (key, value) ∷ []
  with_one key value old = with_cons key value (key, old) [] Equal (equal_cmp key key refl)

  value_one : (key : ℕ) (old : T) → value_at key ((key, old) ∷ []) ≡ Some old
  value_one key old = value_cons key (key, old) [] true (at-same key key refl)

  without_one : (key : ℕ) (old : T) → without_key key ((key, old) ∷ []) ≡ []
  without_one key old = without_cons key (key, old) [] true (at-same key key refl)

  pub found_with : (key : ℕ) (value : T) (ps : List (ℕ × T)) (i : ℕ) → IsFound key ps i → take i ps ++ ((key, value) ∷ drop (i + 1) ps) ≡ with_value key value ps
  found_with key value ps i f = let parts = found_parts key ps i f in
      ap (λ l. take i ps ++ (l ++ drop (i + 1) ps)) (sym (with_one key value parts.0)) ∙ sym (with_between key value (take i ps) ((key, parts.0) ∷ []) (drop (i + 1) ps) f.below f.above) ∙ ap (with_value key value) (sym parts.1)

  pub found_without : (key : ℕ) (ps : List (ℕ × T)) (i : ℕ) → IsFound key ps i → take i ps ++ drop (i + 1) ps ≡ without_key key ps
  found_without key ps i f = let parts = found_parts key ps i f in
      ap (λ l. take i ps ++ (l ++ drop (i + 1) ps)) (sym (without_one key parts.0)) ∙ sym (without_between key (take i ps) ((key, parts.0) ∷ []) (drop (i + 1) ps) f.below f.above) ∙ ap (without_key key) (sym parts.1)

  -- the value there
  pub found_value : (key : ℕ) (ps : List (ℕ × T)) (i : ℕ) (p : ℕ × T) → IsFound key ps i → p ≡ get_or ps i p → value_at key ps ≡ Some p.1
  found_value key ps i p f e = let parts = found_parts key ps i f in
      let rest : drop i ps ≡ p ∷ drop (i + 1) ps = drop_more ps i p f.bound ∙ ap (λ q. q ∷ drop (i + 1) ps) (sym e) in
      let same : (key, parts.0) ∷ drop (i + 1) ps ≡ p ∷ drop (i + 1) ps = sym parts.2 ∙ rest in
      let here : (key, parts.0) ≡ p = cc in
      ap (value_at key) parts.1 ∙ value_between key (take i ps) ((key, parts.0) ∷ []) (drop (i + 1) ps) f.below f.above ∙ value_one key parts.0 ∙ ap (λ q. Some q.1) here

  pub found_key : (key : ℕ) (ps : List (ℕ × T)) (i : ℕ) (p : ℕ × T) → IsFound key ps i → p ≡ get_or ps i p → p.0 ≡ key
  found_key key ps i p f e = let parts = found_parts key ps i f in
      let rest : drop i ps ≡ p ∷ drop (i + 1) ps = drop_more ps i p f.bound ∙ ap (λ q. q ∷ drop (i + 1) ps) (sym e) in
      let same : (key, parts.0) ∷ drop (i + 1) ps ≡ p ∷ drop (i + 1) ps = sym parts.2 ∙ rest in
      let here : (key, parts.0) ≡ p = cc in
      sym (ap (λ q. q.0) here)

  gap_apart : (key : ℕ) (ps : List (ℕ × T)) (i : ℕ) → IsGap key ps i → AllByRecursion (λ e. e.0 ≢ key) ps
  gap_apart key ps i f = let P : List (ℕ × T) → Type 0 = λ l. AllByRecursion (λ e. e.0 ≢ key) l in
      subst P (take-append-drop i ps) (each-append (λ e. e.0 ≢ key) (take i ps) (drop i ps) (apart_below key (take i ps) f.below) (apart_above key (drop i ps) f.above))

  pub gap_with : (key : ℕ) (value : T) (ps : List (ℕ × T)) (i : ℕ) → IsGap key ps i → take i ps ++ ((key, value) ∷ drop i ps) ≡ with_value key value ps
  gap_with key value ps i f = sym (with_between key value (take i ps) [] (drop i ps) f.below f.above) ∙ ap (with_value key value) (take-append-drop i ps)

  pub gap_without : (key : ℕ) (ps : List (ℕ × T)) (i : ℕ) → IsGap key ps i → ps ≡ without_key key ps
  gap_without key ps i f = sym (without-none key ps (gap_apart key ps i f))

  pub gap_value : (key : ℕ) (ps : List (ℕ × T)) (i : ℕ) → IsGap key ps i → value_at key ps ≡ None
  gap_value key ps i f = value-none key ps (gap_apart key ps i f)

  -- ranges
  above_of : (low : ℕ) (ps : List (ℕ × T)) (i : ℕ) → IsFound low ps i → AllAbove low (drop (i + 1) ps)
  above_of low ps i f = f.above

  any_in_one : (low high : ℕ) (old : T) → low < high → any_key_in low high ((low, old) ∷ []) ≡ true
  any_in_one low high old h = grind (arith, nat_tests)

  pub found_any : (low high : ℕ) (ps : List (ℕ × T)) (i : ℕ) → IsAscending ps → IsFound low ps i → low < high → any_key_in low high ps ≡ true
  found_any low high ps i a f h = let parts = found_parts low ps i f in let P : List (ℕ × T) → Type 0 = λ l. IsAscending l in
      ap (any_key_in low high) parts.1 ∙ any_between low high (take i ps) ((low, parts.0) ∷ []) (drop (i + 1) ps) (subst P parts.1 a) f.below f.above
      ∙ ap (λ b. b || first_below high (drop (i + 1) ps)) (any_in_one low high parts.0 h)

  gap_any : (low high : ℕ) (ps : List (ℕ × T)) (i : ℕ) → IsAscending ps → IsGap low ps i → any_key_in low high ps ≡ first_below high (drop i ps)
  gap_any low high ps i a f = let P : List (ℕ × T) → Type 0 = λ l. IsAscending l in
      ap (any_key_in low high) (sym (take-append-drop i ps)) ∙ any_between low high (take i ps) [] (drop i ps) (subst P (sym (take-append-drop i ps)) a) f.below f.above

  pub gap_any_next : (low high : ℕ) (ps : List (ℕ × T)) (i : ℕ) (p : ℕ × T) → IsAscending ps → IsGap low ps i → i < length ps → p ≡ get_or ps i p → any_key_in low high ps ≡ nat_lt p.0 high
  gap_any_next low high ps i p a f h e = gap_any low high ps i a f ∙ ap (first_below high) (drop_more ps i p h) ∙ first_is_below high (get_or ps i p).0 (get_or ps i p ∷ drop (i + 1) ps) refl ∙ ap (λ q. nat_lt q.0 high) (sym e)

  pub gap_any_last : (low high : ℕ) (ps : List (ℕ × T)) (i : ℕ) → IsAscending ps → IsGap low ps i → length ps ≤ i → any_key_in low high ps ≡ false
  gap_any_last low high ps i a f h = gap_any low high ps i a f ∙ ap (first_below high) (drop_all i ps h)

-- ---- entries and their pairs
module _ {T Z : Type 0} where
  each_pair : (P : ℕ → Type 0) (es : List (ℕ × Arc T Z)) → AllByRecursion (λ e. P e.0) es → AllByRecursion (λ p. P p.0) (pairs_of es)
  each_pair P [] h = tt
  each_pair P (e ∷ es) h = (h.0, each_pair P es h.1)

  pub pairs-append : (xs ys : List (ℕ × Arc T Z)) → pairs_of (xs ++ ys) ≡ pairs_of xs ++ pairs_of ys
  pairs-append xs ys = map-append (λ entry. (entry.0, arc_value entry.1)) xs ys

  pub pairs-take : (n : ℕ) (es : List (ℕ × Arc T Z)) → take n (pairs_of es) ≡ pairs_of (take n es)
  pairs-take n es = take-map (λ entry. (entry.0, arc_value entry.1)) n es

  pub pairs-drop : (n : ℕ) (es : List (ℕ × Arc T Z)) → drop n (pairs_of es) ≡ pairs_of (drop n es)
  pairs-drop n es = drop-map (λ entry. (entry.0, arc_value entry.1)) n es

  pub pairs-length : (es : List (ℕ × Arc T Z)) → length (pairs_of es) ≡ length es
  pairs-length es = length-map es (λ entry. (entry.0, arc_value entry.1))

  -- the entries below a key come before the others
  pub keys_part : (key : ℕ) (es : List (ℕ × Arc T Z)) → IsAscending (pairs_of es) → IsPartitionedBy (λ e. nat_lt e.0 key) es
  keys_part key es s =
      let P : List ℕ → Type 0 = λ ks. IsStrictlySortedBy nat_cmp ks in
      let sorted : IsStrictlySortedBy nat_cmp (keys_of es) = subst P (keys_of-map_values arc_value es) s in
      IsPartitionedBy-ltb (λ e. e.0) es key (λ i j d l b.
      let len : length (keys_of es) ≡ length es = length-map es (λ e. e.0) in
      let up : get_or (keys_of es) i d.0 ≤ get_or (keys_of es) j d.0 = non_decreasing_from_sorted (keys_of es) sorted i j d.0 l (omega arith) in
      let one : get_or (keys_of es) i d.0 ≡ (get_or es i d).0 = get_or-map (λ e. e.0) es i d d.0 (omega arith) in
      let two : get_or (keys_of es) j d.0 ≡ (get_or es j d).0 = get_or-map (λ e. e.0) es j d d.0 b in
      omega arith)

  below_part : (key : ℕ) (es : List (ℕ × Arc T Z)) (n : ℕ) → n ≤ length es → AllWithin (λ e. nat_lt e.0 key ≡ true) es 0 n → AllBelow key (take n (pairs_of es))
  below_part key es n h a =
      let P : List (ℕ × T) → Type 0 = λ l. AllBelow key l in
      subst P (sym (pairs-take n es)) (each_pair (λ k. k < key) (take n es) (recursion_from_All (λ e. e.0 < key) (take n es) (λ k d b.
      let len : length (take n es) ≡ n = length-take-le n es h in
      let at : nat_lt (get_or es k d).0 key ≡ true = a k d (omega arith) (omega arith) in
      let here : (get_or es k d).0 < key = grind (arith, nat_tests) in
      let Q : ℕ × Arc T Z → Type 0 = λ e. e.0 < key in
      subst Q (sym (get_or-take n es k d (omega arith))) here)))

  rest_of : (es : List (ℕ × Arc T Z)) (n : ℕ) (e : ℕ × Arc T Z) → n < length es → e ≡ get_or es n e → drop n (pairs_of es) ≡ (e.0, arc_value e.1) ∷ drop (n + 1) (pairs_of es)
  rest_of es n e h i = pairs-drop n es ∙ ap pairs_of (drop_more es n e h) ∙ ap (λ x. (x.0, arc_value x.1) ∷ pairs_of (drop (n + 1) es)) (sym i) ∙ ap (λ l. (e.0, arc_value e.1) ∷ l) (sym (pairs-drop (n + 1) es))

  ascending_rest : (es : List (ℕ × Arc T Z)) (n : ℕ) → IsAscending (pairs_of es) → IsAscending (drop n (pairs_of es))
  ascending_rest es n s = let P : List (ℕ × T) → Type 0 = λ l. IsAscending l in ascending_right (take n (pairs_of es)) (drop n (pairs_of es)) (subst P (sym (take-append-drop n (pairs_of es))) s)

  pub find_found : (key : ℕ) (es : List (ℕ × Arc T Z)) (n : ℕ) (e : ℕ × Arc T Z) → IsAscending (pairs_of es) → IsPartitionPoint (λ x. nat_lt x.0 key ≡ true) (λ x. nat_lt x.0 key ≡ false) es n
      → n < length es → e ≡ get_or es n e → e.0 ≡ key → IsFound key (pairs_of es) n
  unfolding IsStrictlySortedBy
  find_found key es n e s p h i k =
      let len : length (pairs_of es) ≡ length es = pairs-length es in
      let rest : drop n (pairs_of es) ≡ (e.0, arc_value e.1) ∷ drop (n + 1) (pairs_of es) = rest_of es n e h i in
      let P : List (ℕ × T) → Type 0 = λ l. IsAscending l in
      let up : IsAscending ((e.0, arc_value e.1) ∷ drop (n + 1) (pairs_of es)) = subst P rest (ascending_rest es n s) in
      let Q : ℕ → Type 0 = λ x. AllAbove x (drop (n + 1) (pairs_of es)) in
      record {
        bound = omega arith;
        below = below_part key es n (omega arith) p.0;
        here = ap first_key rest ∙ ap Some k;
        above = subst Q k (above_keys e.0 (drop (n + 1) (pairs_of es)) up.0);
      }

  pub find_gap : (key : ℕ) (es : List (ℕ × Arc T Z)) (n : ℕ) (e : ℕ × Arc T Z) → IsAscending (pairs_of es) → IsPartitionPoint (λ x. nat_lt x.0 key ≡ true) (λ x. nat_lt x.0 key ≡ false) es n
      → n < length es → e ≡ get_or es n e → e.0 ≢ key → IsGap key (pairs_of es) n
  find_gap key es n e s p h i k =
      let len : length (pairs_of es) ≡ length es = pairs-length es in
      let rest : drop n (pairs_of es) ≡ (e.0, arc_value e.1) ∷ drop (n + 1) (pairs_of es) = rest_of es n e h i in
      let P : List (ℕ × T) → Type 0 = λ l. IsAscending l in
      let up : IsAscending ((e.0, arc_value e.1) ∷ drop (n + 1) (pairs_of es)) = subst P rest (ascending_rest es n s) in
      let at : nat_lt (get_or es n e).0 key ≡ false = p.1 n e (omega arith) h in
      let low : key ≤ (get_or es n e).0 = grind (arith, nat_tests) in
      let same : (get_or es n e).0 ≡ e.0 = ap (λ x. x.0) (sym i) in
      let here : key < e.0 = omega arith in
      let Q : List (ℕ × T) → Type 0 = λ l. AllAbove key l in
      record {
        bound = omega arith;
        below = below_part key es n (omega arith) p.0;
        above = subst Q (sym rest) (above_first key (e.0, arc_value e.1) (drop (n + 1) (pairs_of es)) here up);
      }

  pub find_end : (key : ℕ) (es : List (ℕ × Arc T Z)) (n : ℕ) → n ≤ length es → IsPartitionPoint (λ x. nat_lt x.0 key ≡ true) (λ x. nat_lt x.0 key ≡ false) es n → length es ≤ n → IsGap key (pairs_of es) n
  find_end key es n h p l =
      let len : length (pairs_of es) ≡ length es = pairs-length es in
      let Q : List (ℕ × T) → Type 0 = λ l. AllAbove key l in
      record {
        bound = omega arith;
        below = below_part key es n h p.0;
        above = subst Q (sym (drop_all n (pairs_of es) (omega arith))) tt;
      }

  -- ---- changes of entries
  pub entry_value : (key : ℕ) (es : List (ℕ × Arc T Z)) (i : ℕ) (e : ℕ × Arc T Z) → IsFound key (pairs_of es) i → e ≡ get_or es i e → value_at key (pairs_of es) ≡ Some (arc_value e.1)
  entry_value key es i e f h =
      let bound : i < length (pairs_of es) = f.bound in
      let len : length (pairs_of es) ≡ length es = pairs-length es in
      found_value key (pairs_of es) i (e.0, arc_value e.1) f (ap (λ x. (x.0, arc_value x.1)) h ∙ sym (get_or-map (λ entry. (entry.0, arc_value entry.1)) es i e (e.0, arc_value e.1) (omega arith)))

  pub entry_key : (key : ℕ) (es : List (ℕ × Arc T Z)) (i : ℕ) (e : ℕ × Arc T Z) → IsFound key (pairs_of es) i → e ≡ get_or es i e → e.0 ≡ key
  entry_key key es i e f h =
      let bound : i < length (pairs_of es) = f.bound in
      let len : length (pairs_of es) ≡ length es = pairs-length es in
      found_key key (pairs_of es) i (e.0, arc_value e.1) f (ap (λ x. (x.0, arc_value x.1)) h ∙ sym (get_or-map (λ entry. (entry.0, arc_value entry.1)) es i e (e.0, arc_value e.1) (omega arith)))

  pub entry_set : (key : ℕ) (value : Arc T Z) (es : List (ℕ × Arc T Z)) (i : ℕ) (e : ℕ × Arc T Z) → IsFound key (pairs_of es) i → e.0 ≡ key → e.1 ≡ value → pairs_of (set es i e) ≡ with_value key (arc_value value) (pairs_of es)
  entry_set key value es i e f k v =
      let bound : i < length (pairs_of es) = f.bound in
      let len : length (pairs_of es) ≡ length es = pairs-length es in
      let one : suc i ≡ i + 1 = omega arith in
      let parts : set es i e ≡ take i es ++ (e ∷ drop (i + 1) es) = set_split es i e (omega arith) ∙ ap (λ n. take i es ++ (e ∷ drop n es)) one in
      ap pairs_of parts ∙ pairs-append (take i es) (e ∷ drop (i + 1) es)
      ∙ ap (λ l. l ++ ((e.0, arc_value e.1) ∷ pairs_of (drop (i + 1) es))) (sym (pairs-take i es))
      ∙ ap (λ l. take i (pairs_of es) ++ ((e.0, arc_value e.1) ∷ l)) (sym (pairs-drop (i + 1) es))
      ∙ ap (λ x. take i (pairs_of es) ++ ((x, arc_value e.1) ∷ drop (i + 1) (pairs_of es))) k
      ∙ ap (λ x. take i (pairs_of es) ++ ((key, arc_value x) ∷ drop (i + 1) (pairs_of es))) v
      ∙ found_with key (arc_value value) (pairs_of es) i f

  pub entry_insert : (key : ℕ) (value : Arc T Z) (es : List (ℕ × Arc T Z)) (i : ℕ) → IsGap key (pairs_of es) i → pairs_of (insert es i (key, value)) ≡ with_value key (arc_value value) (pairs_of es)
  entry_insert key value es i f = pairs-append (take i es) ((key, value) ∷ drop i es)
      ∙ ap (λ l. l ++ ((key, arc_value value) ∷ pairs_of (drop i es))) (sym (pairs-take i es))
      ∙ ap (λ l. take i (pairs_of es) ++ ((key, arc_value value) ∷ l)) (sym (pairs-drop i es))
      ∙ gap_with key (arc_value value) (pairs_of es) i f

  pub entry_remove : (key : ℕ) (es : List (ℕ × Arc T Z)) (i : ℕ) → IsFound key (pairs_of es) i → pairs_of (take i es ++ drop (i + 1) es) ≡ without_key key (pairs_of es)
  entry_remove key es i f = pairs-append (take i es) (drop (i + 1) es) ∙ ap (λ l. l ++ pairs_of (drop (i + 1) es)) (sym (pairs-take i es)) ∙ ap (λ l. take i (pairs_of es) ++ l) (sym (pairs-drop (i + 1) es)) ∙ found_without key (pairs_of es) i f

  pub entry_next : (low high : ℕ) (es : List (ℕ × Arc T Z)) (i : ℕ) (e : ℕ × Arc T Z) → IsAscending (pairs_of es) → IsGap low (pairs_of es) i → i < length es → e ≡ get_or es i e → any_key_in low high (pairs_of es) ≡ nat_lt e.0 high
  entry_next low high es i e a f h q =
      let len : length (pairs_of es) ≡ length es = pairs-length es in
      gap_any_next low high (pairs_of es) i (e.0, arc_value e.1) a f (omega arith) (ap (λ x. (x.0, arc_value x.1)) q ∙ sym (get_or-map (λ entry. (entry.0, arc_value entry.1)) es i e (e.0, arc_value e.1) h))

  pub entry_last : (low high : ℕ) (es : List (ℕ × Arc T Z)) (i : ℕ) → IsAscending (pairs_of es) → IsGap low (pairs_of es) i → length es ≤ i → any_key_in low high (pairs_of es) ≡ false
  entry_last low high es i a f h = let len : length (pairs_of es) ≡ length es = pairs-length es in gap_any_last low high (pairs_of es) i a f (omega arith)

  pub halved_pairs : (es fs bs : List (ℕ × Arc T Z)) (m : ℕ) → AllZip (λ e f. (f.0 ≡ e.0) × (arc_value f.1 ≡ arc_value e.1)) (take m es) fs → AllZip (λ e f. (f.0 ≡ e.0) × (arc_value f.1 ≡ arc_value e.1)) (drop m es) bs
      → pairs_of fs ++ pairs_of bs ≡ pairs_of es
  halved_pairs es fs bs m f b = ap (λ l. l ++ pairs_of bs) (cloned_pairs (take m es) fs f) ∙ ap (λ l. pairs_of (take m es) ++ l) (cloned_pairs (drop m es) bs b) ∙ sym (pairs-append (take m es) (drop m es)) ∙ ap pairs_of (take-append-drop m es)

  pub halved_sound : (es fs bs : List (ℕ × Arc T Z)) (m : ℕ) → AllZip (λ e f. (f.0 ≡ e.0) × (arc_value f.1 ≡ arc_value e.1)) (take m es) fs → AllZip (λ e f. (f.0 ≡ e.0) × (arc_value f.1 ≡ arc_value e.1)) (drop m es) bs
      → IsAscending (pairs_of es) → IsAscending (pairs_of fs) × IsAscending (pairs_of bs)
  halved_sound es fs bs m f b s = let P : List (ℕ × T) → Type 0 = λ l. IsAscending l in
      let whole : IsAscending (pairs_of fs ++ pairs_of bs) = subst P (sym (halved_pairs es fs bs m f b)) s in
      (ascending_left (pairs_of fs) (pairs_of bs) whole, ascending_right (pairs_of fs) (pairs_of bs) whole)

pub ascending_one : {T : Type 0} (key : ℕ) (value : T) → IsAscending ((key, value) ∷ [])
unfolding IsStrictlySortedBy
ascending_one key value = (tt, tt)
