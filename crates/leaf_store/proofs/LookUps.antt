-- What a look-up, a range and a place among slots read.
use Rattle.std.proofs.Common.{◌≡◌, ℕ, zero, suc, ◌+◌, ◌-◌, ◌<◌, ◌≤◌, ◌&&◌, ◌||◌, Bool, true, false, List, [], ◌∷◌, ◌++◌, length, take, drop, get_or, Option, Some, None, refl, sym, ◌∙◌, ap, subst, arith}
use Rattle.std.specs.Prelude.{nat_le, nat_lt, slice_get}
use Rattle.std.specs.List.{AllByRecursion}
use Rattle.std.specs.List.Sorted.{IsStrictlySortedBy}
use Rattle.std.specs.Arc.{arc_value}
use Rattle.std.proofs.lemmas.Bool.Decides.{nat_tests}
use Rattle.std.proofs.lemmas.List.{drop_more, drop_all, length-append}
use Rattle.std.proofs.lemmas.List.Folds.{list_any-append}
use Rattle.std.proofs.lemmas.List.Elements.{All-from_recursion}
use Rattle.leaf_store.specs.declared.slot.Slot.{Slot}
use Rattle.leaf_store.specs.Store.{IsAscending, value_at, any_key_in}
use Rattle.leaf_store.specs.Chunks.{first_key, AllBelow, AllFrom, AllAbove, slot_pairs, slots_pairs, IsSlot, IsSlotFor}
use Rattle.leaf_store.proofs.Slots.{first-append}
use Rattle.leaf_store.proofs.Chunked.{value_at_place, above_keys, ascending_right, pairs-cut}

module _ {T : Type 0} where
  any-append : (low high : ℕ) (ls rs : List (ℕ × T)) → any_key_in low high (ls ++ rs) ≡ (any_key_in low high ls || any_key_in low high rs)
  any-append low high ls rs = list_any-append (λ pair. nat_le low pair.0 && nat_lt pair.0 high) ls rs

  -- keys below the range aren't in it
  pub any_below : (low high : ℕ) (ps : List (ℕ × T)) → AllBelow low ps → any_key_in low high ps ≡ false
  any_below low high [] h = refl
  any_below low high (p ∷ ps) h = let b : p.0 < low = h.0 in let out : (nat_le low p.0 && nat_lt p.0 high) ≡ false = grind (arith, nat_tests) in ap (λ x. x || any_key_in low high ps) out ∙ any_below low high ps h.1

  any_past : (low high : ℕ) (ps : List (ℕ × T)) → AllFrom high ps → any_key_in low high ps ≡ false
  any_past low high [] h = refl
  any_past low high (p ∷ ps) h = let b : high ≤ p.0 = h.0 in let out : (nat_le low p.0 && nat_lt p.0 high) ≡ false = grind (arith, nat_tests) in ap (λ x. x || any_key_in low high ps) out ∙ any_past low high ps h.1

  -- no key is between two that don't ascend
  pub none_in_range : (low high : ℕ) (ps : List (ℕ × T)) → high ≤ low → any_key_in low high ps ≡ false
  none_in_range low high [] h = refl
  none_in_range low high (p ∷ ps) h = let out : (nat_le low p.0 && nat_lt p.0 high) ≡ false = grind (arith, nat_tests) in ap (λ x. x || any_key_in low high ps) out ∙ none_in_range low high ps h

  -- whether a key below a bound comes first
  abbrev pub first_below : ℕ → List (ℕ × T) → Bool
  first_below high [] = false
  first_below high (p ∷ ps) = nat_lt p.0 high

  later_from : (high : ℕ) (p : ℕ × T) (ps : List (ℕ × T)) → high ≤ p.0 → AllAbove p.0 ps → AllFrom high ps
  later_from high p [] h k = tt
  later_from high p (q ∷ qs) h k = (let b : p.0 < q.0 = k.0 in omega arith, later_from high p qs h k.1)

  from_cases : (low high : ℕ) (p : ℕ × T) (ps : List (ℕ × T)) → IsAscending (p ∷ ps) → low ≤ p.0 → (b : Bool) → nat_lt p.0 high ≡ b → any_key_in low high (p ∷ ps) ≡ b
  unfolding IsStrictlySortedBy
  from_cases low high p ps a h true e = let here : (nat_le low p.0 && nat_lt p.0 high) ≡ true = grind (arith, nat_tests) in ap (λ x. x || any_key_in low high ps) here
  from_cases low high p ps a h false e =
      let past : high ≤ p.0 = grind (arith, nat_tests) in
      let out : (nat_le low p.0 && nat_lt p.0 high) ≡ false = grind (arith, nat_tests) in
      ap (λ x. x || any_key_in low high ps) out ∙ any_past low high ps (later_from high p ps past (above_keys p.0 ps a.0))

  -- of keys from the range's start on, the first decides
  pub any_from : (low high : ℕ) (ps : List (ℕ × T)) → IsAscending ps → AllFrom low ps → any_key_in low high ps ≡ first_below high ps
  any_from low high [] a h = refl
  any_from low high (p ∷ ps) a h = from_cases low high p ps a h.0 (nat_lt p.0 high) refl

  above_from : (key : ℕ) (ps : List (ℕ × T)) → AllAbove key ps → AllFrom key ps
  above_from key [] h = tt
  above_from key (p ∷ ps) h = (let b : key < p.0 = h.0 in omega arith, above_from key ps h.1)

  pub first_is_below : (high first : ℕ) (ps : List (ℕ × T)) → first_key ps ≡ Some first → first_below high ps ≡ nat_lt first high
  first_is_below high first [] e = absurd (let q : None ≡ Some first = e in cc)
  first_is_below high first (p ∷ ps) e = let q : p.0 ≡ first = cc in ap (λ k. nat_lt k high) q

  -- a range that begins between two lists
  pub any_between : (low high : ℕ) (ls ms rs : List (ℕ × T)) → IsAscending (ls ++ (ms ++ rs)) → AllBelow low ls → AllAbove low rs
      → any_key_in low high (ls ++ (ms ++ rs)) ≡ (any_key_in low high ms || first_below high rs)
  any_between low high ls ms rs a b f = any-append low high ls (ms ++ rs) ∙ ap (λ x. x || any_key_in low high (ms ++ rs)) (any_below low high ls b) ∙ any-append low high ms rs
      ∙ ap (λ x. any_key_in low high ms || x) (any_from low high rs (ascending_right ms rs (ascending_right ls (ms ++ rs) a)) (above_from low rs f))

  -- a pair by its place, before and after a list's end
  pub get-left : (ls rs : List (ℕ × T)) (i : ℕ) → i < length ls → slice_get (ls ++ rs) i ≡ slice_get ls i
  get-left [] rs i h = absurd (omega arith)
  get-left (l ∷ ls) rs zero h = refl
  get-left (l ∷ ls) rs (suc i) h = get-left ls rs i (omega arith)

  pub get-right : (ls rs : List (ℕ × T)) (i : ℕ) → length ls ≤ i → slice_get (ls ++ rs) i ≡ slice_get rs (i - length ls)
  get-right [] rs i h = let e : i ≡ i - 0 = omega arith in ap (slice_get rs) e
  get-right (l ∷ ls) rs zero h = absurd (omega arith)
  get-right (l ∷ ls) rs (suc i) h = let e : i - length ls ≡ suc i - suc (length ls) = omega arith in get-right ls rs i (omega arith) ∙ ap (slice_get rs) e

abbrev pub sum_of_counts : {C : Type 0} → List (Slot C) → ℕ
sum_of_counts [] = 0
sum_of_counts (slot ∷ slots) = slot.count + sum_of_counts slots

module _ {C T : Type 0} (pairs : C → List (ℕ × T)) (IsSound : C → Type 0) where
  pub slots_first : (slots : List (Slot C)) (slot : Slot C) (rest : List (Slot C)) → slots ≡ slot ∷ rest → AllByRecursion (IsSlot pairs IsSound) slots → first_key (slots_pairs pairs slots) ≡ Some slot.first
  slots_first [] slot rest e r = absurd (let q : [] ≡ slot ∷ rest = e in cc)
  slots_first (s ∷ ss) slot rest e r = let q : s ≡ slot = cc in first-append s.first (slot_pairs pairs s) (slots_pairs pairs ss) r.0.first ∙ ap (λ x. Some x.first) q

  -- the counts are those of all pairs
  pub counts_are : (slots : List (Slot C)) → AllByRecursion (IsSlot pairs IsSound) slots → sum_of_counts slots ≡ length (slots_pairs pairs slots)
  counts_are [] r = refl
  counts_are (s ∷ ss) r = let one : s.count ≡ length (slot_pairs pairs s) = r.0.count in let rest : sum_of_counts ss ≡ length (slots_pairs pairs ss) = counts_are ss r.1 in
      let both : length (slots_pairs pairs (s ∷ ss)) ≡ length (slot_pairs pairs s) + length (slots_pairs pairs ss) = length-append (slot_pairs pairs s) (slots_pairs pairs ss) in omega arith

  -- ---- what the functions of a level read
  pub level_get : (key : ℕ) (slots xs : List (Slot C)) (i : ℕ) (slot : Slot C) (chunk : C) (r : Option T) → xs ≡ slots → IsSlotFor pairs key xs i → slot ≡ get_or slots i slot → chunk ≡ arc_value slot.chunk
      → r ≡ value_at key (pairs chunk) → r ≡ value_at key (slots_pairs pairs slots)
  level_get key slots xs i slot chunk r same p e f g =
      let P : List (Slot C) → Type 0 = λ l. IsSlotFor pairs key l i in
      g ∙ ap (λ c. value_at key (pairs c)) f ∙ ap (λ s. value_at key (slot_pairs pairs s)) e ∙ sym (value_at_place pairs key slots i slot (subst P same p))

  -- a slot is right
  pub right_at : (slots : List (Slot C)) (i : ℕ) (slot : Slot C) → AllByRecursion (IsSlot pairs IsSound) slots → i < length slots → slot ≡ get_or slots i slot → IsSlot pairs IsSound slot
  right_at slots i slot r h e = let P : Slot C → Type 0 = λ s. IsSlot pairs IsSound s in subst P (sym e) (All-from_recursion (IsSlot pairs IsSound) slots r i slot h)

  rest_is : (slots : List (Slot C)) (i : ℕ) (slot : Slot C) → i < length slots → slot ≡ get_or slots i slot → drop i slots ≡ slot ∷ drop (i + 1) slots
  rest_is slots i slot h e = drop_more slots i slot h ∙ ap (λ s. s ∷ drop (i + 1) slots) (sym e)

  pub at_here : (slots : List (Slot C)) (i : ℕ) (slot : Slot C) (left : ℕ) → AllByRecursion (IsSlot pairs IsSound) slots → i < length slots → slot ≡ get_or slots i slot → left < slot.count
      → slice_get (slots_pairs pairs (drop i slots)) left ≡ slice_get (slot_pairs pairs slot) left
  at_here slots i slot left r h e l =
      let right : IsSlot pairs IsSound slot = right_at slots i slot r h e in
      let count : slot.count ≡ length (slot_pairs pairs slot) = right.count in
      ap (λ xs. slice_get (slots_pairs pairs xs) left) (rest_is slots i slot h e) ∙ get-left (slot_pairs pairs slot) (slots_pairs pairs (drop (i + 1) slots)) left (omega arith)

  pub at_next : (slots : List (Slot C)) (i : ℕ) (slot : Slot C) (left : ℕ) → AllByRecursion (IsSlot pairs IsSound) slots → i < length slots → slot ≡ get_or slots i slot → slot.count ≤ left
      → slice_get (slots_pairs pairs (drop i slots)) left ≡ slice_get (slots_pairs pairs (drop (i + 1) slots)) (left - slot.count)
  at_next slots i slot left r h e l =
      let right : IsSlot pairs IsSound slot = right_at slots i slot r h e in
      let count : slot.count ≡ length (slot_pairs pairs slot) = right.count in
      let same : left - length (slot_pairs pairs slot) ≡ left - slot.count = omega arith in
      ap (λ xs. slice_get (slots_pairs pairs xs) left) (rest_is slots i slot h e) ∙ get-right (slot_pairs pairs slot) (slots_pairs pairs (drop (i + 1) slots)) left (omega arith) ∙ ap (slice_get (slots_pairs pairs (drop (i + 1) slots))) same

  pub counts_step : (slots : List (Slot C)) (i : ℕ) (slot : Slot C) → i < length slots → slot ≡ get_or slots i slot → sum_of_counts (drop i slots) ≡ slot.count + sum_of_counts (drop (i + 1) slots)
  counts_step slots i slot h e = ap sum_of_counts (rest_is slots i slot h e)

  -- a range begins in the chunk at its start's place
  any_parts : (low high : ℕ) (slots : List (Slot C)) (i : ℕ) (slot : Slot C) → IsAscending (slots_pairs pairs slots) → IsSlotFor pairs low slots i → slot ≡ get_or slots i slot
      → any_key_in low high (slots_pairs pairs slots) ≡ (any_key_in low high (slot_pairs pairs slot) || first_below high (slots_pairs pairs (drop (i + 1) slots)))
  any_parts low high slots i slot a p e =
      let P : List (ℕ × T) → Type 0 = λ l. IsAscending l in
      let cut : slots_pairs pairs slots ≡ slots_pairs pairs (take i slots) ++ (slot_pairs pairs (get_or slots i slot) ++ slots_pairs pairs (drop (i + 1) slots)) = pairs-cut pairs slots i slot p.bound in
      ap (any_key_in low high) cut ∙ any_between low high (slots_pairs pairs (take i slots)) (slot_pairs pairs (get_or slots i slot)) (slots_pairs pairs (drop (i + 1) slots)) (subst P cut a) p.below p.above
      ∙ ap (λ s. any_key_in low high (slot_pairs pairs s) || first_below high (slots_pairs pairs (drop (i + 1) slots))) (sym e)

  pub any_here : (low high : ℕ) (slots : List (Slot C)) (i : ℕ) (slot : Slot C) → IsAscending (slots_pairs pairs slots) → IsSlotFor pairs low slots i → slot ≡ get_or slots i slot
      → any_key_in low high (slot_pairs pairs slot) ≡ true → any_key_in low high (slots_pairs pairs slots) ≡ true
  any_here low high slots i slot a p e h = any_parts low high slots i slot a p e ∙ ap (λ b. b || first_below high (slots_pairs pairs (drop (i + 1) slots))) h

  pub any_next : (low high : ℕ) (slots : List (Slot C)) (i : ℕ) (slot next : Slot C) → AllByRecursion (IsSlot pairs IsSound) slots → IsAscending (slots_pairs pairs slots) → IsSlotFor pairs low slots i → slot ≡ get_or slots i slot
      → any_key_in low high (slot_pairs pairs slot) ≡ false → i + 1 < length slots → next ≡ get_or slots (i + 1) next → any_key_in low high (slots_pairs pairs slots) ≡ nat_lt next.first high
  any_next low high slots i slot next r a p e h b f =
      let rest : drop (i + 1) slots ≡ next ∷ drop (i + 1 + 1) slots = rest_is slots (i + 1) next b f in
      let right : IsSlot pairs IsSound next = right_at slots (i + 1) next r b f in
      any_parts low high slots i slot a p e ∙ ap (λ b. b || first_below high (slots_pairs pairs (drop (i + 1) slots))) h
      ∙ ap (λ xs. first_below high (slots_pairs pairs xs)) rest
      ∙ first_is_below high next.first (slot_pairs pairs next ++ slots_pairs pairs (drop (i + 1 + 1) slots)) (first-append next.first (slot_pairs pairs next) (slots_pairs pairs (drop (i + 1 + 1) slots)) right.first)

  pub any_last : (low high : ℕ) (slots : List (Slot C)) (i : ℕ) (slot : Slot C) → IsAscending (slots_pairs pairs slots) → IsSlotFor pairs low slots i → slot ≡ get_or slots i slot
      → any_key_in low high (slot_pairs pairs slot) ≡ false → length slots ≤ i + 1 → any_key_in low high (slots_pairs pairs slots) ≡ false
  any_last low high slots i slot a p e h b =
      any_parts low high slots i slot a p e ∙ ap (λ b. b || first_below high (slots_pairs pairs (drop (i + 1) slots))) h
      ∙ ap (λ xs. first_below high (slots_pairs pairs xs)) (drop_all (i + 1) slots b)
