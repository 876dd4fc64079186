-- A slot after a change of its chunk, and the place of a key among slots.
use Rattle.std.proofs.Common.{◌≡◌, inl, inr, ℕ, zero, suc, ◌+◌, ◌-◌, ◌<◌, ◌≤◌, min, true, false, List, [], ◌∷◌, ◌++◌, length, take, drop, get_or, map, Some, None, refl, sym, ◌∙◌, ap, subst, arith}
use Rattle.std.specs.Prelude.{is_some, unwrap_or, nat_le, if◌then◌else◌}
use Rattle.std.specs.List.{AllByRecursion, AllWithin}
use Rattle.std.specs.List.Sorted.{IsPartitionPoint, IsPartitionedBy}
use Rattle.std.specs.declared.cmp.Ordering.TheVariants.{Less, Equal, Greater}
use Rattle.std.specs.Arc.{arc_value}
use Rattle.std.proofs.lemmas.Bool.Decides.{nat_tests}
use Rattle.std.proofs.lemmas.List.{take-append-drop, get_or-drop, length-drop, get_or-map, length-map}
use Rattle.std.proofs.lemmas.List.Elements.{recursion_from_All, All-from_recursion}
use Rattle.std.proofs.lemmas.List.Sorted.{IsPartitionedBy-leb}
use Rattle.std.proofs.lemmas.Map.Keys.{non_decreasing_from_sorted}
use Rattle.leaf_store.specs.declared.slot.Slot.{Slot}
use Rattle.leaf_store.specs.Store.{IsAscending, value_at, with_value}
use Rattle.leaf_store.specs.Chunks.{first_key, slot_pairs, slots_pairs, IsSlot, AreSlots, IsSlotFor}
use Rattle.leaf_store.proofs.Changed.{compared, less_cmp, equal_cmp, greater_cmp, with_cons, each_right, length-with}
use Rattle.leaf_store.proofs.Chunked.{ascending_right, below_from_first, above_slots, firsts_ascend, pairs-cut, parts-append}

module _ {T : Type 0} where
  first-with : (key : ℕ) (value : T) (first : ℕ) (ps : List (ℕ × T)) → first_key ps ≡ Some first → first_key (with_value key value ps) ≡ Some (min first key)
  first-with key value first [] h = absurd (let e : None ≡ Some first = h in cc)
  first-with key value first (p ∷ ps) h = let e : p.0 ≡ first = cc in elim (compared key p.0) [
    | inl l ↦ let m : key ≡ min first key = omega arith in ap first_key (with_cons key value p ps Less (less_cmp key p.0 l)) ∙ ap Some m
    | inr n ↦ let m : p.0 ≡ min first key = elim n [ inl q ↦ omega arith | inr g ↦ omega arith ] in elim n [
      | inl q ↦ ap first_key (with_cons key value p ps Equal (equal_cmp key p.0 q)) ∙ ap Some m
      | inr g ↦ ap first_key (with_cons key value p ps Greater (greater_cmp key p.0 g)) ∙ ap Some m
    ]
  ]

  pub first-append : (first : ℕ) (ps rs : List (ℕ × T)) → first_key ps ≡ Some first → first_key (ps ++ rs) ≡ Some first
  first-append first [] rs h = absurd (let e : None ≡ Some first = h in cc)
  first-append first (p ∷ ps) rs h = h

  pub nonempty_from_first : (first : ℕ) (ps : List (ℕ × T)) → first_key ps ≡ Some first → 0 < length ps
  nonempty_from_first first [] h = absurd (let e : None ≡ Some first = h in cc)
  nonempty_from_first first (p ∷ ps) h = omega arith

  pub first-unwrapped : (ps : List (ℕ × T)) (d : ℕ) → 0 < length ps → first_key ps ≡ Some (unwrap_or (first_key ps) d)
  first-unwrapped [] d h = absurd (omega arith)
  first-unwrapped (p ∷ ps) d h = refl

module _ {C T : Type 0} (pairs : C → List (ℕ × T)) (IsSound : C → Type 0) where
  pub slot_after_put : (one other : Slot C) (key : ℕ) (value : T) (grown : ℕ) → IsSlot pairs IsSound one → IsAscending (slot_pairs pairs one)
      → other.first ≡ min one.first key → other.count ≡ one.count + grown → grown ≡ (if is_some (value_at key (slot_pairs pairs one)) then 0 else 1)
      → slot_pairs pairs other ≡ with_value key value (slot_pairs pairs one) → IsSound (arc_value other.chunk) → IsSlot pairs IsSound other
  slot_after_put one other key value grown s a f n g e sound =
      let more : length (with_value key value (slot_pairs pairs one)) ≡ length (slot_pairs pairs one) + grown = length-with key value (slot_pairs pairs one) a ∙ ap (λ m. length (slot_pairs pairs one) + m) (sym g) in
      let len : length (slot_pairs pairs other) ≡ length (slot_pairs pairs one) + grown = ap length e ∙ more in
      let count : one.count ≡ length (slot_pairs pairs one) = s.count in
      record {
        first = ap first_key e ∙ first-with key value one.first (slot_pairs pairs one) s.first ∙ ap Some (sym f);
        count = omega arith;
        sound = sound;
      }

  -- ---- the place of a key
  each_drop : (P : Slot C → Type 0) (n : ℕ) (slots : List (Slot C)) → AllByRecursion P slots → AllByRecursion P (drop n slots)
  each_drop P n slots h = let Q : List (Slot C) → Type 0 = λ l. AllByRecursion P l in each_right P (take n slots) (drop n slots) (subst Q (sym (take-append-drop n slots)) h)

  ascending_drop : (n : ℕ) (slots : List (Slot C)) → IsAscending (slots_pairs pairs slots) → IsAscending (slots_pairs pairs (drop n slots))
  ascending_drop n slots h = let Q : List (ℕ × T) → Type 0 = λ l. IsAscending l in ascending_right (slots_pairs pairs (take n slots)) (slots_pairs pairs (drop n slots))
      (subst Q (ap (slots_pairs pairs) (sym (take-append-drop n slots)) ∙ parts-append pairs (take n slots) (drop n slots)) h)

  later_above : (key : ℕ) (slots : List (Slot C)) (n m : ℕ) → n ≤ m → AllWithin (λ slot. nat_le slot.first key ≡ false) slots n (length slots) → AllByRecursion (λ slot. key < slot.first) (drop m slots)
  later_above key slots n m l h = recursion_from_All (λ slot. key < slot.first) (drop m slots) (λ k d b.
      let len : length (drop m slots) ≡ length slots - m = length-drop m slots in
      let at : nat_le (get_or slots (m + k) d).first key ≡ false = h (m + k) d (omega arith) (omega arith) in
      let here : key < (get_or slots (m + k) d).first = grind (arith, nat_tests) in
      let P : Slot C → Type 0 = λ slot. key < slot.first in subst P (sym (get_or-drop m slots k d)) here)

  pub place_found : {places : C → ℕ} (key : ℕ) (slots : List (Slot C)) (n : ℕ) → AreSlots pairs places IsSound slots → 0 < length slots → n ≤ length slots
      → IsPartitionPoint (λ slot. nat_le slot.first key ≡ true) (λ slot. nat_le slot.first key ≡ false) slots n → IsSlotFor pairs key slots (n - 1)
  place_found key slots zero s some bound at = record {
    bound = omega arith;
    below = tt;
    above = above_slots pairs IsSound key (drop 1 slots) (each_drop (IsSlot pairs IsSound) 1 slots s.right) (ascending_drop 1 slots s.ascending) (later_above key slots 0 1 (omega arith) at.1);
  }
  place_found key [] (suc m) s some bound at = absurd (omega arith)
  place_found key (head ∷ rest) (suc m) s some bound at =
      let slots : List (Slot C) = head ∷ rest in
      let one : suc m - 1 ≡ m = omega arith in
      let inside : m < length slots = omega arith in
      let here : nat_le (get_or slots m head).first key ≡ true = at.0 m head (omega arith) (omega arith) in
      let low : (get_or slots m head).first ≤ key = grind (arith, nat_tests) in
      let right : IsSlot pairs IsSound (get_or slots m head) = All-from_recursion (IsSlot pairs IsSound) slots s.right m head inside in
      let Q : List (ℕ × T) → Type 0 = λ l. IsAscending l in
      let R : ℕ → Type 0 = λ i. IsSlotFor pairs key slots i in
      subst R (sym one) (record {
        bound = inside;
        below = below_from_first key (get_or slots m head).first (slots_pairs pairs (take m slots)) (slot_pairs pairs (get_or slots m head) ++ slots_pairs pairs (drop (m + 1) slots))
            (first-append (get_or slots m head).first (slot_pairs pairs (get_or slots m head)) (slots_pairs pairs (drop (m + 1) slots)) right.first)
            (subst Q (pairs-cut pairs slots m head inside) s.ascending) low;
        above = above_slots pairs IsSound key (drop (m + 1) slots) (each_drop (IsSlot pairs IsSound) (m + 1) slots s.right) (ascending_drop (m + 1) slots s.ascending) (later_above key slots (suc m) (m + 1) (omega arith) at.1);
      })

  -- the slots that begin at or below a key come before the others
  pub firsts_part : {places : C → ℕ} (key : ℕ) (slots : List (Slot C)) → AreSlots pairs places IsSound slots → IsPartitionedBy (λ slot. nat_le slot.first key) slots
  firsts_part key slots s = IsPartitionedBy-leb (λ slot. slot.first) slots key (λ i j d l b.
      let firsts : List ℕ = map (λ slot. slot.first) slots in
      let len : length firsts ≡ length slots = length-map slots (λ slot. slot.first) in
      let up : get_or firsts i d.first ≤ get_or firsts j d.first = non_decreasing_from_sorted firsts (firsts_ascend pairs IsSound slots s.right s.ascending) i j d.first l (omega arith) in
      let one : get_or firsts i d.first ≡ (get_or slots i d).first = get_or-map (λ slot. slot.first) slots i d d.first (omega arith) in
      let two : get_or firsts j d.first ≡ (get_or slots j d).first = get_or-map (λ slot. slot.first) slots j d d.first b in
      omega arith)
