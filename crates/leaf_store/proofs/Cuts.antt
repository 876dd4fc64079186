-- Clones of slots, and a chunk that is cut in two.
use Rattle.std.proofs.Common.{◌≡◌, ℕ, ◌+◌, ◌-◌, ◌<◌, ◌≤◌, List, [], ◌∷◌, ◌++◌, length, take, drop, get_or, set, Some, refl, sym, ◌∙◌, ap, subst, arith, append_assoc}
use Rattle.std.specs.List.{AllByRecursion, AllZip, insert}
use Rattle.std.specs.Prelude.{Result, Ok, Err, OnOk, OnErr}
use Rattle.std.specs.List.Sorted.{IsStrictlySortedBy}
use Rattle.std.specs.Arc.{arc_value}
use Rattle.std.proofs.lemmas.List.{take-append-drop, drop_more, set_at, take_at, drop_at, length-take-le, length-append, length-drop, get_or_at, nil_from_length, take-set, drop-set-lt}
use Rattle.std.proofs.lemmas.List.Elements.{length_all_zip}
use Rattle.leaf_store.specs.declared.slot.Slot.{Slot}
use Rattle.leaf_store.specs.Store.{IsAscending}
use Rattle.leaf_store.specs.Chunks.{first_key, AllBelow, AllAbove, slot_pairs, slot_places, slots_pairs, IsSlot, AreSlots, IsSlotFor}
use Rattle.leaf_store.proofs.Changed.{each-append, each_left, each_right}
use Rattle.leaf_store.proofs.Chunked.{ascending_left, ascending_right, below_from_first, above_from_first, parts-append, parts-cut, pairs-cut, set_parts, pairs-set, pairs-removed}
use Rattle.leaf_store.proofs.Slots.{first-append, nonempty_from_first}

-- a clone of a slot
abbrev pub IsSame : {C : Type 0} → Slot C → Slot C → Type 0
IsSame one other = (other.first ≡ one.first) × (other.count ≡ one.count) × (arc_value other.chunk ≡ arc_value one.chunk)

-- the slots after a cut of the one at a place
abbrev pub cut_slots : {C : Type 0} → List (Slot C) → ℕ → Slot C → Slot C → List (Slot C)
cut_slots slots i front back = take i slots ++ (front ∷ back ∷ drop (i + 1) slots)

module _ {C T : Type 0} (pairs : C → List (ℕ × T)) (IsSound : C → Type 0) where
  pub same_pairs : (xs ys : List (Slot C)) → AllZip IsSame xs ys → slots_pairs pairs ys ≡ slots_pairs pairs xs
  same_pairs [] [] h = refl
  same_pairs [] (y ∷ ys) h = absurd h
  same_pairs (x ∷ xs) [] h = absurd h
  same_pairs (x ∷ xs) (y ∷ ys) h = let here : arc_value y.chunk ≡ arc_value x.chunk = h.0.2 in let rest : slots_pairs pairs ys ≡ slots_pairs pairs xs = same_pairs xs ys h.1 in
      ap (λ c. pairs c ++ slots_pairs pairs ys) here ∙ ap (λ r. slot_pairs pairs x ++ r) rest

  same_slot : (x y : Slot C) → IsSame x y → IsSlot pairs IsSound x → IsSlot pairs IsSound y
  same_slot x y h s =
      let chunk : arc_value y.chunk ≡ arc_value x.chunk = h.2 in
      let first : y.first ≡ x.first = h.0 in
      let count : y.count ≡ x.count = h.1 in
      let was : x.count ≡ length (slot_pairs pairs x) = s.count in
      record {
        first = ap (λ c. first_key (pairs c)) chunk ∙ s.first ∙ ap Some (sym first);
        count = count ∙ was ∙ ap (λ c. length (pairs c)) (sym chunk);
        sound = subst IsSound (sym chunk) s.sound;
      }

  pub same_right : (xs ys : List (Slot C)) → AllZip IsSame xs ys → AllByRecursion (IsSlot pairs IsSound) xs → AllByRecursion (IsSlot pairs IsSound) ys
  same_right [] [] h r = tt
  same_right [] (y ∷ ys) h r = absurd h
  same_right (x ∷ xs) [] h r = tt
  same_right (x ∷ xs) (y ∷ ys) h r = (same_slot x y h.0 r.0, same_right xs ys h.1 r.1)

  same_small : (places : C → ℕ) (xs ys : List (Slot C)) → AllZip IsSame xs ys → AllByRecursion (λ slot. slot_places places slot ≤ 64) xs → AllByRecursion (λ slot. slot_places places slot ≤ 64) ys
  same_small places [] [] h r = tt
  same_small places [] (y ∷ ys) h r = absurd h
  same_small places (x ∷ xs) [] h r = tt
  same_small places (x ∷ xs) (y ∷ ys) h r = (let P : C → Type 0 = λ c. places c ≤ 64 in subst P (sym h.0.2) r.0, same_small places xs ys h.1 r.1)

  pub same_slots : (places : C → ℕ) (xs ys : List (Slot C)) → AllZip IsSame xs ys → AreSlots pairs places IsSound xs → AreSlots pairs places IsSound ys
  same_slots places xs ys h s = let P : List (ℕ × T) → Type 0 = λ l. IsAscending l in record {
    right = same_right xs ys h s.right;
    small = same_small places xs ys h s.small;
    ascending = subst P (sym (same_pairs xs ys h)) s.ascending;
  }

  -- ---- a list of slots in two
  pub take_slots : (places : C → ℕ) (n : ℕ) (slots : List (Slot C)) → AreSlots pairs places IsSound slots → AreSlots pairs places IsSound (take n slots)
  take_slots places n slots s =
      let P : List (ℕ × T) → Type 0 = λ l. IsAscending l in
      let whole : slots ≡ take n slots ++ drop n slots = sym (take-append-drop n slots) in
      let R : List (Slot C) → Type 0 = λ l. AllByRecursion (IsSlot pairs IsSound) l in
      let S : List (Slot C) → Type 0 = λ l. AllByRecursion (λ slot. slot_places places slot ≤ 64) l in
      record {
        right = each_left (IsSlot pairs IsSound) (take n slots) (drop n slots) (subst R whole s.right);
        small = each_left (λ slot. slot_places places slot ≤ 64) (take n slots) (drop n slots) (subst S whole s.small);
        ascending = ascending_left (slots_pairs pairs (take n slots)) (slots_pairs pairs (drop n slots)) (subst P (ap (slots_pairs pairs) whole ∙ parts-append pairs (take n slots) (drop n slots)) s.ascending);
      }

  pub drop_slots : (places : C → ℕ) (n : ℕ) (slots : List (Slot C)) → AreSlots pairs places IsSound slots → AreSlots pairs places IsSound (drop n slots)
  drop_slots places n slots s =
      let P : List (ℕ × T) → Type 0 = λ l. IsAscending l in
      let whole : slots ≡ take n slots ++ drop n slots = sym (take-append-drop n slots) in
      let R : List (Slot C) → Type 0 = λ l. AllByRecursion (IsSlot pairs IsSound) l in
      let S : List (Slot C) → Type 0 = λ l. AllByRecursion (λ slot. slot_places places slot ≤ 64) l in
      record {
        right = each_right (IsSlot pairs IsSound) (take n slots) (drop n slots) (subst R whole s.right);
        small = each_right (λ slot. slot_places places slot ≤ 64) (take n slots) (drop n slots) (subst S whole s.small);
        ascending = ascending_right (slots_pairs pairs (take n slots)) (slots_pairs pairs (drop n slots)) (subst P (ap (slots_pairs pairs) whole ∙ parts-append pairs (take n slots) (drop n slots)) s.ascending);
      }

  -- slots have pairs
  pub some_pairs : (slots : List (Slot C)) → AllByRecursion (IsSlot pairs IsSound) slots → 0 < length slots → 0 < length (slots_pairs pairs slots)
  some_pairs [] r h = absurd (omega arith)
  some_pairs (s ∷ ss) r h = nonempty_from_first s.first (slots_pairs pairs (s ∷ ss)) (first-append s.first (slot_pairs pairs s) (slots_pairs pairs ss) r.0.first)

  pub some_slots : (slots : List (Slot C)) → 0 < length (slots_pairs pairs slots) → 0 < length slots
  some_slots [] h = h
  some_slots (s ∷ ss) h = omega arith

  -- ---- one slot in the place of another, and two
  pub replaced : (places : C → ℕ) (front back mids : List (Slot C)) (x : Slot C) → AreSlots pairs places IsSound (front ++ x ∷ back)
      → AllByRecursion (IsSlot pairs IsSound) mids → AllByRecursion (λ slot. slot_places places slot ≤ 64) mids → IsAscending (slots_pairs pairs (front ++ (mids ++ back)))
      → AreSlots pairs places IsSound (front ++ (mids ++ back))
  replaced places front back mids x s r m a = record {
    right = each-append (IsSlot pairs IsSound) front (mids ++ back) (each_left (IsSlot pairs IsSound) front (x ∷ back) s.right)
        (each-append (IsSlot pairs IsSound) mids back r (each_right (IsSlot pairs IsSound) front (x ∷ back) s.right).1);
    small = each-append (λ slot. slot_places places slot ≤ 64) front (mids ++ back) (each_left (λ slot. slot_places places slot ≤ 64) front (x ∷ back) s.small)
        (each-append (λ slot. slot_places places slot ≤ 64) mids back m (each_right (λ slot. slot_places places slot ≤ 64) front (x ∷ back) s.small).1);
    ascending = a;
  }

  place_in : (key : ℕ) (front back : List (Slot C)) (x : Slot C) (i : ℕ) → length front ≡ i → AllBelow key (slots_pairs pairs front) → AllAbove key (slots_pairs pairs back) → IsSlotFor pairs key (front ++ x ∷ back) i
  place_in key front back x i len below above =
      let more : length (front ++ x ∷ back) ≡ length front + length (x ∷ back) = length-append front (x ∷ back) in
      let one : length (front ++ x ∷ []) ≡ length front + 1 = length-append front (x ∷ []) in
      let B : List (Slot C) → Type 0 = λ l. AllBelow key (slots_pairs pairs l) in
      let A : List (Slot C) → Type 0 = λ l. AllAbove key (slots_pairs pairs l) in
      record {
        bound = omega arith;
        below = subst B (sym (take_at front (x ∷ back) i len)) below;
        above = subst A (sym (ap (drop (i + 1)) (sym (append_assoc front (x ∷ []) back)) ∙ drop_at (front ++ x ∷ []) back (i + 1) (one ∙ ap (λ n. n + 1) len))) above;
      }

  pub cut_is : (slots : List (Slot C)) (i : ℕ) (front back : Slot C) → i < length slots → set (insert slots i front) (i + 1) back ≡ cut_slots slots i front back
  cut_is slots i front back h =
      let len : length (take i slots) ≡ i = length-take-le i slots (omega arith) in
      let more : length (take i slots ++ front ∷ []) ≡ i + 1 = length-append (take i slots) (front ∷ []) ∙ ap (λ n. n + 1) len in
      let whole : insert slots i front ≡ (take i slots ++ front ∷ []) ++ (get_or slots i front ∷ drop (i + 1) slots) =
      ap (λ r. take i slots ++ front ∷ r) (drop_more slots i front h) ∙ sym (append_assoc (take i slots) (front ∷ []) (get_or slots i front ∷ drop (i + 1) slots)) in
      ap (λ l. set l (i + 1) back) whole
      ∙ set_at (take i slots ++ front ∷ []) (get_or slots i front) (drop (i + 1) slots) back (i + 1) more
      ∙ append_assoc (take i slots) (front ∷ []) (back ∷ drop (i + 1) slots)

  pub cut_pairs : (slots : List (Slot C)) (i : ℕ) (front back d : Slot C) → i < length slots → slot_pairs pairs front ++ slot_pairs pairs back ≡ slot_pairs pairs (get_or slots i d)
      → slots_pairs pairs (cut_slots slots i front back) ≡ slots_pairs pairs slots
  cut_pairs slots i front back d h e = parts-append pairs (take i slots) (front ∷ back ∷ drop (i + 1) slots)
      ∙ ap (λ l. slots_pairs pairs (take i slots) ++ l) (sym (append_assoc (slot_pairs pairs front) (slot_pairs pairs back) (slots_pairs pairs (drop (i + 1) slots))) ∙ ap (λ l. l ++ slots_pairs pairs (drop (i + 1) slots)) e)
      ∙ sym (pairs-cut pairs slots i d h)

  pub cut_sound : (places : C → ℕ) (slots : List (Slot C)) (i : ℕ) (front back d : Slot C) → i < length slots → AreSlots pairs places IsSound slots
      → slot_pairs pairs front ++ slot_pairs pairs back ≡ slot_pairs pairs (get_or slots i d)
      → IsSlot pairs IsSound front → IsSlot pairs IsSound back → slot_places places front ≤ 64 → slot_places places back ≤ 64
      → AreSlots pairs places IsSound (cut_slots slots i front back)
  cut_sound places slots i front back d h s e f b m n =
      let A : List (Slot C) → Type 0 = λ l. AreSlots pairs places IsSound l in
      let P : List (ℕ × T) → Type 0 = λ l. IsAscending l in
      replaced places (take i slots) (drop (i + 1) slots) (front ∷ back ∷ []) (get_or slots i d) (subst A (parts-cut pairs slots i d h) s) ((f, (b, tt))) ((m, (n, tt)))
      (subst P (sym (cut_pairs slots i front back d h e)) s.ascending)

  -- the key's place after the cut
  pub place_front : (key : ℕ) (slots : List (Slot C)) (i : ℕ) (front back : Slot C) → IsSlotFor pairs key slots i → IsSlot pairs IsSound back → IsAscending (slot_pairs pairs back) → key < back.first
      → IsSlotFor pairs key (cut_slots slots i front back) i
  place_front key slots i front back p b a l =
      place_in key (take i slots) (back ∷ drop (i + 1) slots) front i (length-take-le i slots (let h : i < length slots = p.bound in omega arith)) p.below
      (each-append (λ x. key < x.0) (slot_pairs pairs back) (slots_pairs pairs (drop (i + 1) slots)) (above_from_first key back.first (slot_pairs pairs back) b.first a l) p.above)

  pub place_back : (key : ℕ) (slots : List (Slot C)) (i : ℕ) (front back : Slot C) → IsSlotFor pairs key slots i → IsSlot pairs IsSound back → IsAscending (slot_pairs pairs front ++ slot_pairs pairs back) → back.first ≤ key
      → IsSlotFor pairs key (cut_slots slots i front back) (i + 1)
  place_back key slots i front back p b a l =
      let h : i < length slots = p.bound in
      let len : length (take i slots ++ front ∷ []) ≡ i + 1 = length-append (take i slots) (front ∷ []) ∙ ap (λ n. n + 1) (length-take-le i slots (omega arith)) in
      let low : AllBelow key (slot_pairs pairs front) = below_from_first key back.first (slot_pairs pairs front) (slot_pairs pairs back) b.first a l in
      let B : List (ℕ × T) → Type 0 = λ l. AllBelow key l in
      let Q : List (Slot C) → Type 0 = λ l. IsSlotFor pairs key l (i + 1) in
      subst Q (append_assoc (take i slots) (front ∷ []) (back ∷ drop (i + 1) slots))
      (place_in key (take i slots ++ front ∷ []) (drop (i + 1) slots) back (i + 1) len
      (subst B (sym (parts-append pairs (take i slots) (front ∷ []))) (each-append (λ x. x.0 < key) (slots_pairs pairs (take i slots)) (slots_pairs pairs (front ∷ [])) p.below (each-append (λ x. x.0 < key) (slot_pairs pairs front) [] low tt)))
      p.above)

  -- what stands there
  pub front_there : (slots : List (Slot C)) (i : ℕ) (front back d : Slot C) → i < length slots → get_or (cut_slots slots i front back) i d ≡ front
  front_there slots i front back d h = get_or_at (take i slots) front (back ∷ drop (i + 1) slots) d i (length-take-le i slots (omega arith))

  pub back_there : (slots : List (Slot C)) (i : ℕ) (front back d : Slot C) → i < length slots → get_or (cut_slots slots i front back) (i + 1) d ≡ back
  back_there slots i front back d h =
      let len : length (take i slots ++ front ∷ []) ≡ i + 1 = length-append (take i slots) (front ∷ []) ∙ ap (λ n. n + 1) (length-take-le i slots (omega arith)) in
      ap (λ l. get_or l (i + 1) d) (sym (append_assoc (take i slots) (front ∷ []) (back ∷ drop (i + 1) slots))) ∙ get_or_at (take i slots ++ front ∷ []) back (drop (i + 1) slots) d (i + 1) len

  pub cut_length : (slots : List (Slot C)) (i : ℕ) (front back : Slot C) → i < length slots → length (cut_slots slots i front back) ≡ length slots + 1
  cut_length slots i front back h =
      let len : length (take i slots) ≡ i = length-take-le i slots (omega arith) in
      let rest : length (drop (i + 1) slots) ≡ length slots - (i + 1) = length-drop (i + 1) slots in
      let both : length (cut_slots slots i front back) ≡ length (take i slots) + length (front ∷ back ∷ drop (i + 1) slots) = length-append (take i slots) (front ∷ back ∷ drop (i + 1) slots) in
      omega arith

  -- ---- clones of both parts
  pub halves_pairs : (slots : List (Slot C)) (m : ℕ) (xs ys : List (Slot C)) → AllZip IsSame (take m slots) xs → AllZip IsSame (drop m slots) ys → slots_pairs pairs xs ++ slots_pairs pairs ys ≡ slots_pairs pairs slots
  halves_pairs slots m xs ys f b = ap (λ l. l ++ slots_pairs pairs ys) (same_pairs (take m slots) xs f) ∙ ap (λ l. slots_pairs pairs (take m slots) ++ l) (same_pairs (drop m slots) ys b)
      ∙ sym (parts-append pairs (take m slots) (drop m slots)) ∙ ap (slots_pairs pairs) (take-append-drop m slots)

  pub halves_sound : (places : C → ℕ) (slots : List (Slot C)) (m : ℕ) (xs ys : List (Slot C)) → AllZip IsSame (take m slots) xs → AllZip IsSame (drop m slots) ys → AreSlots pairs places IsSound slots
      → AreSlots pairs places IsSound xs × AreSlots pairs places IsSound ys
  halves_sound places slots m xs ys f b s = (same_slots places (take m slots) xs f (take_slots places m slots s), same_slots places (drop m slots) ys b (drop_slots places m slots s))

  pub halves_some : (places : C → ℕ) (slots : List (Slot C)) (m : ℕ) (xs ys : List (Slot C)) → AllZip IsSame (take m slots) xs → AllZip IsSame (drop m slots) ys → AreSlots pairs places IsSound slots → 0 < m → m < length slots
      → (0 < length (slots_pairs pairs xs)) × (0 < length (slots_pairs pairs ys))
  halves_some places slots m xs ys f b s l h =
      let both = halves_sound places slots m xs ys f b s in
      let one : length (take m slots) ≡ length xs = length_all_zip IsSame (take m slots) xs f in
      let two : length (drop m slots) ≡ length ys = length_all_zip IsSame (drop m slots) ys b in
      let len : length (take m slots) ≡ m = length-take-le m slots (omega arith) in
      let rest : length (drop m slots) ≡ length slots - m = length-drop m slots in
      (some_pairs xs both.0.right (omega arith), some_pairs ys both.1.right (omega arith))

  -- a slot alone
  pub one_slots : (places : C → ℕ) (slot : Slot C) (key : ℕ) (value : T) → IsSlot pairs IsSound slot → slot_places places slot ≡ 1 → slot_pairs pairs slot ≡ (key, value) ∷ [] → AreSlots pairs places IsSound (slot ∷ [])
  unfolding IsStrictlySortedBy
  one_slots places slot key value s p e =
      let P : List (ℕ × T) → Type 0 = λ l. IsAscending l in
      record {
        right = (s, tt);
        small = (omega arith, tt);
        ascending = subst P (sym (ap (λ l. l ++ []) e)) ((tt, tt));
      }

  -- a chunk has no more pairs than all
  pub part_fits : (slots : List (Slot C)) (i : ℕ) (slot : Slot C) → i < length slots → slot ≡ get_or slots i slot → length (slot_pairs pairs slot) ≤ length (slots_pairs pairs slots)
  part_fits slots i slot h e =
      let whole : length (slots_pairs pairs slots) ≡ length (slots_pairs pairs (take i slots) ++ (slot_pairs pairs (get_or slots i slot) ++ slots_pairs pairs (drop (i + 1) slots))) = ap length (pairs-cut pairs slots i slot h) in
      let one : length (slots_pairs pairs (take i slots) ++ (slot_pairs pairs (get_or slots i slot) ++ slots_pairs pairs (drop (i + 1) slots))) ≡ length (slots_pairs pairs (take i slots)) + length (slot_pairs pairs (get_or slots i slot) ++ slots_pairs pairs (drop (i + 1) slots)) =
      length-append (slots_pairs pairs (take i slots)) (slot_pairs pairs (get_or slots i slot) ++ slots_pairs pairs (drop (i + 1) slots)) in
      let two : length (slot_pairs pairs (get_or slots i slot) ++ slots_pairs pairs (drop (i + 1) slots)) ≡ length (slot_pairs pairs (get_or slots i slot)) + length (slots_pairs pairs (drop (i + 1) slots)) =
      length-append (slot_pairs pairs (get_or slots i slot)) (slots_pairs pairs (drop (i + 1) slots)) in
      let same : length (slot_pairs pairs slot) ≡ length (slot_pairs pairs (get_or slots i slot)) = ap (λ s. length (slot_pairs pairs s)) e in
      omega arith

  -- ---- one slot in the place of another
  pub set_sound : (places : C → ℕ) (slots : List (Slot C)) (i : ℕ) (slot d : Slot C) → i < length slots → AreSlots pairs places IsSound slots → IsSlot pairs IsSound slot → slot_places places slot ≤ 64
      → IsAscending (slots_pairs pairs (set slots i slot)) → AreSlots pairs places IsSound (set slots i slot)
  set_sound places slots i slot d h s r m a =
      let A : List (Slot C) → Type 0 = λ l. AreSlots pairs places IsSound l in
      let P : List (ℕ × T) → Type 0 = λ l. IsAscending l in
      let parts : set slots i slot ≡ take i slots ++ (slot ∷ drop (i + 1) slots) = set_parts slots i slot h in
      subst A (sym parts) (replaced places (take i slots) (drop (i + 1) slots) (slot ∷ []) (get_or slots i d) (subst A (parts-cut pairs slots i d h) s) ((r, tt)) ((m, tt))
      (subst P (ap (slots_pairs pairs) parts) a))

  pub removed_sound : (places : C → ℕ) (slots : List (Slot C)) (i : ℕ) (d : Slot C) → i < length slots → AreSlots pairs places IsSound slots
      → IsAscending (slots_pairs pairs (take i slots ++ drop (i + 1) slots)) → AreSlots pairs places IsSound (take i slots ++ drop (i + 1) slots)
  removed_sound places slots i d h s a =
      let A : List (Slot C) → Type 0 = λ l. AreSlots pairs places IsSound l in
      replaced places (take i slots) (drop (i + 1) slots) [] (get_or slots i d) (subst A (parts-cut pairs slots i d h) s) tt tt a

  -- a slot that has become empty counts for nothing
  pub emptied_pairs : (slots : List (Slot C)) (i : ℕ) (slot : Slot C) → i < length slots → length (slot_pairs pairs slot) ≡ 0 → slots_pairs pairs (take i slots ++ drop (i + 1) slots) ≡ slots_pairs pairs (set slots i slot)
  emptied_pairs slots i slot h e = pairs-removed pairs slots i ∙ ap (λ l. slots_pairs pairs (take i slots) ++ (l ++ slots_pairs pairs (drop (i + 1) slots))) (sym (nil_from_length (slot_pairs pairs slot) e)) ∙ sym (pairs-set pairs slots i slot h)

-- pairs that are one list or another, as a call went
pub either_ascends : {T U E : Type 0} (r : Result U E) (ps ls rs : List (ℕ × T)) → OnOk r (ps ≡ ls) → OnErr r (ps ≡ rs) → IsAscending ls → IsAscending rs → IsAscending ps
either_ascends {T} (Ok x) ps ls rs e f a b = let P : List (ℕ × T) → Type 0 = λ l. IsAscending l in subst P (sym e) a
either_ascends {T} (Err x) ps ls rs e f a b = let P : List (ℕ × T) → Type 0 = λ l. IsAscending l in subst P (sym f) b

pub always_on_err : {U E P : Type 0} (r : Result U E) → P → OnErr r P
always_on_err (Ok x) p = tt
always_on_err (Err x) p = p

pub set_removed : {C : Type 0} (slots : List (Slot C)) (i : ℕ) (slot : Slot C) → take i (set slots i slot) ++ drop (i + 1) (set slots i slot) ≡ take i slots ++ drop (i + 1) slots
set_removed slots i slot = ap (λ l. l ++ drop (i + 1) (set slots i slot)) (take-set slots i slot) ∙ ap (λ l. take i slots ++ l) (drop-set-lt (i + 1) slots i slot (omega arith))
