-- Lists of slots: a key's place, and what a change of one chunk does to all pairs.
use Rattle.std.proofs.Common.{◌≡◌, ℕ, suc, ◌+◌, ◌<◌, ◌≤◌, List, [], ◌∷◌, ◌++◌, length, take, drop, get_or, set, map, Some, None, sym, ◌∙◌, ap, subst, arith}
use Rattle.std.specs.List.{AllByRecursion}
use Rattle.std.specs.List.Sorted.{IsStrictlySortedBy}
use Rattle.std.specs.declared.cmp.Ordering.TheVariants.{Less}
use Rattle.std.specs.Ordering.{nat_cmp}
use Rattle.std.specs.Map.{keys_of}
use Rattle.std.proofs.lemmas.Grind.{flat_map-append}
use Rattle.std.proofs.lemmas.List.{take-append-drop, drop_more, set_split}
use Rattle.leaf_store.specs.declared.slot.Slot.{Slot}
use Rattle.leaf_store.specs.Store.{IsAscending, value_at, with_value, without_key}
use Rattle.leaf_store.specs.Chunks.{first_key, AllBelow, AllAbove, slot_pairs, slots_pairs, IsSlot, IsSlotFor}
use Rattle.leaf_store.proofs.Changed.{less_cmp, from_less, each-append, each_left, each_right, each-weaker, value_between, with_between, without_between}

-- ---- ascending pairs in parts
module _ {T : Type 0} where
  pub ascending_right : (ls rs : List (ℕ × T)) → IsAscending (ls ++ rs) → IsAscending rs
  unfolding IsStrictlySortedBy
  ascending_right [] rs h = h
  ascending_right (l ∷ ls) rs h = ascending_right ls rs h.1

  keys_left : (P : ℕ → Type 0) (ls rs : List (ℕ × T)) → AllByRecursion P (keys_of (ls ++ rs)) → AllByRecursion P (keys_of ls)
  keys_left P [] rs h = tt
  keys_left P (l ∷ ls) rs h = (h.0, keys_left P ls rs h.1)

  keys_right : (P : ℕ → Type 0) (ls rs : List (ℕ × T)) → AllByRecursion P (keys_of (ls ++ rs)) → AllByRecursion P (keys_of rs)
  keys_right P [] rs h = h
  keys_right P (l ∷ ls) rs h = keys_right P ls rs h.1

  pub ascending_left : (ls rs : List (ℕ × T)) → IsAscending (ls ++ rs) → IsAscending ls
  unfolding IsStrictlySortedBy
  ascending_left [] rs h = tt
  ascending_left (l ∷ ls) rs h = (keys_left (λ k. nat_cmp l.0 k ≡ Less) ls rs h.0, ascending_left ls rs h.1)

  -- the keys before a pair are below its key
  pub below_middle : (ls : List (ℕ × T)) (m : ℕ × T) (rs : List (ℕ × T)) → IsAscending (ls ++ m ∷ rs) → AllBelow m.0 ls
  unfolding IsStrictlySortedBy
  below_middle [] m rs h = tt
  below_middle (l ∷ ls) m rs h = (from_less l.0 m.0 (keys_right (λ k. nat_cmp l.0 k ≡ Less) ls (m ∷ rs) h.0).0, below_middle ls m rs h.1)

  pub above_keys : (key : ℕ) (ps : List (ℕ × T)) → AllByRecursion (λ k. nat_cmp key k ≡ Less) (keys_of ps) → AllAbove key ps
  above_keys key [] h = tt
  above_keys key (p ∷ ps) h = (from_less key p.0 h.0, above_keys key ps h.1)

  -- and those after it above
  pub above_first : (key : ℕ) (p : ℕ × T) (ps : List (ℕ × T)) → key < p.0 → IsAscending (p ∷ ps) → AllAbove key (p ∷ ps)
  unfolding IsStrictlySortedBy
  above_first key p ps l h = (l, each-weaker (λ q. p.0 < q.0) (λ q. key < q.0) (λ q b. omega arith) ps (above_keys p.0 ps h.0))

  first_cons : (ps : List (ℕ × T)) (key : ℕ) → first_key ps ≡ Some key → (value : T) × (rest : List (ℕ × T)) × (ps ≡ (key, value) ∷ rest)
  first_cons [] key h = absurd (let e : None ≡ Some key = h in cc)
  first_cons (p ∷ ps) key h = let e : p.0 ≡ key = cc in (p.1, ps, ap (λ k. (k, p.1) ∷ ps) e)

  -- pairs from their first key on are above what it is above
  pub above_from_first : (key first : ℕ) (ps : List (ℕ × T)) → first_key ps ≡ Some first → IsAscending ps → key < first → AllAbove key ps
  above_from_first key first [] e h l = tt
  above_from_first key first (p ∷ ps) e h l = let q : p.0 ≡ first = cc in let m : key < p.0 = omega arith in above_first key p ps m h

  -- and pairs before them are below what it isn't above
  pub below_from_first : (key first : ℕ) (ls ps : List (ℕ × T)) → first_key ps ≡ Some first → IsAscending (ls ++ ps) → first ≤ key → AllBelow key ls
  below_from_first key first ls [] e h l = absurd (let q : None ≡ Some first = e in cc)
  below_from_first key first ls (p ∷ ps) e h l = let q : p.0 ≡ first = cc in each-weaker (λ x. x.0 < p.0) (λ x. x.0 < key) (λ x b. omega arith) ls (below_middle ls p ps h)

  above_head : (key first : ℕ) (ps : List (ℕ × T)) → first_key ps ≡ Some first → AllAbove key ps → key < first
  above_head key first [] e h = absurd (let q : None ≡ Some first = e in cc)
  above_head key first (p ∷ ps) e h = let q : p.0 ≡ first = cc in let l : key < p.0 = h.0 in omega arith

  -- the pairs after a first part are above its first key
  after_first : (first : ℕ) (ps rs : List (ℕ × T)) → first_key ps ≡ Some first → IsAscending (ps ++ rs) → AllAbove first rs
  unfolding IsStrictlySortedBy
  after_first first [] rs e h = absurd (let q : None ≡ Some first = e in cc)
  after_first first (p ∷ ps) rs e h = let q : p.0 ≡ first = cc in let P : ℕ → Type 0 = λ k. AllAbove k rs in subst P q (above_keys p.0 rs (keys_right (λ k. nat_cmp p.0 k ≡ Less) ps rs h.0))

firsts_less : {C : Type 0} (key : ℕ) (slots : List (Slot C)) → AllByRecursion (λ slot. key < slot.first) slots → AllByRecursion (λ k. nat_cmp key k ≡ Less) (map (λ slot. slot.first) slots)
firsts_less key [] h = tt
firsts_less key (slot ∷ slots) h = (less_cmp key slot.first h.0, firsts_less key slots h.1)

pub set_parts : {C : Type 0} (slots : List (Slot C)) (i : ℕ) (slot : Slot C) → i < length slots → set slots i slot ≡ take i slots ++ slot ∷ drop (i + 1) slots
set_parts slots i slot h = let one : suc i ≡ i + 1 = omega arith in set_split slots i slot h ∙ ap (λ n. take i slots ++ slot ∷ drop n slots) one

-- ---- slots in parts
module _ {C T : Type 0} (pairs : C → List (ℕ × T)) where
  pub parts-append : (xs ys : List (Slot C)) → slots_pairs pairs (xs ++ ys) ≡ slots_pairs pairs xs ++ slots_pairs pairs ys
  parts-append xs ys = flat_map-append (slot_pairs pairs) xs ys

  pub parts-cut : (slots : List (Slot C)) (i : ℕ) (d : Slot C) → i < length slots → slots ≡ take i slots ++ get_or slots i d ∷ drop (i + 1) slots
  parts-cut slots i d h = sym (take-append-drop i slots) ∙ ap (λ r. take i slots ++ r) (drop_more slots i d h)

  -- all pairs are those before a place, at it, and after it
  pub pairs-cut : (slots : List (Slot C)) (i : ℕ) (d : Slot C) → i < length slots
      → slots_pairs pairs slots ≡ slots_pairs pairs (take i slots) ++ (slot_pairs pairs (get_or slots i d) ++ slots_pairs pairs (drop (i + 1) slots))
  pairs-cut slots i d h = ap (slots_pairs pairs) (parts-cut slots i d h) ∙ parts-append (take i slots) (get_or slots i d ∷ drop (i + 1) slots)

  pub pairs-set : (slots : List (Slot C)) (i : ℕ) (slot : Slot C) → i < length slots
      → slots_pairs pairs (set slots i slot) ≡ slots_pairs pairs (take i slots) ++ (slot_pairs pairs slot ++ slots_pairs pairs (drop (i + 1) slots))
  pairs-set slots i slot h = ap (slots_pairs pairs) (set_parts slots i slot h) ∙ parts-append (take i slots) (slot ∷ drop (i + 1) slots)

  pub pairs-removed : (slots : List (Slot C)) (i : ℕ) → slots_pairs pairs (take i slots ++ drop (i + 1) slots) ≡ slots_pairs pairs (take i slots) ++ slots_pairs pairs (drop (i + 1) slots)
  pairs-removed slots i = parts-append (take i slots) (drop (i + 1) slots)

  -- a part's pairs ascend
  pub part_ascends : (slots : List (Slot C)) (i : ℕ) (d : Slot C) → i < length slots → IsAscending (slots_pairs pairs slots) → IsAscending (slot_pairs pairs (get_or slots i d))
  part_ascends slots i d h a = let P : List (ℕ × T) → Type 0 = λ l. IsAscending l in
      ascending_left (slot_pairs pairs (get_or slots i d)) (slots_pairs pairs (drop (i + 1) slots))
      (ascending_right (slots_pairs pairs (take i slots)) (slot_pairs pairs (get_or slots i d) ++ slots_pairs pairs (drop (i + 1) slots)) (subst P (pairs-cut slots i d h) a))

  -- ---- what the place of a key makes of its value and of changes
  pub value_at_place : (key : ℕ) (slots : List (Slot C)) (i : ℕ) (d : Slot C) → IsSlotFor pairs key slots i → value_at key (slots_pairs pairs slots) ≡ value_at key (slot_pairs pairs (get_or slots i d))
  value_at_place key slots i d p = ap (value_at key) (pairs-cut slots i d p.bound)
      ∙ value_between key (slots_pairs pairs (take i slots)) (slot_pairs pairs (get_or slots i d)) (slots_pairs pairs (drop (i + 1) slots)) p.below p.above

  pub with_at_place : (key : ℕ) (value : T) (slots : List (Slot C)) (i : ℕ) (d slot : Slot C) → IsSlotFor pairs key slots i
      → slot_pairs pairs slot ≡ with_value key value (slot_pairs pairs (get_or slots i d))
      → slots_pairs pairs (set slots i slot) ≡ with_value key value (slots_pairs pairs slots)
  with_at_place key value slots i d slot p e = pairs-set slots i slot p.bound
      ∙ ap (λ l. slots_pairs pairs (take i slots) ++ (l ++ slots_pairs pairs (drop (i + 1) slots))) e
      ∙ sym (with_between key value (slots_pairs pairs (take i slots)) (slot_pairs pairs (get_or slots i d)) (slots_pairs pairs (drop (i + 1) slots)) p.below p.above)
      ∙ ap (with_value key value) (sym (pairs-cut slots i d p.bound))

  pub without_at_place : (key : ℕ) (slots : List (Slot C)) (i : ℕ) (d slot : Slot C) → IsSlotFor pairs key slots i
      → slot_pairs pairs slot ≡ without_key key (slot_pairs pairs (get_or slots i d))
      → slots_pairs pairs (set slots i slot) ≡ without_key key (slots_pairs pairs slots)
  without_at_place key slots i d slot p e = pairs-set slots i slot p.bound
      ∙ ap (λ l. slots_pairs pairs (take i slots) ++ (l ++ slots_pairs pairs (drop (i + 1) slots))) e
      ∙ sym (without_between key (slots_pairs pairs (take i slots)) (slot_pairs pairs (get_or slots i d)) (slots_pairs pairs (drop (i + 1) slots)) p.below p.above)
      ∙ ap (without_key key) (sym (pairs-cut slots i d p.bound))

  pub same_at_place : (slots : List (Slot C)) (i : ℕ) (d slot : Slot C) → i < length slots
      → slot_pairs pairs slot ≡ slot_pairs pairs (get_or slots i d)
      → slots_pairs pairs (set slots i slot) ≡ slots_pairs pairs slots
  same_at_place slots i d slot h e = pairs-set slots i slot h
      ∙ ap (λ l. slots_pairs pairs (take i slots) ++ (l ++ slots_pairs pairs (drop (i + 1) slots))) e
      ∙ sym (pairs-cut slots i d h)

-- ---- slots that are right
module _ {C T : Type 0} (pairs : C → List (ℕ × T)) (IsSound : C → Type 0) where
  -- pairs of right slots that begin above a key are above it
  pub above_slots : (key : ℕ) (slots : List (Slot C)) → AllByRecursion (IsSlot pairs IsSound) slots → IsAscending (slots_pairs pairs slots) → AllByRecursion (λ slot. key < slot.first) slots → AllAbove key (slots_pairs pairs slots)
  above_slots key [] r a h = tt
  above_slots key (slot ∷ slots) r a h = each-append (λ p. key < p.0) (slot_pairs pairs slot) (slots_pairs pairs slots)
      (above_from_first key slot.first (slot_pairs pairs slot) r.0.first (ascending_left (slot_pairs pairs slot) (slots_pairs pairs slots) a) h.0)
      (above_slots key slots r.1 (ascending_right (slot_pairs pairs slot) (slots_pairs pairs slots) a) h.1)

  -- a slot begins above those before it
  above_firsts : (key : ℕ) (slots : List (Slot C)) → AllByRecursion (IsSlot pairs IsSound) slots → AllAbove key (slots_pairs pairs slots) → AllByRecursion (λ slot. key < slot.first) slots
  above_firsts key [] r h = tt
  above_firsts key (slot ∷ slots) r h = (
    above_head key slot.first (slot_pairs pairs slot) r.0.first (each_left (λ p. key < p.0) (slot_pairs pairs slot) (slots_pairs pairs slots) h),
    above_firsts key slots r.1 (each_right (λ p. key < p.0) (slot_pairs pairs slot) (slots_pairs pairs slots) h),
  )

  pub firsts_ascend : (slots : List (Slot C)) → AllByRecursion (IsSlot pairs IsSound) slots → IsAscending (slots_pairs pairs slots) → IsStrictlySortedBy nat_cmp (map (λ slot. slot.first) slots)
  unfolding IsStrictlySortedBy
  firsts_ascend [] r a = tt
  firsts_ascend (slot ∷ slots) r a = (
    firsts_less slot.first slots (above_firsts slot.first slots r.1 (after_first slot.first (slot_pairs pairs slot) (slots_pairs pairs slots) r.0.first a)),
    firsts_ascend slots r.1 (ascending_right (slot_pairs pairs slot) (slots_pairs pairs slots) a),
  )
