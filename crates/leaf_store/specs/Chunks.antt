-- Chunks of a store, each a list of pairs: what the slots that hold them stand for, and when they are right.
use Rattle.std.specs.Prelude.{◌≡◌, ℕ, ◌+◌, ◌<◌, ◌≤◌, List, [], ◌∷◌, Option, Some, None, length, take, drop}
use Rattle.std.specs.List.{flat_map, AllByRecursion}
use Rattle.std.specs.Arc.{arc_value}
use Rattle.leaf_store.specs.declared.slot.Slot.{Slot}
use Rattle.leaf_store.specs.declared.level.Level.{Level}
use Rattle.leaf_store.specs.Store.{IsAscending}

module _ {T : Type 0} where
  -- the first key, if there is one
  abbrev pub first_key : List (ℕ × T) → Option ℕ
  first_key [] = None
  first_key (pair ∷ pairs) = Some pair.0

  -- each key is below this one
  abbrev pub AllBelow : ℕ → List (ℕ × T) → Type 0
  AllBelow key pairs = AllByRecursion (λ pair. pair.0 < key) pairs

  -- each key is this one or above it
  abbrev pub AllFrom : ℕ → List (ℕ × T) → Type 0
  AllFrom key pairs = AllByRecursion (λ pair. key ≤ pair.0) pairs

  -- each key is above this one
  abbrev pub AllAbove : ℕ → List (ℕ × T) → Type 0
  AllAbove key pairs = AllByRecursion (λ pair. key < pair.0) pairs

-- a slot's places and pairs are those of its chunk
abbrev pub slot_places : {C : Type 0} → (C → ℕ) → Slot C → ℕ
slot_places places slot = places (arc_value slot.chunk)

abbrev pub level_places : {C : Type 0} → Level C → ℕ
level_places level = length level.slots.items

module _ {C T : Type 0} where
  abbrev pub slot_pairs : (C → List (ℕ × T)) → Slot C → List (ℕ × T)
  slot_pairs pairs slot = pairs (arc_value slot.chunk)

  -- the pairs of all chunks, one chunk after another
  abbrev pub slots_pairs : (C → List (ℕ × T)) → List (Slot C) → List (ℕ × T)
  slots_pairs pairs slots = flat_map (slot_pairs pairs) slots

  abbrev pub level_pairs : (C → List (ℕ × T)) → Level C → List (ℕ × T)
  level_pairs pairs level = slots_pairs pairs level.slots.items

-- the first key and the count are those of the chunk's pairs, of which there is one at least, and the chunk is sound
pub record IsSlot {C T : Type 0} (pairs : C → List (ℕ × T)) (IsSound : C → Type 0) (slot : Slot C) : Type 0 where
  pub first : first_key (slot_pairs pairs slot) ≡ Some slot.first
  pub count : slot.count ≡ length (slot_pairs pairs slot)
  pub sound : IsSound (arc_value slot.chunk)

-- each slot is right and has at most 64 places, and the keys ascend from chunk to chunk
pub record AreSlots {C T : Type 0} (pairs : C → List (ℕ × T)) (places : C → ℕ) (IsSound : C → Type 0) (slots : List (Slot C)) : Type 0 where
  pub right : AllByRecursion (IsSlot pairs IsSound) slots
  pub small : AllByRecursion (λ slot. slot_places places slot ≤ 64) slots
  pub ascending : IsAscending (slots_pairs pairs slots)

abbrev pub IsLevel : {C T : Type 0} → (C → List (ℕ × T)) → (C → ℕ) → (C → Type 0) → Level C → Type 0
IsLevel pairs places IsSound level = AreSlots pairs places IsSound level.slots.items

-- the chunk at this place is the one that the key goes to: the chunks before it have lower keys, and those after it higher ones
pub record IsSlotFor {C T : Type 0} (pairs : C → List (ℕ × T)) (key : ℕ) (slots : List (Slot C)) (i : ℕ) : Type 0 where
  pub bound : i < length slots
  pub below : AllBelow key (slots_pairs pairs (take i slots))
  pub above : AllAbove key (slots_pairs pairs (drop (i + 1) slots))
