-- The pairs that the entries of a tree stand for are the pairs of its groups.
use Rattle.std.proofs.Common.{◌≡◌, ℕ, List, [], ◌∷◌, ◌++◌, Some, refl, ◌∙◌, ap}
use Rattle.std.specs.Arc.{arc_value}
use Rattle.std.specs.declared.alloc.Global.{Global}
use Rattle.std.specs.declared.sync.Arc.{Arc}
use Rattle.std.specs.List.{flat_map}
use Rattle.std.proofs.lemmas.List.{map-append}
use Rattle.leaf_store.specs.declared.slot.Slot.{Slot}
use Rattle.leaf_store.specs.declared.level.Level.{Level}
use Rattle.leaf_store.specs.declared.page.Page.{Page}
use Rattle.leaf_store.specs.Entries.{pairs_of}
use Rattle.leaf_store.specs.Chunks.{slots_pairs}
use Rattle.leaf_store.specs.Tree.{page_entries, group_entries, group_pairs, top_pairs, root_entries, root_pairs}

module _ {T : Type 0} where
  flat_shown : {X : Type 0} (f : X → List (ℕ × Arc T Global)) (xs : List X) → pairs_of (flat_map f xs) ≡ flat_map (λ x. pairs_of (f x)) xs
  flat_shown f [] = refl
  flat_shown f (x ∷ xs) = map-append (λ entry. (entry.0, arc_value entry.1)) (f x) (flat_map f xs) ∙ ap (λ l. pairs_of (f x) ++ l) (flat_shown f xs)

  group_shown : (group : Level (Page T)) → pairs_of (group_entries group) ≡ group_pairs group
  group_shown group = flat_shown (λ slot. page_entries (arc_value slot.chunk)) group.slots.items

  groups_shown : (slots : List (Slot (Level (Page T)))) → flat_map (λ slot. pairs_of (group_entries (arc_value slot.chunk))) slots ≡ slots_pairs group_pairs slots
  groups_shown [] = refl
  groups_shown (slot ∷ slots) = ap (λ l. l ++ flat_map (λ slot. pairs_of (group_entries (arc_value slot.chunk))) slots) (group_shown (arc_value slot.chunk)) ∙ ap (λ l. group_pairs (arc_value slot.chunk) ++ l) (groups_shown slots)

  pub root_shown : (root : Slot (Level (Level (Page T)))) → root_pairs (Some root) ≡ top_pairs (arc_value root.chunk)
  unfolding root_entries
  root_shown root = flat_shown (λ slot. group_entries (arc_value slot.chunk)) (arc_value root.chunk).slots.items ∙ groups_shown (arc_value root.chunk).slots.items
