-- What the tree of a store stands for: pages of pairs, groups of pages, and the list of groups.
use Rattle.std.specs.Prelude.{ℕ, List, [], Option, Some, None, length}
use Rattle.std.specs.List.{AllByRecursion, flat_map}
use Rattle.std.specs.Arc.{arc_value}
use Rattle.std.specs.declared.alloc.Global.{Global}
use Rattle.std.specs.declared.sync.Arc.{Arc}
use Rattle.leaf_store.specs.declared.slot.Slot.{Slot}
use Rattle.leaf_store.specs.declared.level.Level.{Level}
use Rattle.leaf_store.specs.declared.page.Page.{Page}
use Rattle.leaf_store.specs.Entries.{pairs_of}
use Rattle.leaf_store.specs.Store.{IsAscending}
use Rattle.leaf_store.specs.Chunks.{level_pairs, level_places, IsSlot, IsLevel}

module _ {T : Type 0} where
  abbrev pub page_entries : Page T → List (ℕ × Arc T Global)
  page_entries page = page.pairs.items

  abbrev pub page_pairs : Page T → List (ℕ × T)
  page_pairs page = pairs_of (page_entries page)

  abbrev pub page_places : Page T → ℕ
  page_places page = length page.pairs.items

  abbrev pub IsPage : Page T → Type 0
  IsPage page = IsAscending (page_pairs page)

  abbrev pub group_pairs : Level (Page T) → List (ℕ × T)
  group_pairs group = level_pairs page_pairs group

  abbrev pub group_places : Level (Page T) → ℕ
  group_places group = level_places group

  abbrev pub IsGroup : Level (Page T) → Type 0
  IsGroup group = IsLevel page_pairs page_places IsPage group

  abbrev pub top_pairs : Level (Level (Page T)) → List (ℕ × T)
  top_pairs top = level_pairs group_pairs top

  abbrev pub IsTop : Level (Level (Page T)) → Type 0
  IsTop top = IsLevel group_pairs group_places IsGroup top

  -- the slots of pages, and of groups, are right
  abbrev pub AllPages : List (Slot (Page T)) → Type 0
  AllPages pages = AllByRecursion (IsSlot page_pairs IsPage) pages

  abbrev pub AllGroups : List (Slot (Level (Page T))) → Type 0
  AllGroups groups = AllByRecursion (IsSlot group_pairs IsGroup) groups

  -- the entries of all pages, page after page and group after group
  abbrev pub group_entries : Level (Page T) → List (ℕ × Arc T Global)
  group_entries group = flat_map (λ slot. page_entries (arc_value slot.chunk)) group.slots.items

  abbrev pub top_entries : Level (Level (Page T)) → List (ℕ × Arc T Global)
  top_entries top = flat_map (λ slot. group_entries (arc_value slot.chunk)) top.slots.items

  -- no root is the empty store
  unfoldable pub root_entries : Option (Slot (Level (Level (Page T)))) → List (ℕ × Arc T Global)
  root_entries None = []
  root_entries (Some root) = top_entries (arc_value root.chunk)

  -- what contracts see: a map of the entries, whatever holds these
  abbrev pub root_pairs : Option (Slot (Level (Level (Page T)))) → List (ℕ × T)
  root_pairs root = pairs_of (root_entries root)

  unfoldable pub IsRoot : Option (Slot (Level (Level (Page T)))) → Type 0
  IsRoot None = Unit {0}
  IsRoot (Some root) = IsSlot top_pairs IsTop root

-- the tree of a store: its pairs ascend, and its slots are right
pub record IsTree {T : Type 0} (root : Option (Slot (Level (Level (Page T))))) : Type 0 where
  pub ascending : IsAscending (root_pairs root)
  pub right : IsRoot root
