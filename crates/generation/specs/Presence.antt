-- Leaves that come and go, and the cover after them.
use Rattle.std.specs.Prelude.{ℕ, if◌then◌else◌, not, Bool, List, ◌∷◌, fold, is_some}
use Rattle.leaf_store.specs.Store.{value_at}
use Rattle.coverage_moc.specs.Cover.{without}
use Rattle.edit_journal.specs.Leaves.{LeafTiles}

-- a leaf comes or goes where one of the two maps alone has it
abbrev pub comes_or_goes : LeafTiles → LeafTiles → ℕ → Bool
comes_or_goes old new leaf = if is_some (value_at leaf old) then not (is_some (value_at leaf new)) else is_some (value_at leaf new)

-- the leaves with this one where the map has it, and else without it
abbrev pub as_in : LeafTiles → List ℕ → ℕ → List ℕ
as_in new leaves leaf = if is_some (value_at leaf new) then leaf ∷ leaves else without leaf leaves

-- the same of several, one after another
abbrev pub all_as_in : LeafTiles → List ℕ → List ℕ → List ℕ
all_as_in new leaves moved = fold (as_in new) leaves moved
