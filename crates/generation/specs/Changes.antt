-- What some edits change.
use Rattle.std.specs.Prelude.{◌≡◌, ℕ, List, [], ◌∷◌, ◌++◌, All, Contains, Option, Some, IfSome, slice_get}
use Rattle.std.specs.Map.{values_of}
use Rattle.tile_pixels.specs.Tile.{PixelTile, IsTile}
use Rattle.edit_journal.specs.Edit.{LeafEdit, leaf_of, edit_tile}
use Rattle.edit_journal.specs.Leaves.{LeafTiles, leaves_after}

-- each leaf's tile is one
abbrev pub AreTiles : LeafTiles → Type 0
AreTiles leaves = All (λ tile. IsTile tile.depth tile.n tile.numbers) (values_of leaves)

-- and that of an edit, where it has one
abbrev pub IsTileOf : Option PixelTile → Type 0
IsTileOf found = IfSome found (λ tile. IsTile tile.depth tile.n tile.numbers)

-- the same leaf numbers are in both lists
pub record AreLeavesOf (all kept : List ℕ) : Type 0 where
  pub each : All (Contains kept) all
  pub only : All (Contains all) kept

-- one edit is done to the leaves, and its leaf is noted
pub record TakesEdit (edits : List LeafEdit) (i : ℕ) (before after : LeafTiles) (noted noted' : List ℕ) : Type 0 where
  pub edit : LeafEdit
  pub is : slice_get edits i ≡ Some edit
  pub done : after ≡ leaves_after before edit
  pub tile : IsTileOf (edit_tile edit)
  pub leaf : noted' ≡ noted ++ leaf_of edit ∷ []
