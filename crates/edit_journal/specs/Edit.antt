-- An edit of one leaf tile.
use Rattle.std.specs.Prelude.{ℕ, Option, Some, None}
use Rattle.std.specs.Arc.{arc_value}
use Rattle.tile_pixels.specs.Tile.{PixelTile}
use Rattle.edit_journal.specs.declared.edit.Edit.{Edit}
use Rattle.edit_journal.specs.declared.edit.Edit.TheVariants.{Put, Add, Replace, Remove}

-- an edit as contracts see it: with the tile itself
pub data LeafEdit : Type 0 where
  put : ℕ → PixelTile → LeafEdit
  add : ℕ → PixelTile → LeafEdit
  replace : ℕ → PixelTile → LeafEdit
  remove : ℕ → LeafEdit

abbrev pub edit_of : Edit → LeafEdit
edit_of (Put leaf tile) = put leaf (arc_value tile)
edit_of (Add leaf tile) = add leaf (arc_value tile)
edit_of (Replace leaf tile) = replace leaf (arc_value tile)
edit_of (Remove leaf) = remove leaf

-- the number of its leaf
abbrev pub leaf_of : LeafEdit → ℕ
leaf_of (put leaf tile) = leaf
leaf_of (add leaf tile) = leaf
leaf_of (replace leaf tile) = leaf
leaf_of (remove leaf) = leaf

-- the tile that the leaf then has
abbrev pub edit_tile : LeafEdit → Option PixelTile
edit_tile (put leaf tile) = Some tile
edit_tile (add leaf tile) = Some tile
edit_tile (replace leaf tile) = Some tile
edit_tile (remove leaf) = None
