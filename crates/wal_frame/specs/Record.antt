-- The records of a write-ahead log (WAL), and the bytes of each. All numbers are big-endian. This project's profile.
use Rattle.std.specs.Prelude.{ℕ, ◌^◌, ◌<◌, ◌≤◌, List, [], ◌∷◌, ◌++◌, length, drop, flat_map, All, Option, Some, None, IfSome}
use Rattle.std.specs.Int.{w32, w64, to_be_bytes}
use Rattle.pyramid_model.specs.Shape.{PyramidShape}
use Rattle.tile_pixels.specs.Stored.{stored_bytes}
use Rattle.tile_pixels.specs.Tile.{PixelTile, IsTile}
use Rattle.edit_journal.specs.Edit.{LeafEdit, put, add, replace, remove, leaf_of, edit_tile}
use Rattle.edit_journal.specs.Leaves.{FitsEdit}

-- a batch of edits that was accepted, or a publication of the first so many edits
pub data WalRecord : Type 0 where
  batch : List LeafEdit → WalRecord
  publication : ℕ → WalRecord

-- the stored numbers of a tile, as in a tile file
abbrev pub tile_bytes : PixelTile → List ℕ
tile_bytes tile = stored_bytes tile.depth.bitpix tile.numbers

-- the number of an edit's form
abbrev pub form_of : LeafEdit → ℕ
form_of (put leaf tile) = 1
form_of (add leaf tile) = 2
form_of (replace leaf tile) = 3
form_of (remove leaf) = 4

-- the stored numbers of an edit's tile; a Remove has none
abbrev pub stored_in : Option PixelTile → List ℕ
stored_in (Some tile) = tile_bytes tile
stored_in None = []

abbrev pub stored_of : LeafEdit → List ℕ
stored_of edit = stored_in (edit_tile edit)

-- an edit: its form, its leaf, and its stored numbers
unfoldable pub edit_bytes : LeafEdit → List ℕ
edit_bytes edit = form_of edit ∷ (to_be_bytes w32 (leaf_of edit) ++ stored_of edit)

-- the kind of a record, and its payload: the number of edits and then each, or the tip
abbrev pub kind_of : WalRecord → ℕ
kind_of (batch edits) = 1
kind_of (publication tip) = 2

abbrev pub payload : WalRecord → List ℕ
payload (batch edits) = to_be_bytes w32 (length edits) ++ flat_map edit_bytes edits
payload (publication tip) = to_be_bytes w32 tip

-- the gate and the kind, then the payload's length twice
abbrev pub record_head : ℕ → ℕ → List ℕ
record_head kind count = 1 ∷ (kind ∷ (to_be_bytes w64 count ++ to_be_bytes w64 count))

-- a record whose gate is open
abbrev pub record_bytes : WalRecord → List ℕ
record_bytes r = record_head (kind_of r) (length (payload r)) ++ payload r

-- what stands behind its gate
abbrev pub record_body : WalRecord → List ℕ
record_body r = drop 1 (record_bytes r)

-- an edit that a survey of that shape may have, with a tile where it has one
pub record FitsWal (shape : PyramidShape) (edit : LeafEdit) : Type 0 where
  pub fits : FitsEdit shape edit
  pub tile : IfSome (edit_tile edit) (λ tile. IsTile tile.depth tile.n tile.numbers)

-- a record that the WAL of a survey of that shape may have: 1 to 1,024 edits, or a tip
abbrev pub FitsRecord : PyramidShape → WalRecord → Type 0
FitsRecord shape (batch edits) = (0 < length edits) × (length edits ≤ 1024) × All (FitsWal shape) edits
FitsRecord shape (publication tip) = tip < 2 ^ 32
