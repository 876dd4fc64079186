-- Which survey a write-ahead log belongs to.
use Rattle.std.specs.Prelude.{ℕ, ◌*◌, ◌/◌, ◌^◌, List, ◌++◌, flat_map}
use Rattle.std.specs.Int.{w32, to_be_bytes}
use Rattle.pyramid_model.specs.Shape.{PyramidShape}
use Rattle.tile_pixels.specs.Tile.{PixelTile}
use Rattle.edit_journal.specs.Leaves.{LeafTiles}
use Rattle.wal_frame.specs.Record.{tile_bytes}

-- how many bytes the stored numbers of a tile have
abbrev pub tile_length : PyramidShape → ℕ
tile_length shape = 4 ^ shape.n * (shape.depth.bitpix / 8)

-- a leaf: its number, and its stored numbers as in a tile file
abbrev pub leaf_bytes : ℕ × PixelTile → List ℕ
leaf_bytes leaf = to_be_bytes w32 leaf.0 ++ tile_bytes leaf.1

-- what the digest is of: the description's text, which is `properties` without its last line, and then each opening leaf, by
-- ascending number
abbrev pub survey_bytes : List ℕ → LeafTiles → List ℕ
survey_bytes text opening = text ++ flat_map leaf_bytes opening
