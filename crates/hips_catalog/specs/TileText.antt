-- A tile's text, as tab-separated values: HiPS 1.0, section 4.2. A line of the names of the columns comes first, and then a
-- line for each row.
use Rattle.std.specs.Prelude.{ℕ, List, [], ◌∷◌, ◌++◌, Option, Some, None, codes}
use Rattle.std.specs.List.{flat_map}
use Rattle.hips_catalog.specs.Rows.{Source}
use Rattle.hips_catalog.specs.Reading.{row_text}
use Rattle.hips_catalog.specs.Catalogue.{Catalogue, tile_rows}

-- the names of the columns
abbrev pub head_line : List ℕ
head_line = codes "rank\tnpix\tid\trest\n"

-- the line of a source, with its line feed
abbrev pub source_line : Source → List ℕ
source_line s = row_text s ++ codes "\n"

-- the text of a tile that holds these sources; none where it holds none
abbrev pub text_of : List Source → Option (List ℕ)
text_of [] = None
text_of (s ∷ ss) = Some (head_line ++ flat_map source_line (s ∷ ss))

-- the text of the tile of cell p of order k; none where the tile doesn't exist
abbrev pub tile_text : Catalogue → ℕ → ℕ → Option (List ℕ)
tile_text catalogue k p = text_of (tile_rows catalogue k p)
