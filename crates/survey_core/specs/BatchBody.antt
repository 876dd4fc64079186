-- The body of a batch: entries one after another up to its end, each a line, and behind it the bytes of a tile file if the
-- line gives their length. This project's profile.
use Rattle.std.specs.Prelude.{ℕ, zero, suc, ◌-◌, nat_lt, List, [], ◌∷◌, ◌++◌, length, take, drop, ℤ, Option, Some, None, Result, Ok, Err, is_some, count_by, if◌then◌else◌}
use Rattle.survey_conf.specs.Description.{Description}
use Rattle.tile_pixels.specs.Tile.{PixelTile}
use Rattle.fits_tile.specs.Reading.{reads}
use Rattle.fits_tile.specs.declared.fault.TileFault.{TileFault}
use Rattle.edit_journal.specs.Edit.{LeafEdit, put, add, replace, remove, edit_tile}
use Rattle.survey_core.specs.Line.{line_at}
use Rattle.survey_core.specs.declared.line.Verb.{Verb}
use Rattle.survey_core.specs.declared.line.Verb.TheVariants.{Put, Add, Replace}
use Rattle.survey_core.specs.declared.line.Line.{Line}
use Rattle.survey_core.specs.declared.line.Line.TheVariants.{Tiled, Remove}
use Rattle.survey_core.specs.declared.fault.EntryFault.{EntryFault}
use Rattle.survey_core.specs.declared.fault.EntryFault.TheVariants.{Many, Line as NoLine, Short, Tile}

-- the edit of an entry that has a tile
abbrev pub edit_by : Verb → ℕ → PixelTile → LeafEdit
edit_by Put leaf tile = put leaf tile
edit_by Add leaf tile = add leaf tile
edit_by Replace leaf tile = replace leaf tile

-- an edit and the bytes that follow its entry, or the first fault of the entry
abbrev pub ReadEntry : Type 0
ReadEntry = Result (LeafEdit × List ℕ) EntryFault

-- the tile of a file with these stored numbers, or the fault of the file
abbrev pub tile_by : Description → Result (List ℤ) TileFault → Result PixelTile EntryFault
tile_by d (Ok numbers) = Ok (record { depth = d.shape.depth; n = d.shape.n; numbers = numbers })
tile_by d (Err fault) = Err (Tile fault)

unfoldable pub tile_in : Description → List ℕ → Result PixelTile EntryFault
tile_in d file = tile_by d (reads d file)

abbrev pub tiled_by : Verb → ℕ → Result PixelTile EntryFault → List ℕ → ReadEntry
tiled_by verb leaf (Ok tile) rest = Ok (edit_by verb leaf tile, rest)
tiled_by verb leaf (Err fault) rest = Err fault

-- an entry by its line and the bytes that follow this
abbrev pub entry_by : Description → Line → List ℕ → ReadEntry
entry_by d (Remove leaf) bytes = Ok (remove leaf, bytes)
entry_by d (Tiled verb leaf len) bytes =
    if nat_lt (length bytes) len then Err Short else tiled_by verb leaf (tile_in d (take len bytes)) (drop len bytes)

-- an entry if there is a line for it
abbrev pub entry_with : Description → Option (Line × List ℕ) → ReadEntry
entry_with d None = Err NoLine
entry_with d (Some found) = entry_by d found.0 found.1

-- the entry at the front of some bytes
unfoldable pub entry : Description → List ℕ → ReadEntry
entry d bytes = entry_with d (line_at d.shape.top bytes)

-- ---- all entries

-- how many entries a batch may have
abbrev pub most_entries : ℕ
most_entries = 1024

-- the edits of the entries up to the first that has a fault, and this fault where there is one: so the place of that entry
-- is the number of the edits
pub record BatchEntries : Type 0 where
  pub edits : List LeafEdit
  pub fault : Option EntryFault

abbrev pub faulty : EntryFault → BatchEntries
faulty fault = record { edits = []; fault = Some fault }

abbrev pub with_edit : LeafEdit → BatchEntries → BatchEntries
with_edit edit entries = record { edits = edit ∷ entries.edits; fault = entries.fault }

-- one entry, and then those of the bytes that follow it
abbrev pub then_entries : ReadEntry → (List ℕ → BatchEntries) → BatchEntries
then_entries (Ok read) rest = with_edit read.0 (rest read.1)
then_entries (Err fault) rest = faulty fault

-- the entries of some bytes, where no more than `room` are allowed
unfoldable pub entries_in : Description → ℕ → List ℕ → BatchEntries
entries_in d room [] = record { edits = []; fault = None }
entries_in d zero (b ∷ bytes) = faulty Many
entries_in d (suc room) (b ∷ bytes) = then_entries (entry d (b ∷ bytes)) (entries_in d room)

-- the entries of a body: one at least
unfoldable pub batch_entries : Description → List ℕ → BatchEntries
batch_entries d [] = faulty NoLine
batch_entries d (b ∷ bytes) = entries_in d most_entries (b ∷ bytes)

-- ---- how many tiles are read

-- one for a tile that is read
abbrev pub tiles_read : {X : Type 0} → Result X EntryFault → ℕ
tiles_read (Ok tile) = 1
tiles_read (Err fault) = 0

-- one for an edit that has a tile
abbrev pub entry_tiles : ReadEntry → ℕ
entry_tiles (Ok read) = if is_some (edit_tile read.0) then 1 else 0
entry_tiles (Err fault) = 0

-- how many of the edits have a tile
abbrev pub tiles_of : List LeafEdit → ℕ
tiles_of edits = count_by (λ edit. is_some (edit_tile edit)) edits

abbrev pub tile_count : BatchEntries → ℕ
tile_count entries = tiles_of entries.edits

-- ---- part by part

-- edits, and then the entries of what is left behind them
abbrev pub behind : List LeafEdit → BatchEntries → BatchEntries
behind edits entries = record { edits = edits ++ entries.edits; fault = entries.fault }

abbrev pub read_so_far : Description → List LeafEdit → List ℕ → BatchEntries
read_so_far d edits left = behind edits (entries_in d (most_entries - length edits) left)
