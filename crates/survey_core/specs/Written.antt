-- How the entries of a batch body are written: byte for byte, apart from how they are read.
use Rattle.std.specs.Prelude.{◌≡◌, ◌⊎◌, ℕ, ◌^◌, ◌<◌, ◌≤◌, List, [], ◌∷◌, ◌++◌, length, codes, decimal, Ok, Err, Some, None}
use Rattle.healpix_nested.specs.Cells.{cell_count}
use Rattle.survey_conf.specs.Description.{Description, IsDescription}
use Rattle.tile_pixels.specs.Tile.{PixelTile}
use Rattle.fits_tile.specs.Reading.{reads}
use Rattle.edit_journal.specs.Edit.{LeafEdit, remove}
use Rattle.survey_core.specs.Line.{space, line_feed}
use Rattle.survey_core.specs.BatchBody.{edit_by, tile_in, most_entries, batch_entries}
use Rattle.survey_core.specs.declared.line.Verb.{Verb}
use Rattle.survey_core.specs.declared.line.Verb.TheVariants.{Put, Add, Replace}
use Rattle.survey_core.specs.declared.line.Line.{Line}
use Rattle.survey_core.specs.declared.line.Line.TheVariants.{Tiled, Remove}
use Rattle.survey_core.specs.declared.fault.EntryFault.{EntryFault}
use Rattle.survey_core.specs.declared.fault.EntryFault.TheVariants.{Many, Line as NoLine, Short, Tile}

abbrev pub verb_text : Verb → List ℕ
verb_text Put = codes "put"
verb_text Add = codes "add"
verb_text Replace = codes "replace"

-- a line, up to its line feed
abbrev pub line_text : Line → List ℕ
line_text (Tiled verb leaf len) = verb_text verb ++ (space ∷ (decimal leaf ++ (space ∷ decimal len)))
line_text (Remove leaf) = codes "remove" ++ (space ∷ decimal leaf)

-- its numbers are in range, where the leaves are of order `top`
abbrev pub FitsLine : ℕ → Line → Type 0
FitsLine top (Tiled verb leaf len) = (leaf < cell_count top) × (len < 2 ^ 32)
FitsLine top (Remove leaf) = leaf < cell_count top

-- the edit of a line and of the bytes behind it: as many as the line says, the file of a tile; or none
abbrev pub IsEditOf : Description → Line → List ℕ → LeafEdit → Type 0
IsEditOf d (Tiled verb leaf len) file edit = (tile : PixelTile) × (length file ≡ len) × (tile_in d file ≡ Ok tile) × (edit ≡ edit_by verb leaf tile)
IsEditOf d (Remove leaf) file edit = (file ≡ []) × (edit ≡ remove leaf)

-- the bytes are an entry with this edit
pub record IsEntry (d : Description) (bytes : List ℕ) (edit : LeafEdit) : Type 0 where
  pub line : Line
  pub file : List ℕ
  pub fits : FitsLine d.shape.top line
  pub written : bytes ≡ line_text line ++ (line_feed ∷ file)
  pub is : IsEditOf d line file edit

-- the bytes are entries with these edits, one after another
abbrev pub AreEntries : Description → List LeafEdit → List ℕ → Type 0
AreEntries d [] bytes = bytes ≡ []
AreEntries d (edit ∷ edits) bytes = (front : List ℕ) × (rest : List ℕ) × (bytes ≡ front ++ rest) × IsEntry d front edit × AreEntries d edits rest

-- a body of 1 to 1,024 entries is read as their edits, and what is read as edits is such a body
pub record BodiesAreEntries : Type 0 where
  pub read : (d : Description) (edits : List LeafEdit) (body : List ℕ) → IsDescription d → 0 < length edits → length edits ≤ most_entries → AreEntries d edits body →
      batch_entries d body ≡ record { edits = edits; fault = None }
  pub written : (d : Description) (edits : List LeafEdit) (body : List ℕ) → IsDescription d → batch_entries d body ≡ record { edits = edits; fault = None } → AreEntries d edits body

-- ---- a body that is refused

-- the bytes begin with that line, and these follow
abbrev pub BeginsWith : ℕ → Line → List ℕ → List ℕ → Type 0
BeginsWith top line rest bytes = FitsLine top line × (bytes ≡ line_text line ++ (line_feed ∷ rest))

-- behind so many entries the bytes, which are no entry, have this fault, and none that comes before it: there are as many
-- entries as a body may have; or no line begins the bytes; or fewer bytes follow than their line says; or as many, which are
-- no tile
abbrev pub HasFault : Description → ℕ → List ℕ → EntryFault → Type 0
HasFault d count bytes Many = count ≡ most_entries
HasFault d count bytes NoLine = (count < most_entries) × ((line : Line) (rest : List ℕ) → ¬ BeginsWith d.shape.top line rest bytes)
HasFault d count bytes Short = (count < most_entries) × (verb : Verb) × (leaf : ℕ) × (len : ℕ) × (file : List ℕ) ×
    BeginsWith d.shape.top (Tiled verb leaf len) file bytes × (length file < len)
HasFault d count bytes (Tile fault) = (count < most_entries) × (verb : Verb) × (leaf : ℕ) × (len : ℕ) × (file : List ℕ) × (rest : List ℕ) ×
    BeginsWith d.shape.top (Tiled verb leaf len) (file ++ rest) bytes × (length file ≡ len) × (reads d file ≡ Err fault)

-- a body is written entries with these edits, and a rest that has this fault; only a body of no bytes has no rest
pub record IsFaulty (d : Description) (body : List ℕ) (edits : List LeafEdit) (fault : EntryFault) : Type 0 where
  pub front : List ℕ
  pub rest : List ℕ
  pub parts : body ≡ front ++ rest
  pub entries : AreEntries d edits front
  pub some : (body ≡ []) ⊎ (0 < length rest)
  pub has : HasFault d (length edits) rest fault

-- exactly such a body is refused, at the place behind these entries and with that fault
pub record RefusalsAreFaults : Type 0 where
  pub read : (d : Description) (body : List ℕ) (edits : List LeafEdit) (fault : EntryFault) → IsDescription d → IsFaulty d body edits fault →
      batch_entries d body ≡ record { edits = edits; fault = Some fault }
  pub written : (d : Description) (body : List ℕ) (edits : List LeafEdit) (fault : EntryFault) → IsDescription d →
      batch_entries d body ≡ record { edits = edits; fault = Some fault } → IsFaulty d body edits fault
