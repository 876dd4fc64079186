-- Reading from left to right: what the steps of `read_record` answer. That it reads exactly what `Record` writes is proved.
use Rattle.std.specs.Prelude.{◌≡◌, ℕ, zero, suc, ◌^◌, ◌||◌, nat_lt, ◌==◌, List, [], ◌∷◌, length, take, drop, slice_index, Option, Some, None, option_map, option_and_then, Result, Ok, Err, if◌then◌else◌, ⊤}
use Rattle.std.specs.Int.{w32, from_be_bytes}
use Rattle.healpix_nested.specs.Cells.{cell_count}
use Rattle.pyramid_model.specs.Shape.{PyramidShape}
use Rattle.tile_pixels.specs.Stored.{numbers_from}
use Rattle.tile_pixels.specs.Tile.{PixelTile}
use Rattle.edit_journal.specs.Edit.{LeafEdit, put, add, replace, remove}
use Rattle.wal_frame.specs.Record.{WalRecord, batch, publication}
use Rattle.wal_frame.specs.Reading.{Found, wal_end, record_then, malformed, ends_here, first_length, second_length, head_length}
use Rattle.wal_frame.specs.Survey.{tile_length}
use Rattle.wal_frame.specs.declared.reading.Unread.{Unread}
use Rattle.wal_frame.specs.declared.reading.Unread.TheVariants.{Malformed, OutOfMemory}

-- what a function returned, seen by view, is what reading gives, unless memory ran out
abbrev pub Fails : {Y : Type 0} → Unread → Option Y → Type 0
Fails Malformed read = read ≡ None
Fails OutOfMemory read = ⊤

abbrev pub Gives : {X Y : Type 0} → (X → Y) → Result X Unread → Option Y → Type 0
Gives view (Ok x) read = read ≡ Some (view x)
Gives view (Err unread) read = Fails unread read

-- a number of 4 bytes, and the bytes behind it
unfoldable pub number_at : List ℕ → Option (ℕ × List ℕ)
number_at bytes = if nat_lt (length bytes) 4 then None else Some (from_be_bytes w32 (take 4 bytes), drop 4 bytes)

-- a tile of the shape, and the bytes behind it
unfoldable pub tile_at : PyramidShape → List ℕ → Option (PixelTile × List ℕ)
tile_at shape bytes = if nat_lt (length bytes) (tile_length shape) then None
    else Some (record { depth = shape.depth; n = shape.n; numbers = numbers_from shape.depth.bitpix (4 ^ shape.n) (take (tile_length shape) bytes) }, drop (tile_length shape) bytes)

-- an edit by its form
unfoldable pub edit_by : PyramidShape → ℕ → ℕ → List ℕ → Option (LeafEdit × List ℕ)
edit_by shape form leaf bytes =
    if form == 1 then option_and_then (λ tile. Some (put leaf tile.0, tile.1)) (tile_at shape bytes)
    else (if form == 2 then option_and_then (λ tile. Some (add leaf tile.0, tile.1)) (tile_at shape bytes)
    else (if form == 3 then option_and_then (λ tile. Some (replace leaf tile.0, tile.1)) (tile_at shape bytes)
    else (if form == 4 then Some (remove leaf, bytes) else None)))

-- the form and the leaf, and what they ask for
unfoldable pub edit_at : PyramidShape → List ℕ → Option (LeafEdit × List ℕ)
edit_at shape [] = None
edit_at shape (form ∷ bytes) = option_and_then (λ leaf. if nat_lt leaf.0 (cell_count shape.top) then edit_by shape form leaf.0 leaf.1 else None) (number_at bytes)

-- so many edits
unfoldable pub edits_at : PyramidShape → ℕ → List ℕ → Option (List LeafEdit × List ℕ)
edits_at shape zero bytes = Some ([], bytes)
edits_at shape (suc count) bytes = option_and_then (λ first. option_and_then (λ others. Some (first.0 ∷ others.0, others.1)) (edits_at shape count first.1)) (edit_at shape bytes)

-- all of a payload: 1 to 1,024 edits, or a tip
unfoldable pub batch_of : PyramidShape → List ℕ → Option WalRecord
batch_of shape bytes = option_and_then (λ count. if (count.0 == 0) || nat_lt 1024 count.0 then None
    else option_and_then (λ edits. if length edits.1 == 0 then Some (batch edits.0) else None) (edits_at shape count.0 count.1)) (number_at bytes)

unfoldable pub publication_of : List ℕ → Option WalRecord
publication_of bytes = option_and_then (λ tip. if length tip.1 == 0 then Some (publication tip.0) else None) (number_at bytes)

-- by the kind
unfoldable pub payload_of : PyramidShape → ℕ → List ℕ → Option WalRecord
payload_of shape kind bytes = if kind == 1 then batch_of shape bytes else (if kind == 2 then publication_of bytes else None)

-- a record that stands there whole, and the bytes behind it
unfoldable pub whole_record : PyramidShape → List ℕ → Option (WalRecord × List ℕ)
whole_record shape bytes =
    if first_length bytes == second_length bytes
    then option_map (λ r. (r, drop (first_length bytes) (drop head_length bytes))) (payload_of shape (slice_index bytes 1) (take (first_length bytes) (drop head_length bytes)))
    else None

-- what stands first
abbrev pub then_rest : Option (WalRecord × List ℕ) → Found
then_rest None = malformed
then_rest (Some both) = record_then both.0 both.1

unfoldable pub found : PyramidShape → List ℕ → Found
found shape bytes = if ends_here bytes then wal_end else then_rest (whole_record shape bytes)
