-- The line of a row: `RANK TAB NPIX TAB ID TAB REST`, a record of tab-separated values (IANA, text/tab-separated-values), as
-- the tiles of a source list are (HiPS 1.0, section 4.2). The rank and the number of the cell are in plain decimals. Which
-- fields there are and what they may be is this project's profile. Texts are lists of bytes.
use Rattle.std.specs.Prelude.{◌≡◌, ℕ, ◌^◌, ◌<◌, Bool, true, not, ◌&&◌, ◌==◌, nat_le, nat_lt, List, [], ◌∷◌, ◌++◌, length, decimal, Some, None, option_and_then, ok_or, Result, Ok, Err, if◌then◌else◌}
use Rattle.std.specs.List.{list_all, slice_split}
use Rattle.decimal_scale.specs.Whole.{plain_value}
use Rattle.healpix_nested.specs.Cells.{IsCell, cell_count}
use Rattle.hips_catalog.specs.Rows.{Source}
use Rattle.hips_catalog.specs.declared.fault.RowFault.{RowFault}
use Rattle.hips_catalog.specs.declared.fault.RowFault.TheVariants.{Fields, Rank, Npix, Id, Rest}
use Rattle.hips_catalog.specs.declared.fault.RowRefusal.{RowRefusal}
use Rattle.hips_catalog.specs.declared.fault.RowRefusal.TheVariants.{Fault, OutOfMemory}

-- ---- the fields

abbrev pub tab : ℕ
tab = 9

-- what is before, between and after the TABs of a line
abbrev pub fields : List ℕ → List (List ℕ)
fields line = slice_split (λ byte. byte == tab) line

-- an id has 1 to 64 bytes, each 0x21 to 0x7E
unfoldable pub is_id : List ℕ → Bool
is_id text = nat_le 1 (length text) && nat_le (length text) 64 && list_all (λ byte. nat_le 33 byte && nat_le byte 126) text

-- a rest has at most 256 bytes, none below 0x20 and none 0x7F
unfoldable pub is_rest : List ℕ → Bool
is_rest text = nat_le (length text) 256 && list_all (λ byte. nat_le 32 byte && not (byte == 127)) text

-- ---- what a field says, or its fault

unfoldable pub rank_in : List ℕ → Result ℕ RowFault
rank_in text = ok_or (plain_value text) Rank

-- the number of a cell of order top
unfoldable pub npix_in : ℕ → List ℕ → Result ℕ RowFault
npix_in top text = ok_or (option_and_then (λ n. if nat_lt n (cell_count top) then Some n else None) (plain_value text)) Npix

unfoldable pub id_in : List ℕ → Result (List ℕ) RowFault
id_in text = if is_id text then Ok text else Err Id

unfoldable pub rest_in : List ℕ → Result (List ℕ) RowFault
rest_in text = if is_rest text then Ok text else Err Rest

-- ---- the row

infixl 10 ◌>>=◌
abbrev pub ◌>>=◌ : {A B : Type 0} → Result A RowFault → (A → Result B RowFault) → Result B RowFault
Ok value >>= next = next value
Err fault >>= next = Err fault

-- the row of four fields, in a catalogue whose cells are of order top, or the fault of the first that has one
unfoldable pub row_by : ℕ → List ℕ → List ℕ → List ℕ → List ℕ → Result Source RowFault
row_by top first second third fourth = do
  rank ← rank_in first
  npix ← npix_in top second
  id ← id_in third
  rest ← rest_in fourth
  Ok (record { rank = rank; npix = npix; id = id; rest = rest })

abbrev pub row_of : ℕ → List (List ℕ) → Result Source RowFault
row_of top (rank ∷ npix ∷ id ∷ rest ∷ []) = row_by top rank npix id rest
row_of top _ = Err Fields

-- the row of a line, or its first fault
unfoldable pub read_row : ℕ → List ℕ → Result Source RowFault
read_row top line = row_of top (fields line)

-- why no row was read of a line: its first fault, or there was no memory
abbrev pub IsRefusedBy : Result Source RowFault → RowRefusal → Type 0
IsRefusedBy read (Fault fault) = read ≡ Err fault
IsRefusedBy read OutOfMemory = Unit {0}

-- ---- the line that is written of a row

-- a row of a catalogue whose cells are of order top
pub record IsRow (top : ℕ) (row : Source) : Type 0 where
  pub rank : row.rank < 2 ^ 64
  pub npix : IsCell top row.npix
  pub id : is_id row.id ≡ true
  pub rest : is_rest row.rest ≡ true

abbrev pub row_text : Source → List ℕ
row_text row = decimal row.rank ++ tab ∷ (decimal row.npix ++ tab ∷ (row.id ++ tab ∷ row.rest))
