-- What an input of lines makes of a catalogue: each line puts a row in, or takes one out by its id. A line ends with its line
-- feed. This project's profile.
use Rattle.std.specs.Prelude.{ℕ, ◌+◌, Bool, ◌==◌, nat_lt, nat_le, List, [], ◌∷◌, drop, length, codes, Result, Ok, Err, if◌then◌else◌}
use Rattle.std.specs.List.{slice_split, starts_with}
use Rattle.hips_catalog.specs.Rows.{Source}
use Rattle.hips_catalog.specs.Reading.{is_id, read_row}
use Rattle.hips_catalog.specs.Catalogue.{Catalogue, has_id, most_rows, no_rows, with_row, without_row}
use Rattle.hips_catalog.specs.declared.fault.RowFault.{RowFault}
use Rattle.hips_catalog.specs.declared.fault.RowFault.TheVariants.{Id}
use Rattle.catalog_command.specs.declared.refusal.LineFault.{LineFault}
use Rattle.catalog_command.specs.declared.refusal.LineFault.TheVariants.{Row, Long, Twice, Full, Absent, Many}
use Rattle.catalog_command.specs.declared.refusal.CatalogRefusal.{CatalogRefusal}
use Rattle.catalog_command.specs.declared.refusal.CatalogRefusal.TheVariants.{Cut, Line}

-- ---- one line, without its line feed

-- the line takes a row out: it begins with `-` TAB, and an id follows
abbrev pub is_removal : List ℕ → Bool
is_removal line = starts_with (◌==◌) line (codes "-\t")

-- the catalogue without the row of the id
unfoldable pub after_removal : Catalogue → List ℕ → Result Catalogue LineFault
after_removal catalogue id =
    if is_id id then (if has_id id catalogue.rows then Ok (without_row id catalogue) else Err Absent) else Err (Row Id)

-- the catalogue with one more row, where the line is one
unfoldable pub after_row : Catalogue → Result Source RowFault → Result Catalogue LineFault
after_row catalogue (Err fault) = Err (Row fault)
after_row catalogue (Ok row) =
    if has_id row.id catalogue.rows then Err Twice
    else (if length catalogue.rows == most_rows then Err Full else Ok (with_row row catalogue))

-- what a line makes of a catalogue, or its fault
unfoldable pub after_line : Catalogue → List ℕ → Result Catalogue LineFault
after_line catalogue line =
    if is_removal line then after_removal catalogue (drop 2 line) else after_row catalogue (read_row catalogue.top line)

-- ---- all lines

abbrev pub line_feed : ℕ
line_feed = 10

-- how many lines there are at most, and how many bytes one has at most, with its line feed
abbrev pub most_lines : ℕ
most_lines = 2000000

abbrev pub most_bytes : ℕ
most_bytes = 512

-- what is before, between and after the line feeds of some bytes
abbrev pub parts : List ℕ → List (List ℕ)
parts bytes = slice_split (λ byte. byte == line_feed) bytes

abbrev pub bad_line : {X : Type 0} → ℕ → LineFault → Result X CatalogRefusal
bad_line number fault = Err (Line (record { line = number; fault = fault }))

-- if what is there is allowed as line of this number: there aren't too many lines, and it isn't too long
abbrev pub where_allowed : ℕ → List ℕ → Result Catalogue CatalogRefusal → Result Catalogue CatalogRefusal
where_allowed number part otherwise =
    if nat_lt most_lines number then bad_line number Many
    else (if nat_le most_bytes (length part) then bad_line number Long else otherwise)

-- what is after the last line feed is no line: nothing, at the end of the input; else the input ends within a line
abbrev pub at_last : Catalogue → ℕ → List ℕ → Result Catalogue CatalogRefusal
at_last catalogue number [] = Ok catalogue
at_last catalogue number (byte ∷ bytes) = where_allowed number (byte ∷ bytes) (Err Cut)

-- a line, and then the next ones
abbrev pub then_lines : ℕ → Result Catalogue LineFault → (Catalogue → Result Catalogue CatalogRefusal) → Result Catalogue CatalogRefusal
then_lines number (Ok catalogue) rest = rest catalogue
then_lines number (Err fault) rest = bad_line number fault

-- the catalogue after all lines, from this number on, or the first that stops it
abbrev pub after_parts : Catalogue → ℕ → List (List ℕ) → Result Catalogue CatalogRefusal
after_parts catalogue number [] = Ok catalogue
after_parts catalogue number (part ∷ []) = at_last catalogue number part
after_parts catalogue number (part ∷ next ∷ more) =
    where_allowed number part (then_lines number (after_line catalogue part) (λ c. after_parts c (number + 1) (next ∷ more)))

unfoldable pub after_input : Catalogue → ℕ → List ℕ → Result Catalogue CatalogRefusal
after_input catalogue number input = after_parts catalogue number (parts input)

-- the catalogue of an input, or the first thing in it that stops it
abbrev pub catalogue_of : ℕ → ℕ → List ℕ → Result Catalogue CatalogRefusal
catalogue_of top per_tile input = after_input (no_rows top per_tile) 1 input
