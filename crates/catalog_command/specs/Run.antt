-- What `catalog` does: it reads lines, and puts the tiles of their catalogue on the shelf.
use Rattle.std.specs.Prelude.{◌≡◌, ◌⊎◌, ℕ, List, [], ◌∷◌, ◌++◌, length, Option, Result, Ok, Err, IsOkAnd, codes, decimal}
use Rattle.survey_link.specs.Shelf.{ShelfFiles}
use Rattle.command_output.specs.Output.{SinkBytes, line_of, Says, EndsBy}
use Rattle.hips_catalog.specs.Catalogue.{Catalogue, existing_tiles}
use Rattle.hips_catalog.specs.Texts.{fault_number}
use Rattle.catalog_command.specs.declared.refusal.LineFault.{LineFault}
use Rattle.catalog_command.specs.declared.refusal.LineFault.TheVariants.{Row, Long, Twice, Full, Absent, Many}
use Rattle.catalog_command.specs.declared.refusal.BadLine.{BadLine}
use Rattle.catalog_command.specs.declared.refusal.CatalogRefusal.{CatalogRefusal}
use Rattle.catalog_command.specs.declared.refusal.CatalogRefusal.TheVariants.{Cut, Line, ReadFault, ShelfFault, OutOfMemory}
use Rattle.catalog_command.specs.declared.counts.Counts.{Counts}
use Rattle.catalog_command.specs.Lines.{catalogue_of}
use Rattle.catalog_command.specs.Files.{OnFiles, IsReplaced, IsUnfinished}

-- ---- what is written

-- the number of a fault of a line
abbrev pub kind_of : LineFault → ℕ
kind_of (Row fault) = fault_number fault
kind_of Long = 6
kind_of Twice = 7
kind_of Full = 8
kind_of Absent = 9
kind_of Many = 10

abbrev pub bad_line_text : BadLine → List ℕ
bad_line_text bad = codes "row " ++ (decimal bad.line ++ (codes " " ++ decimal (kind_of bad.fault)))

abbrev pub counts_text : Counts → List ℕ
counts_text counts = codes "rows " ++ (decimal counts.rows ++ (codes " tiles " ++ decimal counts.tiles))

abbrev pub SaysOutcome : Result Counts CatalogRefusal → ℕ → SinkBytes → SinkBytes → Type 0
SaysOutcome (Ok counts) = Says 0 (line_of (counts_text counts))
SaysOutcome (Err (Line bad)) = Says 16 (line_of (bad_line_text bad))
SaysOutcome (Err Cut) = EndsBy 4
SaysOutcome (Err ReadFault) = EndsBy 5
SaysOutcome (Err ShelfFault) = EndsBy 7
SaysOutcome (Err OutOfMemory) = EndsBy 11

-- how it can end where there is no catalogue on the shelf, and at all
abbrev pub refused_statuses : List ℕ
refused_statuses = 4 ∷ 5 ∷ 6 ∷ 7 ∷ 11 ∷ 16 ∷ []

abbrev pub catalog_statuses : List ℕ
catalog_statuses = 0 ∷ refused_statuses

-- ---- what is done

abbrev pub counts_of : Catalogue → Counts
counts_of catalogue = record { rows = length catalogue.rows; tiles = length (existing_tiles catalogue) }

-- the outcome of what the input gives, over the files before and after: the tiles of its catalogue are on the shelf; or it
-- gives none, and the shelf stays. A shelf that fails, or running out of memory, may stop it midway
abbrev pub IsOutcome : Result Catalogue CatalogRefusal → Option ShelfFiles → Option ShelfFiles → Result Counts CatalogRefusal → Type 0
IsOutcome given old new (Ok counts) = IsOkAnd given (λ catalogue. (counts ≡ counts_of catalogue) × OnFiles (IsReplaced catalogue) old new)
IsOutcome given old new (Err (Line bad)) = (given ≡ Err (Line bad)) × (new ≡ old)
IsOutcome given old new (Err Cut) = (given ≡ Err Cut) × (new ≡ old)
IsOutcome given old new (Err ReadFault) = new ≡ old
IsOutcome given old new (Err ShelfFault) = IsOkAnd given (λ catalogue. OnFiles (IsUnfinished catalogue) old new)
IsOutcome given old new (Err OutOfMemory) = (new ≡ old) ⊎ IsOkAnd given (λ catalogue. OnFiles (IsUnfinished catalogue) old new)

-- `catalog`, of this input, over the files before and after, with its status, and the sink before and after
abbrev pub RunsCatalog : ℕ → ℕ → List ℕ → Option ShelfFiles → Option ShelfFiles → ℕ → SinkBytes → SinkBytes → Type 0
RunsCatalog top per_tile input old new status sink sink' =
    (outcome : Result Counts CatalogRefusal) × (IsOutcome (catalogue_of top per_tile input) old new outcome × SaysOutcome outcome status sink sink')
