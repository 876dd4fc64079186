-- What `export` and `verify` find on a shelf, what they leave there, and what they write.
use Rattle.std.specs.Prelude.{◌≡◌, ℕ, List, ◌++◌, Option, Some, None, Result, Ok, Err, IsOkAnd, codes, decimal, ⊤, [], ◌∷◌}
use Rattle.std.specs.Result.{result_err}
use Rattle.std.specs.FinMap.{len}
use Rattle.survey_link.specs.Door.{Connection}
use Rattle.survey_link.specs.Shelf.{ShelfFiles}
use Rattle.command_output.specs.Output.{SinkBytes, line_of, Says, EndsBy}
use Rattle.generation.specs.Files.{files, leaf_map}
use Rattle.shelf_io.specs.Opening.{OpenedSurvey, opening, IsRefusedBy}
use Rattle.shelf_io.specs.Survey.{Replaces, OthersStay, IsVerdict, CountsFiles}
use Rattle.shelf_io.specs.Texts.{load_text, verdict_text}
use Rattle.shelf_io.specs.declared.refusal.LoadRefusal.{LoadRefusal}
use Rattle.shelf_io.specs.declared.refusal.LoadRefusal.TheVariants.{NoConf, Conf, Tile, TooMany, ShelfFault, OutOfMemory}
use Rattle.shelf_io.specs.declared.verdict.Verdict.{Verdict}
use Rattle.shelf_io.specs.declared.verdict.Verdict.TheVariants.{Same, Differs}

-- ---- what is found on the shelf, and what is left there

abbrev pub files_of : OpenedSurvey → ShelfFiles
files_of survey = files survey.conf (leaf_map survey.leaves)

-- the shelf had the files of this survey, and so many were put in place of all that a survey can have
abbrev pub IsExportOf : ShelfFiles → Option ShelfFiles → ℕ → OpenedSurvey → Type 0
IsExportOf old new count survey = (count ≡ len (files_of survey)) × Replaces (files_of survey) (Some old) new

-- an export, where the proof can see the shelf's files: of the survey that they open as; or they open as none, and stay. A
-- shelf that fails, or running out of memory, may stop it midway: all files stay that no survey can have
abbrev pub IsExport : Option ShelfFiles → Option ShelfFiles → Result ℕ LoadRefusal → Type 0
IsExport None new outcome = ⊤
IsExport (Some old) new (Ok count) = IsOkAnd (opening old) (IsExportOf old new count)
IsExport (Some old) new (Err ShelfFault) = OthersStay (Some old) new
IsExport (Some old) new (Err OutOfMemory) = OthersStay (Some old) new
IsExport (Some old) new (Err refusal) = (result_err (opening old) ≡ Some refusal) × (new ≡ Some old)

-- the verdict compares these files with those of the survey
abbrev pub IsVerdictOn : ShelfFiles → Verdict → OpenedSurvey → Type 0
IsVerdictOn found verdict survey = IsVerdict (files_of survey) found verdict × CountsFiles (files_of survey) verdict

-- a comparison, where the proof can see the shelf's files: with the survey that they open as; or they open as none
abbrev pub IsComparison : Option ShelfFiles → Result Verdict LoadRefusal → Type 0
IsComparison None outcome = ⊤
IsComparison (Some found) (Ok verdict) = IsOkAnd (opening found) (IsVerdictOn found verdict)
IsComparison (Some found) (Err refusal) = IsRefusedBy (result_err (opening found)) refusal

-- ---- what is written of it

-- the sink of a connection
abbrev pub sink_of : Connection → SinkBytes
sink_of connection = record { held = connection.written; flushed = connection.flushed }

-- why the shelf wasn't opened: by 2 its description, by 3 its leaves
abbrev pub SaysWhy : LoadRefusal → ℕ → SinkBytes → SinkBytes → Type 0
SaysWhy NoConf = Says 2 (line_of (load_text NoConf))
SaysWhy (Conf fault) = Says 2 (line_of (load_text (Conf fault)))
SaysWhy (Tile cell fault) = Says 3 (line_of (load_text (Tile cell fault)))
SaysWhy (TooMany leaves) = Says 3 (line_of (load_text (TooMany leaves)))
SaysWhy ShelfFault = EndsBy 7
SaysWhy OutOfMemory = EndsBy 11

-- how a command can end that doesn't open the shelf
abbrev pub unopened_statuses : List ℕ
unopened_statuses = 2 ∷ 3 ∷ 6 ∷ 7 ∷ 11 ∷ []

abbrev pub export_text : ℕ → List ℕ
export_text count = codes "exported " ++ decimal count

abbrev pub SaysExport : Result ℕ LoadRefusal → ℕ → SinkBytes → SinkBytes → Type 0
SaysExport (Ok count) = Says 0 (line_of (export_text count))
SaysExport (Err refusal) = SaysWhy refusal

abbrev pub verdict_status : Verdict → ℕ
verdict_status (Same count) = 0
verdict_status (Differs path) = 9

abbrev pub SaysVerdict : Result Verdict LoadRefusal → ℕ → SinkBytes → SinkBytes → Type 0
SaysVerdict (Ok verdict) = Says (verdict_status verdict) (line_of (verdict_text verdict))
SaysVerdict (Err refusal) = SaysWhy refusal

-- ---- whole runs

-- how they can end
abbrev pub export_statuses : List ℕ
export_statuses = 0 ∷ unopened_statuses

abbrev pub verify_statuses : List ℕ
verify_statuses = 9 ∷ export_statuses

-- `export`, over the files and the sink before and after, with its status
abbrev pub RunsExport : Option ShelfFiles → Option ShelfFiles → ℕ → SinkBytes → SinkBytes → Type 0
RunsExport old new status sink sink' =
    (outcome : Result ℕ LoadRefusal) × (IsExport old new outcome × SaysExport outcome status sink sink')

-- `verify`, over the files and the sink
abbrev pub RunsVerify : Option ShelfFiles → ℕ → SinkBytes → SinkBytes → Type 0
RunsVerify found status sink sink' =
    (outcome : Result Verdict LoadRefusal) × (IsComparison found outcome × SaysVerdict outcome status sink sink')
