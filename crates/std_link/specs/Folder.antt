-- What the calls on a folder do to its files, and why one is refused.
use Rattle.std.specs.Prelude.{◌≡◌, ◌≢◌, ℕ, List, Option, Some, None, ⊤, refl, option_map}
use Rattle.std.specs.FinMap.{get, insert, remove}
use Rattle.std.specs.Coded.{Coded, code_by, coded_ℕ}
use Rattle.std.specs.declared.io.ErrorKind.{ErrorKind}
use Rattle.std.specs.declared.io.ErrorKind.TheVariants.{NotFound, NotADirectory, Interrupted}
use Rattle.std.specs.declared.io.ErrorKind.TheVariants as Kind
use Rattle.survey_link.specs.Shelf.{ShelfFiles}
use Rattle.std_link.specs.declared.file_fault.Meaning.{Meaning}
use Rattle.std_link.specs.declared.file_fault.Meaning.TheVariants.{Absent, OutOfMemory, Failed}
use Rattle.std_link.specs.declared.file_fault.Meaning.TheVariants as Says

-- what an error of this kind says of a call on a file: that it was interrupted and must be made again; that there is no
-- such file, also if a folder on the way isn't there or is none; that there was no memory; else that it failed
abbrev pub meaning_of : ErrorKind → Meaning
meaning_of Interrupted = Says.Interrupted
meaning_of NotFound = Absent
meaning_of NotADirectory = Absent
meaning_of Kind.OutOfMemory = OutOfMemory
meaning_of _ = Failed

-- the file that was at the one path is at the other, in place of what was there
abbrev pub moved_file : List ℕ → List ℕ → ShelfFiles → Option (List ℕ) → ShelfFiles
moved_file from to files None = files
moved_file from to files (Some bytes) = insert (remove files from) to bytes

abbrev pub with_moved : List ℕ → List ℕ → Option ShelfFiles → Option ShelfFiles
with_moved from to files = option_map (λ told. moved_file from to told (get told from)) files

-- the path holds these bytes, the file beside it is gone, all else stays
pub record PutAt (path beside bytes : List ℕ) (old new : ShelfFiles) : Type 0 where
  pub holds : get new path ≡ Some bytes
  pub cleared : get new beside ≡ None
  pub others : (other : List ℕ) → other ≢ path → other ≢ beside → get new other ≡ get old other

abbrev pub IsPut : List ℕ → List ℕ → List ℕ → Option ShelfFiles → Option ShelfFiles → Type 0
IsPut path beside bytes None new = ⊤
IsPut path beside bytes (Some old) None = ⊥
IsPut path beside bytes (Some old) (Some new) = PutAt path beside bytes old new

-- a shelf over a folder, as the program sees it: how often it has failed
pub record FolderState : Type 0 where
  pub faults : ℕ

-- its state is stored as that number
abbrev pub folder_code : Coded FolderState
folder_code = code_by ℕ coded_ℕ (λ s. s.faults) (λ n. record { faults = n }) (λ _. refl)
