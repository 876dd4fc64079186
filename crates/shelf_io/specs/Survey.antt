-- The files of a survey on a shelf (HiPS 1.0, section 4).
use Rattle.std.specs.Prelude.{◌≡◌, ◌≢◌, ℕ, List, Option, Some, None, ⊤}
use Rattle.std.specs.Ordering.{nat_cmp}
use Rattle.std.specs.declared.cmp.Ordering.TheVariants.{Less}
use Rattle.std.specs.Cmp.Lexicographic.{slice_cmp}
use Rattle.std.specs.FinMap.{get, len}
use Rattle.survey_link.specs.Shelf.{ShelfFiles}
use Rattle.tile_path.specs.Spelling.{IsPath, spelling}
use Rattle.tile_path.specs.declared.path.Path.{Path}
use Rattle.shelf_io.specs.declared.verdict.Verdict.{Verdict}
use Rattle.shelf_io.specs.declared.verdict.Verdict.TheVariants.{Same, Differs}

-- the text is the spelling of no file that a survey can have
abbrev pub IsOtherPath : List ℕ → Type 0
IsOtherPath text = (path : Path) → IsPath path → spelling path ≢ text

-- at that path the shelf has what the survey has: the same bytes, or neither has a file
abbrev pub AgreeAt : ShelfFiles → ShelfFiles → Path → Type 0
AgreeAt survey files path = get files (spelling path) ≡ get survey (spelling path)

-- of all files that a survey can have, the shelf has exactly this survey's
abbrev pub HoldsSurvey : ShelfFiles → ShelfFiles → Type 0
HoldsSurvey survey files = (path : Path) → IsPath path → AgreeAt survey files path

-- all other files stay
abbrev pub KeepsOthers : ShelfFiles → ShelfFiles → Type 0
KeepsOthers old new = (text : List ℕ) → IsOtherPath text → get new text ≡ get old text

-- ---- what writing does, where the proof can see a shelf's files

abbrev pub OthersStay : Option ShelfFiles → Option ShelfFiles → Type 0
OthersStay None new = ⊤
OthersStay (Some old) None = ⊥
OthersStay (Some old) (Some new) = KeepsOthers old new

pub record IsReplaced (survey old new : ShelfFiles) : Type 0 where
  pub holds : HoldsSurvey survey new
  pub others : KeepsOthers old new

abbrev pub Replaces : ShelfFiles → Option ShelfFiles → Option ShelfFiles → Type 0
Replaces survey None new = ⊤
Replaces survey (Some old) None = ⊥
Replaces survey (Some old) (Some new) = IsReplaced survey old new

-- ---- what comparing says

-- the spelling of a path comes before that of another, byte by byte
abbrev pub ComesBefore : Path → Path → Type 0
ComesBefore path other = slice_cmp nat_cmp (spelling path) (spelling other) ≡ Less

-- the first path, by its spelling, at which the shelf doesn't have what the survey has
pub record IsFirstDifference (survey files : ShelfFiles) (path : Path) : Type 0 where
  pub is_path : IsPath path
  pub differs : get files (spelling path) ≢ get survey (spelling path)
  pub before : (other : Path) → IsPath other → ComesBefore other path → AgreeAt survey files other

abbrev pub IsVerdict : ShelfFiles → ShelfFiles → Verdict → Type 0
IsVerdict survey files (Same count) = HoldsSurvey survey files
IsVerdict survey files (Differs path) = IsFirstDifference survey files path

-- if it is the same, the verdict gives the number of files
abbrev pub CountsFiles : ShelfFiles → Verdict → Type 0
CountsFiles survey (Same count) = count ≡ len survey
CountsFiles survey (Differs path) = IsPath path
