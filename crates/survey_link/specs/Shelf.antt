-- The files of a shelf.
use Rattle.std.specs.Prelude.{◌≡◌, ◌≢◌, ℕ, List, Option, Some, None, Result, Err, Bool, true, false, ⊤, map, String, string_bytes, option_map, IsPermutation, Vec}
use Rattle.std.specs.declared.alloc.Global.{Global}
use Rattle.std.specs.Ordering.{nat_cmp}
use Rattle.std.specs.Cmp.Lexicographic.{slice_cmp}
use Rattle.survey_link.specs.declared.faults.LinkFault.{LinkFault}
use Rattle.survey_link.specs.declared.faults.LinkFault.TheVariants.{Failed}
use Rattle.std.specs.FinMap.{FinMap, keys, get, insert, remove}

-- the bytes of each file, by the bytes of its path
abbrev pub ShelfFiles : Type 0
ShelfFiles = FinMap (slice_cmp nat_cmp) (List ℕ)

-- these are the paths of the files, each once
abbrev pub Lists : Option ShelfFiles → List (String Global) → Type 0
Lists None paths = ⊤
Lists (Some files) paths = IsPermutation (map string_bytes paths) (keys files)

-- this is what is at the path
abbrev pub Finds : Option ShelfFiles → List ℕ → Option (Vec ℕ Global) → Type 0
Finds None path found = ⊤
Finds (Some files) path found = option_map (λ bytes. bytes.items) found ≡ get files path

-- the path holds these bytes, all else stays
abbrev pub with_file : List ℕ → List ℕ → Option ShelfFiles → Option ShelfFiles
with_file path bytes files = option_map (λ told. insert told path bytes) files

-- the path is absent, all else stays
abbrev pub without_file : List ℕ → Option ShelfFiles → Option ShelfFiles
without_file path files = option_map (λ told. remove told path) files

-- all other paths stay; this one may hold anything, or be absent
abbrev pub OthersStay : List ℕ → Option ShelfFiles → Option ShelfFiles → Type 0
OthersStay path None new = ⊤
OthersStay path (Some old) None = ⊥
OthersStay path (Some old) (Some new) = (other : List ℕ) → other ≢ path → get new other ≡ get old other

-- a call was refused since the shelf failed
abbrev pub shelf_failed : {A : Type 0} → Result A LinkFault → Bool
shelf_failed (Err Failed) = true
shelf_failed _ = false
