-- The files that a map of the program holds.
use Rattle.std.specs.Prelude.{ℕ, List, map, String, string_bytes, Vec, refl}
use Rattle.std.specs.declared.alloc.Global.{Global}
use Rattle.std.specs.BTreeMap.{BTreeMap}
use Rattle.std.specs.FinMap.{from_entries, code}
use Rattle.std.specs.Coded.{Coded, code_by, coded×, coded_ℕ, coded_list}
use Rattle.survey_link.specs.Shelf.{ShelfFiles}
use Rattle.memory_link.specs.Memory.{ShelfState}

-- the bytes of a path and of its file
abbrev pub file_of : String Global × Vec ℕ Global → List ℕ × List ℕ
file_of entry = (string_bytes entry.0, entry.1.items)

-- the files, by the bytes of their paths
abbrev pub files_of : BTreeMap (String Global) (Vec ℕ Global) → ShelfFiles
files_of files = from_entries (map file_of files.entries)

-- a shelf's state is stored as the tuple of its fields
abbrev pub shelf_code : Coded ShelfState
shelf_code =
    code_by (ShelfFiles × (List ℕ × (ℕ × ℕ))) (coded× (code (coded_list coded_ℕ) (coded_list coded_ℕ)) (coded× (coded_list coded_ℕ) (coded× coded_ℕ coded_ℕ)))
    (λ s. (s.files, (s.fails, (s.calls, s.faults)))) (λ p. record { files = p.0; fails = p.1.0; calls = p.1.1.0; faults = p.1.1.1 }) (λ _. refl)
