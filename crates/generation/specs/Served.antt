-- Files as they are served.
use Rattle.std.specs.Prelude.{◌≡◌, ℕ, List, ◌++◌, take, drop}
use Rattle.tile_path.specs.declared.path.Path.{Path}
use Rattle.tile_path.specs.declared.path.Path.TheVariants.{Properties, Moc, Allsky, Tile}
use Rattle.generation.specs.declared.files.Body.{Body}
use Rattle.generation.specs.declared.files.Body.TheVariants.{Written, Kept}
use Rattle.generation.specs.declared.files.Parts.{Parts}

-- the bytes of a file, and how many of them are in the buffer, which holds those that were written
abbrev pub body_bytes : Body → List ℕ → List ℕ
body_bytes (Written count) out = take count out
body_bytes (Kept bytes) out = bytes.now

abbrev pub body_len : Body → ℕ
body_len (Written count) = count
body_len (Kept bytes) = 0

-- the parts one after another
abbrev pub parts_bytes : Parts → List ℕ → List ℕ
parts_bytes parts out = take parts.front out ++ parts.kept.now ++ parts.zeros.now

-- behind so many bytes at its front a buffer holds what it held
abbrev pub HoldsBehind : ℕ → List ℕ → List ℕ → Type 0
HoldsBehind count old new = drop count new ≡ drop count old

-- a file that is no tile's is kept whole
abbrev pub IsKeptWhole : Path → Type 0
IsKeptWhole Properties = Unit {0}
IsKeptWhole Moc = Unit {0}
IsKeptWhole Allsky = Unit {0}
IsKeptWhole (Tile cell) = ⊥
