-- Notes in chunks.
use Rattle.std.specs.Prelude.{◌≡◌, ◌≤◌, ℕ, List, Vec, flat_map, length, All}
use Rattle.std.specs.Arc.{arc_value}
use Rattle.std.specs.declared.sync.Arc.{Arc}
use Rattle.std.specs.declared.alloc.Global.{Global}
use Rattle.edit_journal.specs.Kept.{Note}

abbrev pub Chunk : Type 0
Chunk = Arc (Vec Note Global) Global

-- the notes of a chunk, and of chunks one after another
abbrev pub chunk_notes : Chunk → List Note
chunk_notes chunk = (arc_value chunk).items

abbrev pub notes_in : List Chunk → List Note
notes_in chunks = flat_map chunk_notes chunks

-- each has as many notes as a chunk may have
abbrev pub AreFull : List Chunk → Type 0
AreFull chunks = All (λ chunk. length (chunk_notes chunk) ≡ 64) chunks

-- full chunks, and the notes after them, so few that they can be counted
pub record IsChunked (chunks : List Chunk) (last : List Note) : Type 0 where
  pub full : AreFull chunks
  pub few : length chunks ≤ 1024
  pub short : length last ≤ 64
