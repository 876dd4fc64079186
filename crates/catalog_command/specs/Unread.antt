-- The bytes that were read of the input and not yet used as lines.
use Rattle.std.specs.Prelude.{◌≡◌, ℕ, ◌<◌, ◌≤◌, ◌==◌, List, [], ◌++◌, length, take, position, Option, Some, None}
use Rattle.std.specs.Io.KnownBytes.{Consumes, IsAtEnd}
use Rattle.catalog_command.specs.declared.found.Found.{Found}
use Rattle.catalog_command.specs.declared.found.Found.TheVariants.{Line, Long, Cut, End}
use Rattle.catalog_command.specs.Lines.{line_feed, most_bytes}

abbrev pub place_of_feed : List ℕ → Option ℕ
place_of_feed bytes = position (λ byte. byte == line_feed) bytes

-- what comes first in the bytes that are held: a line of so many bytes and its line feed, the front of one that is too long,
-- an end of the input within a line, or at one
abbrev pub IsFound : List ℕ → Option (List ℕ) → Found → Type 0
IsFound held left (Line count) = (place_of_feed held ≡ Some count) × (count < most_bytes)
IsFound held left Long = (most_bytes ≤ length held) × (place_of_feed (take most_bytes held) ≡ None)
IsFound held left Cut = (0 < length held) × (length held < most_bytes) × (place_of_feed held ≡ None) × IsAtEnd left
IsFound held left End = (held ≡ []) × IsAtEnd left

-- bytes came from the source behind those that are held
pub record Receives (held held' : List ℕ) (left left' : Option (List ℕ)) : Type 0 where
  pub came : List ℕ
  pub grown : held' ≡ held ++ came
  pub consumed : Consumes left left' came
