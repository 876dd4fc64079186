-- What comes next in the input, judged as the line of its number.
use Rattle.std.specs.Prelude.{◌≡◌, ℕ, ◌+◌, nat_lt, List, ◌++◌, Option, Some, None, Result, Ok, Err, if◌then◌else◌}
use Rattle.std.specs.Io.KnownBytes.{Consumes}
use Rattle.hips_catalog.specs.Catalogue.{Catalogue}
use Rattle.catalog_command.specs.declared.refusal.LineFault.TheVariants.{Long, Many}
use Rattle.catalog_command.specs.declared.refusal.CatalogRefusal.{CatalogRefusal}
use Rattle.catalog_command.specs.declared.refusal.CatalogRefusal.TheVariants.{Cut, OutOfMemory}
use Rattle.catalog_command.specs.declared.line.LineRefusal.{LineRefusal}
use Rattle.catalog_command.specs.declared.line.LineRefusal.TheVariants.{Fault, OutOfMemory as NoRoom}
use Rattle.catalog_command.specs.declared.found.Found.{Found}
use Rattle.catalog_command.specs.declared.found.Found.TheVariants.{Line as Whole, Long as Front, Cut as Short, End}
use Rattle.catalog_command.specs.Lines.{most_lines, bad_line, after_input}

-- how many bytes the line has; none at the end of the input
abbrev pub judged : ℕ → Found → Result (Option ℕ) CatalogRefusal
judged number End = Ok None
judged number (Whole count) = if nat_lt most_lines number then bad_line number Many else Ok (Some count)
judged number Front = if nat_lt most_lines number then bad_line number Many else bad_line number Long
judged number Short = if nat_lt most_lines number then bad_line number Many else Err Cut

-- what use was made of a line, as that of its number
abbrev pub numbered : ℕ → Result (Unit {0}) LineRefusal → Result (Unit {0}) CatalogRefusal
numbered number (Ok done) = Ok done
numbered number (Err (Fault fault)) = bad_line number fault
numbered number (Err NoRoom) = Err OutOfMemory

-- bytes came, and with them a line was used: whatever follows, the lines go on behind it
pub record TakesLine (number : ℕ) (old new : Catalogue) (held held' : List ℕ) (left left' : Option (List ℕ)) : Type 0 where
  pub came : List ℕ
  pub consumed : Consumes left left' came
  pub on : (more : List ℕ) → after_input old number (held ++ (came ++ more)) ≡ after_input new (number + 1) (held' ++ more)
