-- What the lines of a description say: keys, each with its value and the line where it stands.
use Rattle.std.specs.Prelude.{ℕ, Bool, is_some, if◌then◌else◌, List, Option, Some, None, unwrap_or}
use Rattle.std.specs.List.{enumerate_from, filter_map}
use Rattle.std.specs.Map.{lookup}
use Rattle.std.specs.Option.{option_map, option_and_then}
use Rattle.std.specs.Str.{bytes_eq}
use Rattle.survey_conf.specs.Lines.{is_skipped, key_in, value_in}
use Rattle.survey_conf.specs.Keys.{name}
use Rattle.survey_conf.specs.declared.key.Key.{Key}

-- the value of a key, and the number of its line
pub record Setting : Type 0 where
  pub line : ℕ
  pub value : List ℕ

-- keys with their values, in the order of their lines
abbrev pub Entries : Type 0
Entries = List (List ℕ × Setting)

-- what a numbered line says; a skipped line says nothing
abbrev pub entry : ℕ × List ℕ → Option (List ℕ × Setting)
entry numbered = if is_skipped numbered.1 then None
    else Some (key_in numbered.1, record { line = numbered.0; value = value_in numbered.1 })

-- what the lines say, counted from 1
unfoldable pub entries : List (List ℕ) → Entries
entries contents = filter_map entry (enumerate_from 1 contents)

-- the setting of a key, where it is there
abbrev pub setting : Entries → List ℕ → Option Setting
setting es key = lookup (bytes_eq key) es

abbrev pub is_there : Entries → List ℕ → Bool
is_there es key = is_some (setting es key)

abbrev pub value_of : Entries → Key → Option (List ℕ)
value_of es key = option_map (λ s. s.value) (setting es (name key))

-- the line of a key, and 0 where it is not there
abbrev pub line_of : Entries → Key → ℕ
line_of es key = unwrap_or (option_map (λ s. s.line) (setting es (name key))) 0

-- what the value of a known key stands for, and its default where the key is not there
abbrev pub read_as : {A : Type 0} → (List ℕ → Option A) → A → Entries → Key → A
read_as stands_for default es key = unwrap_or (option_and_then stands_for (value_of es key)) default
