-- The line of an entry in the body of a batch: `put LEAF LENGTH`, `add LEAF LENGTH`, `replace LEAF LENGTH` or `remove LEAF`,
-- numbers in plain decimals, LEAF a number of the order of the leaves, LENGTH below 2^32. This project's profile.
use Rattle.std.specs.Prelude.{ℕ, ◌+◌, ◌^◌, nat_lt, List, take, drop, position, codes, ◌==◌, Option, Some, None, option_map, option_and_then, if◌then◌else◌}
use Rattle.std.specs.Str.{bytes_eq}
use Rattle.healpix_nested.specs.Cells.{cell_count}
use Rattle.decimal_scale.specs.Whole.{plain_value}
use Rattle.survey_core.specs.declared.line.Verb.{Verb}
use Rattle.survey_core.specs.declared.line.Verb.TheVariants.{Put, Add, Replace}
use Rattle.survey_core.specs.declared.line.Line.{Line}
use Rattle.survey_core.specs.declared.line.Line.TheVariants.{Tiled, Remove}

infixl 10 ◌>>=◌
abbrev pub ◌>>=◌ : {A B : Type 0} → Option A → (A → Option B) → Option B
found >>= next = option_and_then next found

abbrev pub space : ℕ
space = 32

abbrev pub line_feed : ℕ
line_feed = 10

-- what is before the first such byte, and what is after it
abbrev pub cut : ℕ → List ℕ → Option (List ℕ × List ℕ)
cut byte bytes = option_map (λ at. (take at bytes, drop (at + 1) bytes)) (position (λ b. b == byte) bytes)

-- a number below a limit, in plain decimals
unfoldable pub number_below : ℕ → List ℕ → Option ℕ
number_below limit text = option_and_then (λ n. if nat_lt n limit then Some n else None) (plain_value text)

-- the words of the entries that have a tile
unfoldable pub verb_of : List ℕ → Option Verb
verb_of word =
    if bytes_eq word (codes "put") then Some Put
    else (if bytes_eq word (codes "add") then Some Add
    else (if bytes_eq word (codes "replace") then Some Replace else None))

-- a leaf, and the length of the file of its tile
unfoldable pub tiled_line : ℕ → Verb → List ℕ → Option Line
tiled_line top verb numbers = do
  parts ← cut space numbers
  leaf ← number_below (cell_count top) parts.0
  len ← number_below (2 ^ 32) parts.1
  Some (Tiled verb leaf len)

-- what a line says by its word and what follows this
unfoldable pub line_by : ℕ → List ℕ → List ℕ → Option Line
line_by top word numbers =
    if bytes_eq word (codes "remove") then option_map Remove (number_below (cell_count top) numbers)
    else option_and_then (λ verb. tiled_line top verb numbers) (verb_of word)

-- what a line says, in a survey whose leaves are of order `top`
unfoldable pub line_of : ℕ → List ℕ → Option Line
line_of top text = do
  parts ← cut space text
  line_by top parts.0 parts.1

-- the line at the front of some bytes, and what follows its line feed
unfoldable pub line_at : ℕ → List ℕ → Option (Line × List ℕ)
line_at top bytes = do
  parts ← cut line_feed bytes
  line ← line_of top parts.0
  Some (line, parts.1)
