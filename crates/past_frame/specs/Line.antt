-- The line of a record: `batch LENGTH` or `read K PATH`, numbers in plain decimals. This project's profile.
use Rattle.std.specs.Prelude.{ℕ, ◌+◌, ◌^◌, nat_lt, List, take, drop, position, codes, ◌==◌, Option, Some, None, option_map, option_and_then, if◌then◌else◌}
use Rattle.std.specs.Str.{bytes_eq}
use Rattle.decimal_scale.specs.Whole.{plain_value}
use Rattle.past_frame.specs.declared.line.Line.{Line}
use Rattle.past_frame.specs.declared.line.Line.TheVariants.{Batch, Read}

-- what a line asks for: that the batch is accepted whose body follows, of that length; or, by the first k edits, the file at
-- a path
pub data RecordLine : Type 0 where
  batch_line : ℕ → RecordLine
  read_line : ℕ → List ℕ → RecordLine

abbrev pub line_content : Line → RecordLine
line_content (Batch length) = batch_line length
line_content (Read k path) = read_line k path.now

abbrev pub space : ℕ
space = 32

abbrev pub line_feed : ℕ
line_feed = 10

-- what is before the first space, and what is after it
unfoldable pub cut : List ℕ → Option (List ℕ × List ℕ)
cut text = option_map (λ at. (take at text, drop (at + 1) text)) (position (λ b. b == space) text)

-- a number below a limit, in plain decimals
unfoldable pub number_below : ℕ → List ℕ → Option ℕ
number_below limit text = option_and_then (λ n. if nat_lt n limit then Some n else None) (plain_value text)

-- a batch has a body of at most `room` bytes
unfoldable pub batch_of : ℕ → List ℕ → Option RecordLine
batch_of room rest = option_map batch_line (number_below (room + 1) rest)

-- k is below 2^32, and the path is all that follows the space behind it
unfoldable pub read_of : List ℕ → Option RecordLine
read_of rest = option_and_then (λ parts. option_map (λ k. read_line k parts.1) (number_below (2 ^ 32) parts.0)) (cut rest)

-- what a line says by its word and what follows the space behind this
unfoldable pub line_by : ℕ → List ℕ → List ℕ → Option RecordLine
line_by room word rest =
    if bytes_eq word (codes "batch") then batch_of room rest
    else (if bytes_eq word (codes "read") then read_of rest else None)

-- what a line says, without its line feed
unfoldable pub line_of : ℕ → List ℕ → Option RecordLine
line_of room text = option_and_then (λ parts. line_by room parts.0 parts.1) (cut text)
