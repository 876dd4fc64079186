-- The record that comes first in unread bytes: a line of at most 128 bytes with its line feed, and behind the line of a batch
-- its body. This project's profile.
use Rattle.std.specs.Prelude.{ℕ, ◌+◌, nat_lt, List, [], ◌∷◌, length, take, drop, position, ◌==◌, Option, Some, None, if◌then◌else◌}
use Rattle.past_frame.specs.Line.{RecordLine, batch_line, read_line, line_of, line_feed}

-- a batch with its body, or the number of edits and the path of a read
pub data PastRecord : Type 0 where
  batch : List ℕ → PastRecord
  read : ℕ → List ℕ → PastRecord

-- what comes first: nothing is left, or the input ends within the record, or no line of a record comes, or a record with the
-- bytes that follow it
pub data NextRecord : Type 0 where
  no_more : NextRecord
  cut_short : NextRecord
  no_line : NextRecord
  then_rest : PastRecord → List ℕ → NextRecord

-- the greatest length of a line
abbrev pub most_line : ℕ
most_line = 128

-- by the line, and what follows its line feed
abbrev pub by_line : Option RecordLine → List ℕ → NextRecord
by_line None rest = no_line
by_line (Some (batch_line count)) rest = if nat_lt (length rest) count then cut_short else then_rest (batch (take count rest)) (drop count rest)
by_line (Some (read_line k path)) rest = then_rest (read k path) rest

-- by the place of the line feed
abbrev pub by_end : ℕ → List ℕ → Option ℕ → NextRecord
by_end room bytes None = if nat_lt (length bytes) most_line then cut_short else no_line
by_end room bytes (Some at) = by_line (line_of room (take at bytes)) (drop (at + 1) bytes)

-- the place of the line feed among the bytes that a line may have
abbrev pub line_end : List ℕ → Option ℕ
line_end bytes = position (λ b. b == line_feed) (take most_line bytes)

-- what comes first in unread bytes, if the body of a batch has at most `room` bytes
unfoldable pub next_record : ℕ → List ℕ → NextRecord
next_record room [] = no_more
next_record room (b ∷ bytes) = by_end room (b ∷ bytes) (line_end (b ∷ bytes))
