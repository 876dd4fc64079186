-- The records of an input, one after another, and how the input ends. This project's profile.
use Rattle.std.specs.Prelude.{ℕ, zero, suc, ◌+◌, ◌*◌, List, [], ◌∷◌}
use Rattle.survey_conf.specs.Description.{Description}
use Rattle.fits_header.specs.Cards.{whole_blocks}
use Rattle.fits_tile.specs.TileFile.{data_len}
use Rattle.past_frame.specs.Record.{PastRecord, NextRecord, no_more, cut_short, no_line, then_rest, next_record}
use Rattle.past_session.specs.declared.ending.PastEnd.{PastEnd}
use Rattle.past_session.specs.declared.ending.PastEnd.TheVariants.{Done, Cut, BadLine, Spent}

-- its whole records, and how it ends: between records, within one, at one that has no line, or not where all records that are
-- taken were
pub record PastInput : Type 0 where
  pub records : List PastRecord
  pub end : PastEnd

-- how many records are taken
abbrev pub most_records : ℕ
most_records = 65536

-- the greatest length of the body of a batch
abbrev pub room_of : Description → ℕ
room_of d = 4 * (106560 + whole_blocks (data_len d.shape))

abbrev pub ends_by : PastEnd → PastInput
ends_by end = record { records = []; end = end }

abbrev pub with_record : PastRecord → PastInput → PastInput
with_record first later = record { records = first ∷ later.records; end = later.end }

-- by what comes first, behind `at` records
abbrev pub then_records : ℕ → NextRecord → (List ℕ → PastInput) → PastInput
then_records at no_more later = ends_by Done
then_records at cut_short later = ends_by Cut
then_records at no_line later = ends_by (BadLine at)
then_records at (then_rest first rest) later = with_record first (later rest)

-- behind the last record that is taken nothing may come
abbrev pub behind_all : List ℕ → PastInput
behind_all [] = ends_by Done
behind_all (_ ∷ _) = ends_by Spent

-- the records of bytes that follow `at` records, of which at most so many more are taken
unfoldable pub records_from : ℕ → ℕ → ℕ → List ℕ → PastInput
records_from room at zero input = behind_all input
records_from room at (suc more) input = then_records at (next_record room input) (records_from room (at + 1) more)

-- the records of an input, where the body of a batch has at most `room` bytes
unfoldable pub records_of : ℕ → List ℕ → PastInput
records_of room input = records_from room 0 most_records input
