-- What stands in the bytes of a write-ahead log from a record's gate on.
use Rattle.std.specs.Prelude.{◌≡◌, ℕ, ◌+◌, Bool, true, false, not, ◌||◌, ◌&&◌, ◌==◌, nat_lt, List, ◌++◌, length, flat_map, All, slice_index, slice_range}
use Rattle.std.specs.Int.{w64, from_be_bytes}
use Rattle.pyramid_model.specs.Shape.{PyramidShape}
use Rattle.wal_frame.specs.Record.{WalRecord, record_bytes, FitsRecord}

-- the length of a record before its payload
abbrev pub head_length : ℕ
head_length = 18

-- the length of the payload, as it stands there first, and as it stands there again
abbrev pub first_length : List ℕ → ℕ
first_length bytes = from_be_bytes w64 (slice_range bytes 2 10)

abbrev pub second_length : List ℕ → ℕ
second_length bytes = from_be_bytes w64 (slice_range bytes 10 18)

-- a gate is 1
abbrev pub is_open : List ℕ → Bool
is_open bytes = slice_index bytes 0 == 1

-- the record behind the gate isn't there whole; where its two lengths differ, it is no record that was cut short
abbrev pub is_cut : List ℕ → Bool
is_cut bytes = nat_lt (length bytes) head_length || ((first_length bytes == second_length bytes) && nat_lt (length bytes) (head_length + first_length bytes))

-- the WAL ends here: there is no gate, or one that isn't 1, or the record behind it isn't there whole
unfoldable pub ends_here : List ℕ → Bool
ends_here bytes = not (is_open bytes) || is_cut bytes

-- an open record stands there whole, and is none of a survey of that shape
pub record IsMalformed (shape : PyramidShape) (bytes : List ℕ) : Type 0 where
  pub goes_on : ends_here bytes ≡ false
  pub none : (r : WalRecord) (rest : List ℕ) → FitsRecord shape r → bytes ≡ record_bytes r ++ rest → ⊥

-- what a reader of the bytes is told: the WAL's end, a record with the bytes behind it, or a refusal
pub data Found : Type 0 where
  wal_end : Found
  record_then : WalRecord → List ℕ → Found
  malformed : Found

abbrev pub StandsFirst : PyramidShape → List ℕ → Found → Type 0
StandsFirst shape bytes wal_end = ends_here bytes ≡ true
StandsFirst shape bytes (record_then r rest) = FitsRecord shape r × (bytes ≡ record_bytes r ++ rest)
StandsFirst shape bytes malformed = IsMalformed shape bytes

-- no record
abbrev pub IsStop : Found → Type 0
IsStop wal_end = Unit {0}
IsStop (record_then r rest) = ⊥
IsStop malformed = Unit {0}

-- the bytes behind a WAL's header are these records, one after another, and behind them the WAL ends, or is malformed
pub record IsWal (shape : PyramidShape) (bytes : List ℕ) (records : List WalRecord) (rest : List ℕ) (stop : Found) : Type 0 where
  pub whole : bytes ≡ flat_map record_bytes records ++ rest
  pub each : All (FitsRecord shape) records
  pub last : StandsFirst shape rest stop
  pub no_more : IsStop stop
