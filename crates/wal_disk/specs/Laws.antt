-- A law of the definitions, the whole contract of a function of `laws`.
use Rattle.std.specs.Prelude.{◌≡◌, ℕ, List, ◌++◌, length, take, drop, flat_map, All}
use Rattle.pyramid_model.specs.Shape.{PyramidShape}
use Rattle.wal_frame.specs.Record.{WalRecord, record_bytes, FitsRecord}
use Rattle.wal_frame.specs.Reading.{wal_end, IsWal}
use Rattle.wal_disk.specs.Shut.{Shut}

-- the file begins with this header, and behind it stand these records and then the end
pub record StandsFor (shape : PyramidShape) (head : List ℕ) (records : List WalRecord) (file : List ℕ) : Type 0 where
  pub rest : List ℕ
  pub header : take (length head) file ≡ head
  pub wal : IsWal shape (drop (length head) file) records rest wal_end

-- so each crash that leaves a file which is shut behind records leaves these records
abbrev pub FilesStandForRecords : Type 0
FilesStandForRecords = (shape : PyramidShape) (head file : List ℕ) (records : List WalRecord) → All (FitsRecord shape) records →
    Shut (head ++ flat_map record_bytes records) file → StandsFor shape head records file
