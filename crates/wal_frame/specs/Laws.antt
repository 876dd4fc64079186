-- Laws of the definitions, each the whole contract of a function of `laws`.
use Rattle.std.specs.Prelude.{◌≡◌, ◌↔◌, ◌≤◌, ℕ, false, List, [], ◌++◌, length, take, None, IsTrue}
use Rattle.parent_rule.specs.Depth.{is_bitpix}
use Rattle.pyramid_model.specs.Shape.{PyramidShape, IsShape}
use Rattle.wal_frame.specs.declared.survey.SurveyMark.{SurveyMark}
use Rattle.wal_frame.specs.Record.{WalRecord, record_bytes, FitsRecord}
use Rattle.wal_frame.specs.Reading.{Found, wal_end, record_then, malformed, ends_here, StandsFirst, IsWal}
use Rattle.wal_frame.specs.Header.{header_bytes, header_length, header_refusal}

-- a shape that a survey may have
pub record IsKnown (shape : PyramidShape) : Type 0 where
  pub known : IsShape shape.top shape.low shape.n
  pub bitpix : IsTrue (is_bitpix shape.depth.bitpix)

-- what stands first in some bytes is one thing; so what was written is read again, whatever follows it
pub record RecordsComeBack : Type 0 where
  pub one : (shape : PyramidShape) (bytes : List ℕ) (a b : Found) → IsKnown shape → StandsFirst shape bytes a → StandsFirst shape bytes b → a ≡ b
  pub written : (shape : PyramidShape) (r : WalRecord) (rest : List ℕ) (answer : Found) → IsKnown shape → FitsRecord shape r →
      StandsFirst shape (record_bytes r ++ rest) answer → answer ≡ record_then r rest

-- the same with more bytes behind
abbrev pub then_more : List ℕ → Found → Found
then_more more wal_end = wal_end
then_more more (record_then r rest) = record_then r (rest ++ more)
then_more more malformed = malformed

-- what stands whole at the front of some bytes stands there whatever follows, and a record's own bytes are enough to read it
pub record RecordsStandAlone : Type 0 where
  pub longer : (shape : PyramidShape) (front more : List ℕ) (found : Found) → IsKnown shape → ends_here front ≡ false →
      StandsFirst shape front found → StandsFirst shape (front ++ more) (then_more more found)
  pub alone : (shape : PyramidShape) (bytes rest : List ℕ) (r : WalRecord) → StandsFirst shape bytes (record_then r rest) →
      StandsFirst shape (take (length (record_bytes r)) bytes) (record_then r [])

-- what is one WAL are no other records, and it ends in one place
pub record SameWal (records others : List WalRecord) (rest left : List ℕ) (stop end : Found) : Type 0 where
  pub same_records : records ≡ others
  pub same_rest : rest ≡ left
  pub same_stop : stop ≡ end

abbrev pub WalsAreOne : Type 0
WalsAreOne = (shape : PyramidShape) (bytes : List ℕ) (records others : List WalRecord) (rest left : List ℕ) (stop end : Found) → IsKnown shape →
    IsWal shape bytes records rest stop → IsWal shape bytes others left end → SameWal records others rest left stop end

-- a header isn't refused exactly if it is the survey's, byte for byte
abbrev pub HeadersAreKnown : Type 0
HeadersAreKnown = (mark : SurveyMark) (bytes : List ℕ) → length mark.digest ≡ 32 → header_length ≤ length bytes →
    (header_refusal mark bytes ≡ None ↔ (take header_length bytes ≡ header_bytes mark))
