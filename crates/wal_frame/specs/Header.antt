-- The header of a write-ahead log.
use Rattle.std.specs.Prelude.{ℕ, List, ◌++◌, replicate, codes, slice_range, Option, Some, None, if◌then◌else◌}
use Rattle.std.specs.Int.{w32, to_be_bytes}
use Rattle.std.specs.Str.{bytes_eq}
use Rattle.std.specs.Option.{option_or}
use Rattle.wal_frame.specs.declared.survey.SurveyMark.{SurveyMark}
use Rattle.wal_frame.specs.declared.refusal.WalRefusal.{WalRefusal}
use Rattle.wal_frame.specs.declared.refusal.Reason.{Reason}
use Rattle.wal_frame.specs.declared.refusal.Reason.TheVariants.{NoHeader, OtherVersion, OtherSurvey}

-- eight letters, of which the first is the header's gate; the version, which is 1; the length of a tile's stored numbers; the
-- digest of the survey; and zeros
unfoldable pub header_bytes : SurveyMark → List ℕ
header_bytes mark = codes "HIPSDWAL" ++ (to_be_bytes w32 1 ++ (to_be_bytes w32 mark.tile_length ++ (mark.digest ++ replicate 16 0)))

abbrev pub header_length : ℕ
header_length = 64

-- a field of the header, from start to end, is to be the survey's
unfoldable pub field_refusal : Reason → ℕ → ℕ → List ℕ → List ℕ → Option WalRefusal
field_refusal reason start end bytes header =
    if bytes_eq (slice_range bytes start end) (slice_range header start end) then None else Some (record { reason = reason; offset = start })

-- the first that stands: no header of a WAL, another version, and in this version zeros that are none, and another survey
unfoldable pub header_refusal : SurveyMark → List ℕ → Option WalRefusal
header_refusal mark bytes =
    option_or (field_refusal NoHeader 0 8 bytes (header_bytes mark))
    (option_or (field_refusal OtherVersion 8 12 bytes (header_bytes mark))
    (option_or (field_refusal NoHeader 48 64 bytes (header_bytes mark))
    (option_or (field_refusal OtherSurvey 12 16 bytes (header_bytes mark)) (field_refusal OtherSurvey 16 48 bytes (header_bytes mark)))))
