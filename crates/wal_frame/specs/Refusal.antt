-- Why a write-ahead log is refused.
use Rattle.std.specs.Prelude.{ℕ}
use Rattle.wal_frame.specs.declared.refusal.Reason.{Reason}
use Rattle.wal_frame.specs.declared.refusal.Reason.TheVariants.{NoHeader, OtherVersion, OtherSurvey, Malformed, BatchFault, NoTip}

-- the numbers of the reasons
abbrev pub reason_number : Reason → ℕ
reason_number NoHeader = 1
reason_number OtherVersion = 2
reason_number OtherSurvey = 3
reason_number Malformed = 4
reason_number BatchFault = 5
reason_number NoTip = 6
