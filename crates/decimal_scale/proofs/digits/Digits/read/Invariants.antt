use Rattle.std.proofs.Common.{take}
use Rattle.decimal_scale.specs.Scan.{Scanned}
use Rattle.decimal_scale.proofs.digits.Digits.read.Given as goal

abbrev pub invariant-loop-byte : goal.invariant-loop-byte
invariant-loop-byte l = Scanned (take l.byte-index l.text) l.digits
