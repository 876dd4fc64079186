use Rattle.decimal_scale.specs.declared.exponent.TheConstants.{EXPONENT_LIMIT}
use Rattle.decimal_scale.proofs.Capped.{IsCappedFront}
use Rattle.decimal_scale.proofs.exponent.read_capped.Given as goal

abbrev pub invariant-loop-byte : goal.invariant-loop-byte
invariant-loop-byte l = IsCappedFront EXPONENT_LIMIT l.digits l.byte-index l.number
