-- What the digits are required to be.
use Rattle.decimal_scale.proofs.NormalForm.{digits_small, digits_last}
use Rattle.decimal_scale.proofs.decimal.read_scaled.Goals as goal

pub scale-requires-clause-small : goal.scale-requires-clause-small
scale-requires-clause-small c = digits_small _ c.in_ok-digits.digits c.in_ok-digits.ensures

pub scale-requires-clause-last : goal.scale-requires-clause-last
scale-requires-clause-last c = digits_last _ c.in_ok-digits.digits c.in_ok-digits.ensures
