use Rattle.decimal_scale.proofs.RoundTrip.{written_is_read}
use Rattle.decimal_scale.proofs.laws.written_is_read.Goals as goal

pub returns : goal.returns
returns c = written_is_read
