use Rattle.decimal_scale.proofs.WholeLemmas.{whole_is_read}
use Rattle.decimal_scale.proofs.laws.whole_is_read.Goals as goal

pub returns : goal.returns
returns c = whole_is_read
