use Rattle.decimal_scale.proofs.Writing.{text_short}
use Rattle.decimal_scale.proofs.laws.written_is_short.Goals as goal

pub returns : goal.returns
returns c = text_short
