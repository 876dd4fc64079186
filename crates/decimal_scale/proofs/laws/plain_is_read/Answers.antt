use Rattle.decimal_scale.proofs.PlainLemmas.{plain_written, plain_read}
use Rattle.decimal_scale.proofs.laws.plain_is_read.Goals as goal

pub returns : goal.returns
returns c = record { written = plain_written; read = plain_read }
