use Rattle.hips_catalog.proofs.RowLemmas.{row_is_read}
use Rattle.hips_catalog.proofs.laws.row_is_read.Goals as goal

pub returns : goal.returns
returns c = row_is_read c.plain_is_read.ensures
