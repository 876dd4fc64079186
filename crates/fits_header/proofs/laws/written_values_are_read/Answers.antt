use Rattle.fits_header.proofs.ReadBackLemmas.{written-values}
use Rattle.fits_header.proofs.laws.written_values_are_read.Goals as goal

pub returns : goal.returns
returns c = written-values c.written_is_read.ensures c.whole_is_read.ensures
