use Rattle.fits_header.proofs.HeaderLemmas.{written-headers}
use Rattle.fits_header.proofs.laws.written_headers_are_read.Goals as goal

pub returns : goal.returns
returns c = written-headers
