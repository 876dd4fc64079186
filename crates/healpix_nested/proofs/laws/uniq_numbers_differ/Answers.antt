use Rattle.healpix_nested.specs.CellLaws.{uniq_number_injective}
use Rattle.healpix_nested.proofs.laws.uniq_numbers_differ.Goals as goal

pub returns : goal.returns
returns c order npix order' npix' first second same = uniq_number_injective order npix order' npix' first second same
