use Rattle.healpix_nested.specs.CellLaws.{under_self, under_trans, under_one, under_means_child}
use Rattle.healpix_nested.proofs.laws.cells_nest.Goals as goal

pub returns : goal.returns
returns c = record { itself = under_self; through = under_trans; one = under_one; four = under_means_child }
