use Rattle.std.proofs.Common.{◌<◌}
use Rattle.healpix_nested.specs.Cells.{cell_count}
use Rattle.coverage_moc.proofs.MemberLemmas.{all_has}
use Rattle.coverage_moc.proofs.TreeLemmas.{leaves-cover}
use Rattle.coverage_moc.proofs.laws.leaves_come_back.Goals as goal

pub returns : goal.returns
returns c = λ top leaves up below. leaves-cover top leaves up (all_has (λ leaf. leaf < cell_count top) leaves below)
