use Rattle.decimal_scale.proofs.ReadNormal.{read_is_normal}
use Rattle.decimal_scale.proofs.laws.read_is_normal.Goals as goal

pub returns : goal.returns
returns c = read_is_normal
