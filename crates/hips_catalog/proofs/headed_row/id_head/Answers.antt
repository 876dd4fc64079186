use Rattle.std.proofs.Common.{arith}
use Rattle.hips_catalog.proofs.headed_row.id_head.Goals as goal

pub returns : goal.returns
returns c = record { head_is = c.head_on.ensures; are_bytes = λ i. omega (arith, c.type_inv.id i) }
