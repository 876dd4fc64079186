use Rattle.hips_catalog.proofs.Found.{RiseState}
use Rattle.hips_catalog.proofs.rise.rise.Given as goal

abbrev pub invariant-loop-order : goal.invariant-loop-order
invariant-loop-order l = RiseState l.initial.tiles l.tiles l.row l.top l.room l._order l.cell l.i
