use Rattle.hips_catalog.proofs.Found.{LocateState}
use Rattle.hips_catalog.proofs.rise.locate.Given as goal

abbrev pub invariant-loop-order : goal.invariant-loop-order
invariant-loop-order l = LocateState l.tiles l.row l.top l.order
