use Rattle.std.specs.Arc.{arc_value}
use Rattle.hips_catalog.proofs.Sunk.{SinkState}
use Rattle.hips_catalog.proofs.sink.sink.Given as goal

abbrev pub invariant-loop-order : goal.invariant-loop-order
invariant-loop-order l = SinkState l.initial.tiles l.tiles (arc_value l.initial.row) (arc_value l.row) l.top l.room l.order l.spare
