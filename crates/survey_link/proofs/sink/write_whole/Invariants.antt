use Rattle.std.proofs.Common.{◌≡◌, length}
use Rattle.survey_link.proofs.Writes.{Wrote}
use Rattle.survey_link.proofs.sink.write_whole.Given as goal

abbrev pub invariant-loop-rest : goal.invariant-loop-rest
invariant-loop-rest g l = record {
  wrote : Wrote (g.K.Sink.held l.fn.sink) (g.K.Sink.held l.sink) l.bytes l.rest;
  flushed : g.K.Sink.flushed l.sink ≡ g.K.Sink.flushed l.fn.sink;
  faults : g.K.Sink.faults l.sink ≡ g.K.Sink.faults l.fn.sink;
}

abbrev pub decreases-loop-rest : goal.decreases-loop-rest
decreases-loop-rest g l = length l.rest
