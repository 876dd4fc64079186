-- Whether the count of faults of an end rose, by what failed.
use Rattle.std.proofs.Common.{◌≡◌, Bool, false, Err, sym, ap, subst}
use Rattle.survey_link.specs.Link.{CountsFault}
use Rattle.survey_link.specs.declared.source.Source as source
use Rattle.survey_link.specs.declared.sink.Sink as sink
use Rattle.past_session.specs.Ending.{end_of_halt, send_failed}
use Rattle.past_session.specs.Order.{Moment, Faults}
use Rattle.past_session.specs.Run.{is_read_fault, is_write_fault}
use Rattle.past_session.specs.declared.ending.Halt.{Halt}
use Rattle.past_session.specs.declared.ending.Halt.TheVariants as halt

module _ {S K : Type 0} (told_source : source.Ghosts S) (told_sink : sink.Ghosts K) where
  -- after what failed in nothing
  pub faults_on : (read write : Bool) (a b c : Moment S K) → Faults told_source told_sink false false a b → Faults told_source told_sink read write b c → Faults told_source told_sink read write a c
  faults_on read write a b c first second = record {
    source = subst (λ n. CountsFault read n (told_source.faults c.src)) first.source second.source;
    sink = subst (λ n. CountsFault write n (told_sink.faults c.sink)) first.sink second.sink;
  }

  -- where the sink wasn't used
  pub reads_alone : (read write : Bool) (a b : Moment S K) → CountsFault read (told_source.faults a.src) (told_source.faults b.src) → b.sink ≡ a.sink → write ≡ false → Faults told_source told_sink read write a b
  reads_alone read write a b source sink well = record {
    source = source;
    sink = subst (λ failed. CountsFault failed (told_sink.faults a.sink) (told_sink.faults b.sink)) (sym well) (ap told_sink.faults sink);
  }

  -- where a record wasn't answered whole
  pub halts : (why : Halt) (a b : Moment S K) → told_source.faults b.src ≡ told_source.faults a.src → CountsFault (send_failed (Err why)) (told_sink.faults a.sink) (told_sink.faults b.sink)
      → Faults told_source told_sink (is_read_fault (end_of_halt why)) (is_write_fault (end_of_halt why)) a b
  halts halt.WriteFault a b source sink = record { source = source; sink = sink }
  halts halt.OutOfMemory a b source sink = record { source = source; sink = sink }
