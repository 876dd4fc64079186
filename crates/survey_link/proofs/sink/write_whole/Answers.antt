use Rattle.std.proofs.Common.{◌∙◌}
use Rattle.std.proofs.lemmas.Result.{err_from_is_err_and}
use Rattle.survey_link.proofs.Writes.{wrote_more, wrote_prefix}
use Rattle.survey_link.proofs.sink.write_whole.Goals as goal

pub returns-in_err-written-clause-part : goal.returns-in_err-written-clause-part
returns-in_err-written-clause-part g c =
    let error = err_from_is_err_and c.from_residual.result c.from_residual.ensures.1 in
    rw (error.1, c.in_err-written.ensures.kept) (wrote_prefix _ _ _ _ c.loop-rest.invariant.wrote)

pub loop-rest-preserved : goal.loop-rest-preserved
loop-rest-preserved g c = record {
  wrote = wrote_more _ _ _ _ _ _ c.loop-rest.invariant.wrote c.in_ok-written.ensures.appended;
  flushed = c.write.ensures.flushed ∙ c.loop-rest.invariant.flushed;
  faults = c.in_ok-written.ensures.faults ∙ c.loop-rest.invariant.faults;
}
