use Rattle.std.proofs.Common.{refl, Ok, Err}
use Rattle.survey_commands.proofs.mirror.run_mirror.Goals as goal

pub returns-in-Ok-clause-run : goal.returns-in-Ok-clause-run
returns-in-Ok-clause-run g c =
    (Ok c.in-Ok.count, (refl, record { copies = c.in-Ok.ensures.copied; flushed = c.in-Ok.ensures.flushed }))

pub returns-in-Err-clause-run : goal.returns-in-Err-clause-run
returns-in-Err-clause-run g c = (
  Err c.in-Err.refusal,
  (
    c.refusal_status.ensures.status,
    record {
      refused = c.in-Err.ensures.refused;
      untouched = c.in-Err.ensures.untouched;
      last = c.in-Err.ensures.last;
      steps = c.in-Err.ensures.steps;
    },
  ),
)
