use Rattle.std.proofs.Common.{refl, [], Ok, Err, ap, ◌∙◌}
use Rattle.std.specs.Arc.{arc_value}
use Rattle.survey_commands.specs.Past.{past_status}
use Rattle.survey_commands.proofs.PastLemmas.{consumes_none, says_flushed}
use Rattle.survey_commands.proofs.past.run_past.Goals as goal

pub returns-in-Ok-clause-run : goal.returns-in-Ok-clause-run
returns-in-Ok-clause-run g c = λ input e.
    let opening = arc_value c.in-Ok.opening in (
      Ok (record { conf = opening.conf; leaves = opening.leaves }),
      record {
        opens = c.in-Ok.ensures.opened;
        steps_then = _;
        cost = c.in-Ok.ensures.steps;
        answers = record { end = c.past_session-end.result; run = c.past_session-end.ensures.run input e; status_is = c.past_status.ensures.status };
      },
    )

pub returns-in-Ok-clause-over : goal.returns-in-Ok-clause-over
returns-in-Ok-clause-over g c =
    let opening = arc_value c.in-Ok.opening in
    let over = c.past_session-end.ensures.over in
    record {
      came = over.came;
      consumed = over.consumed;
      run = (
        Ok (record { conf = opening.conf; leaves = opening.leaves }),
        record {
          opens = c.in-Ok.ensures.opened;
          steps_then = _;
          cost = c.in-Ok.ensures.steps;
          answers = record { end = c.past_session-end.result; run = over.run; status_is = c.past_status.ensures.status };
        },
      );
    }

pub returns-in-Ok-clause-flushed : goal.returns-in-Ok-clause-flushed
returns-in-Ok-clause-flushed g c = λ other. c.past_session-end.ensures.flushed (λ is. other (c.past_status.ensures.status ∙ ap past_status is))

pub returns-in-Err-clause-run : goal.returns-in-Err-clause-run
returns-in-Err-clause-run g c = λ input e. (
  Err c.in-Err.refusal,
  record {
    opens_not = c.in-Err.ensures.refused;
    unread = refl;
    says = c.say_why.ensures.said;
    cost = c.open_survey.ensures.steps_told;
  },
)

pub returns-in-Err-clause-over : goal.returns-in-Err-clause-over
returns-in-Err-clause-over g c = record {
  came = [];
  consumed = consumes_none _;
  run = (
    Err c.in-Err.refusal,
    record {
      opens_not = c.in-Err.ensures.refused;
      unread = refl;
      says = c.say_why.ensures.said;
      cost = c.open_survey.ensures.steps_told;
    },
  );
}

pub returns-in-Err-clause-flushed : goal.returns-in-Err-clause-flushed
returns-in-Err-clause-flushed g c = λ other. says_flushed _ _ _ other c.in-Err.refusal c.say_why.ensures.said
