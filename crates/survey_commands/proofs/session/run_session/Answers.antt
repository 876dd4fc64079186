use Rattle.std.proofs.Common.{refl, Ok, Err}
use Rattle.survey_commands.proofs.session.run_session.Goals as goal

pub returns-in-Ok-clause-run : goal.returns-in-Ok-clause-run
returns-in-Ok-clause-run g c = λ input e.
    let opened = c.in-Ok.ensures.opened in
    (Ok opened.0, (opened.1, c.serve_source.ensures.served opened.0 input opened.2 e))

pub returns-in-Err-clause-run : goal.returns-in-Err-clause-run
returns-in-Err-clause-run g c = λ input e. (Err c.in-Err.refusal, (c.in-Err.ensures.refused, refl, c.say_why.ensures.said))
