use Rattle.survey_commands.proofs.session.open_state.Goals as goal

pub returns-clause-opened : goal.returns-clause-opened
returns-clause-opened g c = (
  record { conf = c.in_ok-generation.generation.conf; leaves = c.in_ok-generation.generation.leaves },
  c.in_ok-generation.ensures.opened,
  c.in_ok-first_state.ensures,
)
