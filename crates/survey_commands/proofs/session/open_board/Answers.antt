use Rattle.std.proofs.Common.{ap, ◌∙◌}
use Rattle.reader_pin.specs.Solo.{opened}
use Rattle.survey_commands.proofs.session.open_board.Goals as goal

pub returns-clause-opened : goal.returns-clause-opened
returns-clause-opened g c =
    let found = c.in_ok-state.ensures.opened in
    (found.0, found.1, c.in_ok-new.ensures ∙ ap opened found.2)
