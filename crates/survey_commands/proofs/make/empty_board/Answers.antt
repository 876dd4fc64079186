use Rattle.survey_commands.proofs.MakeLemmas.{no_charge}
use Rattle.survey_commands.proofs.make.empty_board.Goals as goal

pub first_board-requires-clause-charge : goal.first_board-requires-clause-charge
first_board-requires-clause-charge g c =
    no_charge c.in_ok-generation.generation.leaves (cc (c.in_ok-generation.ensures.made, c.new.ensures))
