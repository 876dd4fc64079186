use Rattle.board_story.proofs.survey.with_boards.Given as goal

abbrev pub ghosts-open : goal.ghosts-open
ghosts-open g a = record { book = a.book }
