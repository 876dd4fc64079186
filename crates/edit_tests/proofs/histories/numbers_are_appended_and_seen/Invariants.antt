use Rattle.edit_tests.proofs.histories.numbers_are_appended_and_seen.Given as goal

abbrev pub ghosts-opened : goal.ghosts-opened
ghosts-opened g a = record { book = a.book }
