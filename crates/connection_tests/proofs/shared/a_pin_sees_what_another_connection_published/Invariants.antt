use Rattle.connection_tests.proofs.shared.a_pin_sees_what_another_connection_published.Given as goal

abbrev pub ghosts-opened_and_pinned : goal.ghosts-opened_and_pinned
ghosts-opened_and_pinned g a = record { book = a.book }
