use Rattle.hips_place.proofs.doors.serve_doors.Given as goal

-- the book that was just made
abbrev pub ghosts-serve_named : goal.ghosts-serve_named
ghosts-serve_named g a = record { book = a.book }
