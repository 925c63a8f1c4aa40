use Rattle.session_tests.proofs.watched.is_watched.Given as goal

abbrev pub ghosts-finds : goal.ghosts-finds
ghosts-finds a = record { name = a.blank.name; parts = a.blank.parts }
