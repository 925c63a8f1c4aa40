use Rattle.session_tests.proofs.sessions.is_run.Given as goal

abbrev pub ghosts-runs_so : goal.ghosts-runs_so
ghosts-runs_so a = record { name = a.blank.name; parts = a.blank.parts }
