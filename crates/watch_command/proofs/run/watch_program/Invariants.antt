use Rattle.watch_command.proofs.run.watch_program.Given as goal

abbrev pub ghosts-watch_session : goal.ghosts-watch_session
ghosts-watch_session a = record { name = a.blank.name; parts = a.blank.parts }
