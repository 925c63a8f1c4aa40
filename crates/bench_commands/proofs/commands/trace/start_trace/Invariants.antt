use Rattle.bench_commands.proofs.commands.trace.start_trace.Given as goal

abbrev pub ghosts-start_session : goal.ghosts-start_session
ghosts-start_session a = record { name = a.blank.name; parts = a.blank.parts }
