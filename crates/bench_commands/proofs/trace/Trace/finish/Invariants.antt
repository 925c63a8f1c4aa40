use Rattle.bench_commands.proofs.trace.Trace.finish.Given as goal

abbrev pub ghosts-play_session : goal.ghosts-play_session
ghosts-play_session g a = record { name = a.blank.name; parts = a.blank.parts }
