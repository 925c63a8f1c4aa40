use Rattle.bench_commands.proofs.commands.run.run.Given as goal

abbrev pub ghosts-run_session : goal.ghosts-run_session
ghosts-run_session a = record { name = a.blank.name; parts = a.blank.parts }
