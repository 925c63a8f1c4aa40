use Rattle.gpl_run.specs.Sessions.{gpl_state_of}
use Rattle.gpl_watch.specs.Watches.{Keeps}
use Rattle.session_tests.proofs.watched.finds.Given as goal

-- what the program shows is kept
abbrev pub invariant-loop-one : goal.invariant-loop-one
invariant-loop-one g l = Keeps l.watch (gpl_state_of l.session)
