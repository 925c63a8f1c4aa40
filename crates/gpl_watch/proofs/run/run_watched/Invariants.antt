use Rattle.gpl_watch.specs.Watches.{items_of}
use Rattle.gpl_watch.proofs.WatchedRuns.{Watching}
use Rattle.gpl_watch.proofs.run.run_watched.Given as goal

-- a number of steps were made, and no item held
abbrev pub invariant-loop-made : goal.invariant-loop-made
invariant-loop-made g l = Watching (items_of l.fn.watched) l.fn.session l.session l.fn.steps l.steps l.made l.watched
