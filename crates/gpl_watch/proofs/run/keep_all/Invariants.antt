use Rattle.std.proofs.Common.{◌≡◌, ◌++◌, map, take, drop}
use Rattle.gpl_run.specs.Sessions.{gpl_state_of}
use Rattle.gpl_watch.specs.Watches.{WatchedItem, watched_in}
use Rattle.gpl_watch.proofs.run.keep_all.Given as goal

-- the items before the next one are kept anew
abbrev pub invariant-loop-one : goal.invariant-loop-one
invariant-loop-one l =
    l.watched
    ≡ map (λ (w : WatchedItem). watched_in (gpl_state_of l.session) w.item) (take l.one-index l.fn.watched)
    ++ drop l.one-index l.fn.watched
