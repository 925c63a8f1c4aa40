use Rattle.std.proofs.Common.{◌≡◌, take}
use Rattle.gpl_run.specs.Sessions.{gpl_state_of}
use Rattle.gpl_watch.specs.Watches.{watching}
use Rattle.gpl_watch.proofs.watch.Watch.new.Given as goal

-- the items so far are watched
abbrev pub invariant-loop-item : goal.invariant-loop-item
invariant-loop-item l = l.watched.items ≡ watching (take l.item-index l.item-items) (gpl_state_of l.session)
