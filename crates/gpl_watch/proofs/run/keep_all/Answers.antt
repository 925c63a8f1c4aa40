use Rattle.std.proofs.Common.{◌≡◌, get_or, ap, arith}
use Rattle.std.proofs.lemmas.List.Edits.{map_over_more}
use Rattle.gpl_run.specs.Sessions.{gpl_state_of}
use Rattle.gpl_watch.specs.Watches.{WatchedItem, watched_in}
use Rattle.gpl_watch.proofs.run.keep_all.Goals as goal

pub loop-one-preserved : goal.loop-one-preserved
loop-one-preserved c =
    let watched = c.loop-one.watched in
    let place = c.loop-one.one-index in
    let again = λ (w : WatchedItem). watched_in (gpl_state_of c.args.session.now) w.item in
    let one : WatchedItem = get_or watched place c.one-item.result in
    let read : one ≡ get_or watched place one =
    ap (λ (other : WatchedItem). get_or watched place other) c.one-item.is in
    rw c.keep.ensures
    (map_over_more again c.args.watched.now watched place one (omega arith) c.loop-one.invariant read)
