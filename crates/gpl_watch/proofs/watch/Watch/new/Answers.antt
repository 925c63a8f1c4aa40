use Rattle.std.proofs.Common.{◌∙◌, arith}
use Rattle.gpl_run.specs.Sessions.{gpl_state_of}
use Rattle.gpl_watch.proofs.Kept.{all_watched, kept_items, keeps}
use Rattle.gpl_watch.proofs.watch.Watch.new.Goals as goal

pub returns-clause-items : goal.returns-clause-items
returns-clause-items c =
    let items = c.deref-item-items.result.now in
    let s = gpl_state_of c.args.session.now in
    let watched = c.loop-item.watched.items in
    kept_items items s watched (all_watched items s watched c.loop-item.item-index c.loop-item.invariant (omega arith))
    ∙ c.deref-item-items.ensures.value

pub returns-clause-kept : goal.returns-clause-kept
returns-clause-kept c =
    let items = c.deref-item-items.result.now in
    let s = gpl_state_of c.args.session.now in
    let watched = c.loop-item.watched.items in
    keeps items s watched (all_watched items s watched c.loop-item.item-index c.loop-item.invariant (omega arith))
