use Rattle.std.proofs.Common.{ℕ, ◌<◌, get_or}
use Rattle.watch_defs.specs.declared.item.Item.{Item}
use Rattle.watch_defs.specs.Items.{IsItem}
use Rattle.session_tests.proofs.watched.each_is_item.Given as goal

-- each item so far can be watched
abbrev pub invariant-loop-item : goal.invariant-loop-item
invariant-loop-item l = (k : ℕ) (d : Item) → k < l.item-index → IsItem (get_or l.items k d)
