-- Programs whose items are watched.
use Rattle.std.specs.Prelude.{◌≡◌, ◌≤◌, ℕ, zero, suc, ◌+◌, List, map, length, position, Option, None}
use Rattle.gpl_step_defs.specs.State.{GplState}
use Rattle.gpl_step_defs.specs.Run.{run, turns, bound}
use Rattle.sim_steps.specs.Running.{RunsTurns}
use Rattle.gpl_run.specs.Sessions.{SessionState, gpl_state_of}
use Rattle.watch_defs.specs.declared.item.Item.{Item}
use Rattle.watch_defs.specs.declared.item.Item.TheVariants.{Range, Pc}
use Rattle.watch_defs.specs.declared.found.Found.{Found}
use Rattle.watch_defs.specs.declared.found.Found.TheVariants as found
use Rattle.watch_defs.specs.Items.{IsItem, item_bytes, holds_since}

-- An item that is watched, and the bytes of its range that are kept.
pub record WatchedItem : Type 0 where
  pub item : Item
  pub kept : List ℕ

-- what is true of each: as many bytes are kept as the range has
abbrev pub count_of : Item → ℕ
count_of (Range space at len) = len
count_of (Pc at) = 0

pub record IsWatched (item : Item) (kept : List ℕ) : Type 0 where
  pub is_item : IsItem item
  pub size : length kept ≡ count_of item

-- The item with the bytes that a state shows.
abbrev pub watched_in : GplState → Item → WatchedItem
watched_in s item = record { item = item; kept = item_bytes item s }

abbrev pub watching : List Item → GplState → List WatchedItem
watching items s = map (watched_in s) items

abbrev pub items_of : List WatchedItem → List Item
items_of watched = map (λ w. w.item) watched

-- The state, but with the program at an address.
abbrev pub at_address : ℕ → GplState → GplState
at_address pc s = record s { pc = pc }

-- What is kept is what a state shows.
abbrev pub Keeps : List WatchedItem → GplState → Type 0
Keeps watched s = watched ≡ watching (items_of watched) s

-- The place of the first item that holds at a step to a state, by the bytes that are kept.
abbrev pub first_kept : GplState → List WatchedItem → Option ℕ
first_kept s watched = position (λ w. holds_since w.item w.kept s) watched

-- the sum of the bounds of a number of first turns of a run
abbrev pub bounds : ℕ → GplState → ℕ
bounds zero s = 0
bounds (suc count) s = bounds count s + bound (run count s).last

-- A run of up to `limit` steps was made from x to y, with its answers: the turns are those of the run, a counter shows
-- their instructions, and these are at most as many as the bounds of the turns allow.
pub record RunsWithin (limit : ℕ) (x y : SessionState) (before after done : ℕ) : Type 0 where
  pub runs : RunsTurns (gpl_state_of x) limit x.machine y.machine before after done y.ended
  pub within : after ≤ before + bounds (turns limit (gpl_state_of x)) (gpl_state_of x)

-- A program was run up to the first hit, whose step was made last, and it is running; or up to its end or to the limit.
abbrev pub Watches : ℕ → SessionState → SessionState → ℕ → ℕ → Found → Type 0
Watches limit x y before after (found.Hit step from item change) =
    RunsWithin step x y before after step × (y.ended ≡ None)
Watches limit x y before after found.None = RunsWithin limit x y before after (run limit (gpl_state_of x)).done
