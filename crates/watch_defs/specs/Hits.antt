-- The first step of a run at which an item holds.
use Rattle.std.specs.Prelude.{ℕ, ◌+◌, ◌-◌, List, slice_get, position}
use Rattle.std.specs.Prelude.{Option, option_map, option_and_then, unwrap_or}
use Rattle.std.specs.List.{filter_map, range_with_len}
use Rattle.gpl_step_defs.specs.State.{GplState}
use Rattle.gpl_step_defs.specs.Run.{run}
use Rattle.watch_defs.specs.declared.item.Item.{Item}
use Rattle.watch_defs.specs.declared.found.Found.{Found}
use Rattle.watch_defs.specs.declared.found.Found.TheVariants as result
use Rattle.watch_defs.specs.Items.{holds, change}

-- The state after a number of steps of a run.
abbrev pub state_after : GplState → ℕ → GplState
state_after s made = (run made s).last

-- Profile: of the items that hold at the step from one state to the next, the first, by its place in the list.
abbrev pub first_item : List Item → GplState → GplState → Option ℕ
first_item items before next = position (λ item. holds item before next) items

-- what the item at a place of the list shows of the step
abbrev pub change_at : List Item → ℕ → GplState → GplState → Option (ℕ × ℕ)
change_at items place before next = option_and_then (λ item. change item before next) (slice_get items place)

-- Profile: the hit of the step with a number, counted from 1, if an item holds there: the number, the address of the
-- instruction, the number of the item, counted from 1, and its change.
abbrev pub hit_between : List Item → ℕ → GplState → GplState → Option Found
hit_between items number before next =
    option_map (λ place. result.Hit number before.pc (place + 1) (change_at items place before next))
    (first_item items before next)

abbrev pub hit_at : List Item → GplState → ℕ → Option Found
hit_at items s number = hit_between items number (state_after s (number - 1)) (state_after s number)

-- the hits of a number of first steps
abbrev pub hits : List Item → GplState → ℕ → List Found
hits items s count = filter_map (hit_at items s) (range_with_len 1 count)

-- What is found in a run of up to a number of steps: the first of its hits, if it has one.
abbrev pub found : List Item → ℕ → GplState → Found
found items limit s = unwrap_or (slice_get (hits items s (run limit s).done) 0) result.None
