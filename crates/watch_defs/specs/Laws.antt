-- What the definitions say of what is found.
use Rattle.std.specs.Prelude.{◌≡◌, ◌<◌, ◌≤◌, ℕ, ◌-◌, List, slice_get, Option, Some, IsTrue, IsFalse}
use Rattle.gpl_step_defs.specs.State.{GplState}
use Rattle.gpl_step_defs.specs.Run.{run}
use Rattle.watch_defs.specs.declared.item.Item.{Item}
use Rattle.watch_defs.specs.declared.found.Found.{Found}
use Rattle.watch_defs.specs.declared.found.Found.TheVariants.{Hit, None}
use Rattle.watch_defs.specs.Items as items
use Rattle.watch_defs.specs.Hits.{state_after, found}

-- No item of a list that is before a place holds at the step from one state to the next.
abbrev pub NoneHoldsBefore : List Item → ℕ → GplState → GplState → Type 0
NoneHoldsBefore list end before next =
    (place : ℕ) (item : Item) → place < end → slice_get list place ≡ Some item → IsFalse (items.holds item before next)

-- no item of the list holds
abbrev pub NoneHolds : List Item → GplState → GplState → Type 0
NoneHolds list before next =
    (place : ℕ) (item : Item) → slice_get list place ≡ Some item → IsFalse (items.holds item before next)

-- A step of a run of up to a number of steps is the first at which an item holds. The item is the first that holds
-- there, and its change is shown.
pub record IsFirstHit (list : List Item) (limit : ℕ) (s : GplState) (step from number : ℕ)
    (shown : Option (ℕ × ℕ)) : Type 0 where
  pub counted : 1 ≤ step
  pub made : step ≤ (run limit s).done
  pub first : (earlier : ℕ) → 1 ≤ earlier → earlier < step → NoneHolds list (state_after s (earlier - 1)) (state_after s earlier)
  pub begins : from ≡ (state_after s (step - 1)).pc
  pub numbered : 1 ≤ number
  pub item : Item
  pub is_item : slice_get list (number - 1) ≡ Some item
  pub holds : IsTrue (items.holds item (state_after s (step - 1)) (state_after s step))
  pub none_before : NoneHoldsBefore list (number - 1) (state_after s (step - 1)) (state_after s step)
  pub changed : shown ≡ items.change item (state_after s (step - 1)) (state_after s step)

-- What is found says so; where nothing is, no item holds at any step of the run.
abbrev pub IsFound : List Item → ℕ → GplState → Found → Type 0
IsFound list limit s (Hit step from number shown) = IsFirstHit list limit s step from number shown
IsFound list limit s None =
    (step : ℕ) → 1 ≤ step → step ≤ (run limit s).done → NoneHolds list (state_after s (step - 1)) (state_after s step)

-- the law, which is proved
abbrev pub HitsAreFirst : Type 0
HitsAreFirst = (list : List Item) (limit : ℕ) (s : GplState) → IsFound list limit s (found list limit s)
