-- What a piece of the interpreter does: its exit.
use Rattle.std.specs.Prelude.{◌≡◌, ◌+◌, ◌≤◌, ℕ}
use Rattle.console_defs.specs.Machine.{MachineState}
use Rattle.interp_defs.specs.Runs.{Runs}
use Rattle.sim_view.specs.View.{View, view, IsAt}

-- How a stretch of instructions ends: how many they are, where the machine is then, and what is seen of it.
pub record Exit : Type 0 where
  pub count : ℕ
  pub to : ℕ
  pub left : View

-- The stretch from x to y ends so: as many instructions were executed, which the counter shows, and none of them but
-- the last reached one of the interpreter's ends.
pub record Exits (x y : MachineState) (before after : ℕ) (e : Exit) : Type 0 where
  pub counted : after ≡ before + e.count
  pub runs : Runs e.count x y
  pub shows : view y ≡ e.left
  pub is_at : IsAt y e.to

-- At most a given number of instructions lead from x to y at an address, of whose view something holds.
pub record ReachesWithin (most : ℕ) (x y : MachineState) (before after : ℕ) (to : ℕ) (Holds : View → Type 0)
    : Type 0 where
  pub count : ℕ
  pub within : count ≤ most
  pub counted : after ≡ before + count
  pub runs : Runs count x y
  pub holds : Holds (view y)
  pub is_at : IsAt y to
