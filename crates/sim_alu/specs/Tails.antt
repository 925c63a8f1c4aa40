-- The ends of these rows.
use Rattle.std.specs.Prelude.{ℕ, ◌≡◌}
use Rattle.sim_rows.specs.Prelude.{Changes, ReachesWithin, GSTEP, join, MachineState, Place, SeesFinished, Storing}
use Rattle.sim_rows.specs.Prelude.{view}
use Rattle.sim_rows.specs.Prelude.{Width, with_status, with_value}
use Rattle.sim_rows.specs.sim_view.Bounds.{bound_of_status}

-- From STORE on, where register 12 keeps a status byte: the result is stored, and then the status, and the row ends.
abbrev pub StoresWithStatus : MachineState → MachineState → ℕ → ℕ → Type 0
StoresWithStatus x y before after =
    (c : Changes) → (width : Width) → (place : Place) → (number status : ℕ) → Storing c width place number (view x)
    → (view x).r.r12 ≡ join status 0
    → ReachesWithin bound_of_status x y before after GSTEP
    (SeesFinished (with_status status (with_value width place number c)))
