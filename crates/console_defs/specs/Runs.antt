-- Where a run of steps ends.
-- Profile: a run has five ends: its program counter is at the address that ends it; as many instructions were
-- executed as its limit says; a step is refused; a step meets a port; a jump to itself was executed.
use Rattle.std.specs.Prelude.{◌≡◌, ◌<◌, ℕ, zero, suc, ◌==◌, Bool, false, if◌then◌else◌, Option, Some, None}
use Rattle.console_defs.specs.Machine.{MachineState, machine_step}
use Rattle.tms_defs.specs.declared.step_end.StepEnd.{StepEnd}
use Rattle.tms_defs.specs.declared.step_end.StepEnd.TheVariants.{Done, Refused, Port}
use Rattle.console_defs.specs.declared.run_end.RunEnd.{RunEnd}
use Rattle.console_defs.specs.declared.run_end.RunEnd.TheVariants as run

-- The program counter is at the address that ends the run, where there is one.
abbrev pub is_reached : Option ℕ → ℕ → Bool
is_reached None pc = false
is_reached (Some stop) pc = pc == stop

-- The jump to itself was executed. TMS9900 data manual, "Jump instructions".
abbrev pub is_self_jump : StepEnd → Bool
is_self_jump (Done word) = word == 0x10FF
is_self_jump (Refused address) = false
is_self_jump (Port address) = false

-- A step that executes no instruction ends the run.
abbrev pub end_of_step : StepEnd → Option RunEnd
end_of_step (Done word) = None
end_of_step (Refused address) = Some (run.Refused address)
end_of_step (Port address) = Some (run.Port address)

-- The machine after a number of steps in a row.
abbrev pub after_steps : ℕ → MachineState → MachineState
after_steps zero x = x
after_steps (suc made) x = (machine_step (after_steps made x)).1

-- The last of a number of steps executed the jump to itself.
abbrev pub self_jumped : ℕ → MachineState → Bool
self_jumped zero x = false
self_jumped (suc made) x = is_self_jump (machine_step (after_steps made x)).0

-- What ends a run before a step from x, where a number of steps were made, or at that step.
-- Profile: the end's address is looked at before the limit, and the limit before the step.
abbrev pub end_before : Option ℕ → ℕ → ℕ → MachineState → Option RunEnd
end_before stop limit made x =
    if is_reached stop x.cpu.pc then Some run.Reached
    else if made == limit then Some run.Limit
    else end_of_step (machine_step x).0

-- What ends a run from x, if anything does, where a number of steps were made.
-- Profile: a jump to itself that was executed is tested before the limit.
abbrev pub end_at : Option ℕ → ℕ → ℕ → MachineState → Option RunEnd
end_at stop limit made x =
    if self_jumped made x then Some run.SelfJump else end_before stop limit made (after_steps made x)

-- A run from x to y, over a number of executed instructions: the least number at which something ends it.
pub record IsRun (stop : Option ℕ) (limit made : ℕ) (x : MachineState) (ending : RunEnd) (y : MachineState) :
    Type 0 where
  pub ends : end_at stop limit made x ≡ Some ending
  pub first : (before : ℕ) → before < made → end_at stop limit before x ≡ None
  pub left : y ≡ after_steps made x
