-- One turn of a run, a step; and the end of a run at its limit.
use Rattle.std.specs.Prelude.{ℕ, Option, Some, None, if◌then◌else◌}
use Rattle.console_defs.specs.Runs.{is_reached, is_self_jump}
use Rattle.tms_defs.specs.declared.step_end.StepEnd.{StepEnd}
use Rattle.tms_defs.specs.declared.step_end.StepEnd.TheVariants.{Done, Refused, Port}
use Rattle.console_defs.specs.declared.run_end.RunEnd.{RunEnd}
use Rattle.console_defs.specs.declared.run_end.RunEnd.TheVariants as run

-- How many instructions a step executed.
abbrev pub executed_by : StepEnd → ℕ
executed_by (Done word) = 1
executed_by (Refused address) = 0
executed_by (Port address) = 0

-- The end of a run that a step is.
abbrev pub end_of_turn : StepEnd → Option RunEnd
end_of_turn (Done word) = if is_self_jump (Done word) then Some run.SelfJump else None
end_of_turn (Refused address) = Some (run.Refused address)
end_of_turn (Port address) = Some (run.Port address)

-- The end of a run that executed as many instructions as its limit says.
abbrev pub end_at_limit : Option ℕ → ℕ → RunEnd
end_at_limit stop pc = if is_reached stop pc then run.Reached else run.Limit
