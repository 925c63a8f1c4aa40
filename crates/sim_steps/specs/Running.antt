-- Runs of turns.
use Rattle.std.specs.Prelude.{ℕ, ◌+◌, ◌≡◌, Option}
use Rattle.sim_rows.specs.Prelude.{GplState, MachineState, Reason, run, RunsSteps}

-- The turns from x to y are the run of up to a number of steps from a state, with what the run's answers are, and a
-- counter shows their instructions.
pub record RunsTurns (s : GplState) (limit : ℕ) (x y : MachineState) (before after done : ℕ) (stop : Option Reason)
    : Type 0 where
  pub done_is : done ≡ (run limit s).done
  pub stop_is : stop ≡ (run limit s).stop
  pub count : ℕ
  pub counted : after ≡ before + count
  pub runs : RunsSteps s limit count x y
