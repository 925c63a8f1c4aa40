-- Runs of the machine that are shown.
use Rattle.std.specs.Prelude.{◌≡◌, ◌<◌, ℕ, None, Result, Ok, Err}
use Rattle.console_defs.specs.Machine.{MachineState}
use Rattle.console_defs.specs.Runs.{IsRun, end_at}
use Rattle.console_defs.specs.declared.run_end.RunEnd.{RunEnd}
use Rattle.bench_io.specs.Stream.{SinkState}
use Rattle.bench_io.specs.Written.{Wrote, Missed}
use Rattle.machine_change_defs.specs.Lines.{step_lines}

-- the run was made, and the lines of all its instructions were written
pub record ShowsWhole (limit : ℕ) (x y : MachineState) (out out' : SinkState) (ending : RunEnd) : Type 0 where
  pub made : ℕ
  pub run : IsRun None limit made x ending y
  pub wrote : Wrote out out' (step_lines x made)

-- The line of the last of a number of instructions could not be written; nothing ended the run before.
pub record BreaksOff (limit : ℕ) (x y : MachineState) (out out' : SinkState) : Type 0 where
  pub made : ℕ
  pub runs : (before : ℕ) → before < made → end_at None limit before x ≡ None
  pub missed : Missed out out' (step_lines x made)

-- a run of up to a number of instructions, by the answer
abbrev pub ShowsRun : {E : Type 0} → ℕ → MachineState → MachineState → SinkState → SinkState → Result RunEnd E → Type 0
ShowsRun limit x y out out' (Ok ending) = ShowsWhole limit x y out out' ending
ShowsRun limit x y out out' (Err error) = BreaksOff limit x y out out'
