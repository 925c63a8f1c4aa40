-- A run of the machine that is written.
use Rattle.std.specs.Prelude.{◌⊎◌, ℕ, List, ◌++◌, None, Result, Ok, Err}
use Rattle.console_defs.specs.Machine.{MachineState}
use Rattle.console_defs.specs.Runs.{IsRun}
use Rattle.console_defs.specs.declared.run_end.RunEnd.{RunEnd}
use Rattle.bench_io.specs.Stream.{SinkState}
use Rattle.bench_io.specs.Written.{Wrote, Missed}
use Rattle.report_defs.specs.Exec.{exec_lines}
use Rattle.machine_change_defs.specs.Lines.{step_lines, expansion_lines}
use Rattle.machine_steps.specs.Shown.{BreaksOff}

-- the lines of a run and of the machine that it left
abbrev pub run_lines : MachineState → ℕ → RunEnd → MachineState → List (List ℕ)
run_lines x made ending y = step_lines x made ++ (exec_lines ending y ++ expansion_lines y.cpu.memory)

-- all of them were written
pub record WritesWhole (limit : ℕ) (x y : MachineState) (out out' : SinkState) (ending : RunEnd) : Type 0 where
  pub made : ℕ
  pub run : IsRun None limit made x ending y
  pub wrote : Wrote out out' (run_lines x made ending y)

-- the run was made, and one of them could not be written
pub record MissesSome (limit : ℕ) (x y : MachineState) (out out' : SinkState) : Type 0 where
  pub made : ℕ
  pub ending : RunEnd
  pub run : IsRun None limit made x ending y
  pub missed : Missed out out' (run_lines x made ending y)

-- a run of up to a number of instructions, by the answer
abbrev pub Writes : {E : Type 0} → ℕ → MachineState → MachineState → SinkState → SinkState → Result RunEnd E → Type 0
Writes limit x y out out' (Ok ending) = WritesWhole limit x y out out' ending
Writes limit x y out out' (Err error) = BreaksOff limit x y out out' ⊎ MissesSome limit x y out out'
