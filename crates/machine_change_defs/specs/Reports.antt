-- The report of `steps`.
use Rattle.std.specs.Prelude.{◌≡◌, ◌<◌, ℕ, List, ◌++◌, None, Result, Ok, Err}
use Rattle.console_defs.specs.Machine.{MachineState}
use Rattle.console_defs.specs.Runs.{end_at}
use Rattle.console_defs.specs.declared.run_end.RunEnd.{RunEnd}
use Rattle.link_defs.specs.LinkedMemory.{LinkedMemory}
use Rattle.report_defs.specs.declared.status.Status.TheVariants.{Done}
use Rattle.report_defs.specs.Exec.{IsStart, Executes, exec_lines, end_status}
use Rattle.report_defs.specs.Report.{Report, Whole, Rejected}
use Rattle.machine_change_defs.specs.Lines.{step_lines, expansion_lines}

-- The report of a run of the machine: a line for each instruction, what `exec` writes, and the expansion memory.
pub record ReportsSteps (limit : ℕ) (linked : LinkedMemory) (report : Report) : Type 0 where
  pub ending : RunEnd
  pub left : MachineState
  pub executes : Executes limit linked ending left
  pub is : report ≡ Whole (end_status ending)
      (step_lines executes.start executes.made ++ (exec_lines ending left ++ expansion_lines left.cpu.memory))

-- by the linked memory of an input, or the line of its refusal
abbrev pub StepsReport : ℕ → Result LinkedMemory (List ℕ) → Report → Type 0
StepsReport limit (Ok linked) report = ReportsSteps limit linked report
StepsReport limit (Err line) report = report ≡ Rejected line

-- What is written of it before its end is known: the lines of the first instructions, before any of which nothing ended
-- the run.
pub record ShowsInstructions (limit : ℕ) (linked : LinkedMemory) (front : Report) : Type 0 where
  pub start : MachineState
  pub is_start : IsStart linked start
  pub made : ℕ
  pub runs : (before : ℕ) → before < made → end_at None limit before start ≡ None
  pub is : front ≡ Whole Done (step_lines start made)

abbrev pub StepsFront : ℕ → Result LinkedMemory (List ℕ) → Report → Type 0
StepsFront limit (Ok linked) front = ShowsInstructions limit linked front
StepsFront limit (Err line) front = front ≡ Rejected line
