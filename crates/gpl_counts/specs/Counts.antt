-- What `gcounts` reports: each step of a GPL program with the number of instructions that the processor has executed.
use Rattle.std.specs.Prelude.{◌≡◌, ℕ, ◌+◌, ◌≤◌, List, ◌++◌, codes, map}
use Rattle.std.specs.List.{range_with_len}
use Rattle.std.specs.Fmt.{decimal}
use Rattle.console_defs.specs.Machine.{MachineState}
use Rattle.gpl_defs.specs.Image.{Image, AreBytesOf}
use Rattle.gpl_step_defs.specs.State.{GplState, start}
use Rattle.gpl_step_defs.specs.Run.{run}
use Rattle.interp_defs.specs.Programs.{RunsProgram}
use Rattle.report_defs.specs.declared.status.Status.TheVariants.{Done}
use Rattle.report_defs.specs.Program.{program_status}
use Rattle.report_defs.specs.Trace.{SeenState, ShowsChanges, step_line}
use Rattle.report_defs.specs.Report.{Report, Whole, run_lines}

-- Profile: `grun`, `gsteps` and `gcounts` of `ti_debug` make at most 10,000,000 steps.
abbrev pub most_shown_steps : ℕ
most_shown_steps = 10000000

-- how a line shows a step: by what was seen before and after it, and by the count of the machine after it
abbrev pub ShowsStep : Type 0
ShowsStep = SeenState → SeenState → ℕ → List ℕ

-- what changed, and nothing of the count
abbrev pub changes_alone : ShowsChanges → ShowsStep
changes_alone shows before after count = shows before after

-- Profile: the count is shown in decimal digits, after its name.
abbrev pub count_text : ℕ → List ℕ
count_text count = codes " count " ++ decimal count

-- the count, and nothing of what changed
abbrev pub counts_alone : ShowsStep
counts_alone before after count = count_text count

-- the line of the step after a number of steps, with the count of the machine after it
abbrev pub line_after : ShowsStep → GplState → ℕ → ℕ → List ℕ
line_after shows s made count =
    step_line (λ before after. shows before after count) (made + 1) (run made s).last (run (made + 1) s).last

-- The lines of a number of steps from a state, by the machine after each number of steps.
unfoldable pub lines_by : ShowsStep → GplState → (ℕ → MachineState) → ℕ → List (List ℕ)
lines_by shows s machine count =
    map (λ made. line_after shows s made (machine (made + 1)).count) (range_with_len 0 count)

-- The report of counts: each step by its line, and then what `run` writes.
pub record ReportsCounts (limit : ℕ) (image : Image) (entry : ℕ) (report : Report) : Type 0 where
  pub bytes : List ℕ
  pub of_image : AreBytesOf image bytes
  pub left : MachineState
  pub runs : RunsProgram bytes entry limit left
  pub is : let s = start bytes entry in
      let r = run limit s in
      report ≡ Whole (program_status r.stop) (lines_by counts_alone s runs.machine r.done
      ++ run_lines (record { image = image; begun = s; made = r; left = left }))

-- What is written before the end of a report is known: the lines of the steps that were made by then.
pub record ShowsCounts (limit : ℕ) (image : Image) (entry : ℕ) (front : Report) : Type 0 where
  pub bytes : List ℕ
  pub of_image : AreBytesOf image bytes
  pub made : ℕ
  pub within : made ≤ (run limit (start bytes entry)).done
  pub left : MachineState
  pub runs : RunsProgram bytes entry made left
  pub is : front ≡ Whole Done (lines_by counts_alone (start bytes entry) runs.machine made)
