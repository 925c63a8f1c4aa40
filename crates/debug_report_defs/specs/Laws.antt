-- What holds of all reports of `ti_debug`.
use Rattle.std.specs.Prelude.{◌≡◌, ℕ, ◌+◌, ◌^◌, ◌<◌, List, [], ◌∷◌, ◌++◌, codes, map}
use Rattle.std.specs.List.{range_with_len}
use Rattle.tms_defs.specs.Bytes.{HoldsBytes}
use Rattle.console_defs.specs.Machine.{MachineState}
use Rattle.gpl_defs.specs.Reading.{reading}
use Rattle.gpl_step_defs.specs.State.{GplState, IsState, start}
use Rattle.gpl_step_defs.specs.Run.{run}
use Rattle.gpl_listing_defs.specs.Texts.{read_text}
use Rattle.interp_defs.specs.Programs.{RunsProgram}
use Rattle.shelf_defs.specs.Files.{Files}
use Rattle.report_defs.specs.Trace.{SeenState, seen_state, step_front, step_lines}
use Rattle.report_defs.specs.Report.{Report}
use Rattle.report_defs.specs.Report as bench
use Rattle.report_defs.specs.declared.command.Command.TheVariants.{Run}
use Rattle.report_defs.specs.Laws.{IsPrefixOf}
use Rattle.change_defs.specs.Steps.{state_applied, changes_after}
use Rattle.change_defs.specs.Text.{step_text, all_changes_text}
use Rattle.debug_report_defs.specs.declared.command.DebugCommand.{DebugCommand}
use Rattle.debug_report_defs.specs.declared.command.DebugCommand.TheVariants as command
use Rattle.debug_report_defs.specs.LineParts.{front_part, changes_part}
use Rattle.debug_report_defs.specs.LineFronts.{GplFront, gpl_front}
use Rattle.debug_report_defs.specs.Reader.{changes_of_line}
use Rattle.debug_report_defs.specs.Reports.{ReportOn, PrefixOn}

-- the law, which is proved: there is at most one report on each command, input and files
abbrev pub OneDebugReport : Type 0
OneDebugReport =
    (command : DebugCommand) (files : Files) (input : List ℕ) (first second : Report)
    → ReportOn command files input first → ReportOn command files input second → first ≡ second

-- the law, which is proved: what is written before the end of a report is known begins the report
abbrev pub DebugFrontsBeginReports : Type 0
DebugFrontsBeginReports =
    (command : DebugCommand) (files : Files) (input : List ℕ) (front report : Report)
    → PrefixOn command input front → ReportOn command files input report → IsPrefixOf front report

-- the law, which is proved: `grun` has the reports of `run` of `ti_bench`, and no others
abbrev pub GrunReportsAsRun : Type 0
GrunReportsAsRun =
    (limit : ℕ) (files : Files) (input : List ℕ) (report : Report)
    → (ReportOn (command.Grun limit) files input report → bench.ReportOn (Run limit) input report)
    × (bench.ReportOn (Run limit) input report → ReportOn (command.Grun limit) files input report)

-- what the line of the next step after this number of steps has after its front
abbrev pub text_after : GplState → ℕ → List ℕ
text_after s made = step_text (changes_after s made) ++ codes "\n"

-- the line of the next step after this number of steps
abbrev pub line_after : GplState → ℕ → List ℕ
line_after s made = step_front (made + 1) (run made s).last ++ text_after s made

-- the front of that line
abbrev pub front_after : GplState → ℕ → GplFront
front_after s made =
    let now = (run made s).last in
    record { number = made + 1; pc = now.pc; instruction = read_text (reading now.image now.pc) now.pc }

-- a state with the changes of lines made, one line after the other
abbrev pub state_of_lines : List (List ℕ) → SeenState → SeenState
state_of_lines [] s = s
state_of_lines (line ∷ lines) s = state_of_lines lines (state_applied (changes_of_line line) s)

-- The law, which is proved: the line of each step is its front and a text of changes. The end of the front is found,
-- and from the line alone are read: the number of the step, the address of its instruction, the instruction's text, and
-- the changes. The changes of the lines of the first steps of a program, made in its first state one line after the
-- other, give the state after these steps, but for the address of the next instruction, which the front of the next
-- line has. The bytes and the entry of each program that the interpreter runs are those of such a first state.
pub record LinesGiveStates : Type 0 where
  pub lines : (s : GplState) (count : ℕ)
      → step_lines all_changes_text s count ≡ map (line_after s) (range_with_len 0 count)
  pub parts : (s : GplState) → IsState s → (made : ℕ)
      → (front_part (line_after s made) ≡ step_front (made + 1) (run made s).last)
      × (changes_part (line_after s made) ≡ text_after s made)
  pub fronts : (s : GplState) → IsState s → (made : ℕ) → made + 1 < 2 ^ 64
      → gpl_front (line_after s made) ≡ front_after s made
  pub changes : (s : GplState) → IsState s → (made : ℕ)
      → changes_of_line (line_after s made) ≡ changes_after s made
  pub states : (image : List ℕ) (entry : ℕ) → HoldsBytes 65536 image → entry < 65536 → (made : ℕ)
      → state_of_lines (step_lines all_changes_text (start image entry) made) (seen_state (start image entry))
      ≡ seen_state (run made (start image entry)).last
  pub starts : (image : List ℕ) (entry limit : ℕ) (left : MachineState) → RunsProgram image entry limit left
      → HoldsBytes 65536 image × (entry < 65536)
