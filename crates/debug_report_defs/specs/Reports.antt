-- What a command of `ti_debug` reports on its input, and `list` on the files that the input copies too.
use Rattle.std.specs.Prelude.{◌≡◌, ℕ, ◌≤◌, List, length}
use Rattle.gpl_source_defs.specs.Programs.{program_of_source}
use Rattle.shelf_defs.specs.Files.{Files, of_files}
use Rattle.report_defs.specs.Report.{Report, largest_input, ReportsProgram, ShowsSteps, ProgramReport}
use Rattle.report_defs.specs.Report.{OnInput, run_lines, shown_lines}
use Rattle.report_defs.specs.ObjectInput.{linked_input}
use Rattle.change_defs.specs.Text.{all_changes_text}
use Rattle.debug_report_defs.specs.declared.command.DebugCommand.{DebugCommand}
use Rattle.debug_report_defs.specs.declared.command.DebugCommand.TheVariants.{Glist, Grun, Gsteps, Gcounts, Steps}
use Rattle.debug_report_defs.specs.declared.command.DebugCommand.TheVariants as command
use Rattle.machine_change_defs.specs.Reports.{StepsReport, StepsFront}
use Rattle.gpl_list_defs.specs.Listing.{listing_of, listing_report}
use Rattle.asm_list_defs.specs.Listed.{listing}
use Rattle.gpl_counts.specs.Counts.{ReportsCounts, ShowsCounts}
use Rattle.debug_report_defs.specs.Listings.{list_report}

-- What is reported of the input alone. `glist` shows each line of a source by a row, and then its names. `grun` writes
-- what `run` writes. `gsteps` shows each step by a line with all that it changed, and `gcounts` by a line with the
-- count of the machine after it; then they write what `run` writes. `steps` shows each instruction of linked memory by
-- a line with all that it changed, and then writes what `exec` writes, and the expansion memory. `list` reads files
-- too.
abbrev pub InputReport : DebugCommand → List ℕ → Report → Type 0
InputReport Glist input report = report ≡ listing_report (listing_of input)
InputReport command.List input report = ⊥
InputReport (Grun limit) input report =
    ProgramReport (ReportsProgram run_lines limit) (program_of_source input) report
InputReport (Gsteps limit) input report =
    ProgramReport (ReportsProgram (shown_lines all_changes_text) limit) (program_of_source input) report
InputReport (Gcounts limit) input report = ProgramReport (ReportsCounts limit) (program_of_source input) report
InputReport (Steps limit) input report = StepsReport limit (linked_input input) report

-- `list` shows each line of a source with the files that it copies by a row, and then its names.
abbrev pub AcceptedReport : DebugCommand → Files → List ℕ → Report → Type 0
AcceptedReport command.List files input report = report ≡ list_report (listing (of_files files) input)
AcceptedReport command files input report = InputReport command input report

-- Profile: an input that is too large is refused, whatever else holds.
abbrev pub ReportOn : DebugCommand → Files → List ℕ → Report → Type 0
ReportOn command files = OnInput (AcceptedReport command files)

-- What is written before the end of a report is known, of an input that is not too large: `gsteps`, `gcounts` and
-- `steps` write the line of each step once it is made.
abbrev pub PrefixOn : DebugCommand → List ℕ → Report → Type 0
PrefixOn Glist input front = ⊥
PrefixOn command.List input front = ⊥
PrefixOn (Grun limit) input front = ⊥
PrefixOn (Gsteps limit) input front =
    (length input ≤ largest_input) × ProgramReport (ShowsSteps all_changes_text limit) (program_of_source input) front
PrefixOn (Gcounts limit) input front =
    (length input ≤ largest_input) × ProgramReport (ShowsCounts limit) (program_of_source input) front
PrefixOn (Steps limit) input front = (length input ≤ largest_input) × StepsFront limit (linked_input input) front
