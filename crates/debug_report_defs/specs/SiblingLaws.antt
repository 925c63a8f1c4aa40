-- Reports of `ti_debug` beside those of `ti_bench` on the same input.
use Rattle.std.specs.Prelude.{◌≡◌, ℕ, List, [], ◌++◌, Option, Some, None}
use Rattle.shelf_defs.specs.Files.{Files, Contents}
use Rattle.shelf_defs.specs.Assembly.{module_by}
use Rattle.report_defs.specs.declared.command.Command.TheVariants.{Gasm, Exec, Run}
use Rattle.report_defs.specs.FaultLine.{fault_line}
use Rattle.report_defs.specs.Report.{Report, Whole, Faulty, Rejected, RejectedAfter, status_of}
use Rattle.report_defs.specs.Report as bench
use Rattle.report_defs.specs.ProgramCommands.{AsmFiles, OverFiles}
use Rattle.report_defs.specs.FileReports.{ReportWith, copy_report}
use Rattle.asm_list_defs.specs.Listed.{listing}
use Rattle.debug_report_defs.specs.declared.command.DebugCommand.TheVariants.{Glist, Gsteps, Steps}
use Rattle.debug_report_defs.specs.declared.command.DebugCommand.TheVariants as command
use Rattle.debug_report_defs.specs.Listings.{list_report}
use Rattle.debug_report_defs.specs.Reports.{ReportOn}

-- what standard error gets of a report
abbrev pub error_line_of : Report → Option (List ℕ)
error_line_of (Whole status pieces) = None
error_line_of (Faulty fault) = Some (fault_line fault)
error_line_of (Rejected line) = Some line
error_line_of (RejectedAfter pieces line) = Some line

-- Two reports have the same status, and the same line goes to standard error: both are refusals, or none is.
pub record RefuseAlike (first second : Report) : Type 0 where
  pub status : status_of first ≡ status_of second
  pub line : error_line_of first ≡ error_line_of second

-- A report has the pieces of another in it, lines before them and these lines after them, and its status. A refusal is
-- the same refusal.
abbrev pub Holds : Report → Report → (after : List (List ℕ)) → Type 0
Holds (Whole end pieces) other after =
    (before own : List (List ℕ)) × (pieces ≡ before ++ (own ++ after)) × (other ≡ Whole end own)
Holds report other after = report ≡ other

-- The law, which is proved. `glist` refuses a source exactly if `gasm` does, and by the same fault line; so do `list`
-- and `asm`, whatever the files that the source copies hold at each question for one. `gsteps N` writes lines and then
-- what `run N` writes; `steps N` writes lines, what `exec N` writes, and further lines; and each of them refuses what
-- the other refuses, by the same fault line.
pub record SiblingsReportAlike : Type 0 where
  pub glist : (files : Files) (input : List ℕ) (listed assembled : Report)
      → ReportOn Glist files input listed → bench.ReportOn Gasm input assembled → RefuseAlike listed assembled
  pub list : (contents : Contents) (source : List ℕ)
      → RefuseAlike (list_report (listing contents source)) (copy_report (module_by contents source))
  pub list_files : (files : Files) (input : List ℕ) (listed assembled : Report)
      → ReportOn command.List files input listed → ReportWith (OverFiles AsmFiles) input files assembled
      → RefuseAlike listed assembled
  pub gsteps : (limit : ℕ) (files : Files) (input : List ℕ) (stepped ran : Report)
      → ReportOn (Gsteps limit) files input stepped → bench.ReportOn (Run limit) input ran → Holds stepped ran []
  pub steps : (limit : ℕ) (files : Files) (input : List ℕ) (stepped executed : Report)
      → ReportOn (Steps limit) files input stepped → bench.ReportOn (Exec limit) input executed
      → (after : List (List ℕ)) × Holds stepped executed after
