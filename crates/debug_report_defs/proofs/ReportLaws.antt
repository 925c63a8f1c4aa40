-- What holds of all reports of `ti_debug`.
use Rattle.std.proofs.Common.{◌≡◌, List, ℕ, sym, subst, ◌∙◌}
use Rattle.std.specs.Prelude.{nat_lt, length, Option, Some, None, Result, Ok, Err}
use Rattle.gpl_source_defs.specs.Programs.{Program, program_of_source}
use Rattle.report_defs.specs.declared.fault.Fault.TheVariants.{TooLarge}
use Rattle.shelf_defs.specs.Files.{Files}
use Rattle.report_defs.specs.Report.{Report, Faulty, largest_input, ReportsProgram, EnteredReport, ProgramReport, run_lines, shown_lines}
use Rattle.report_defs.proofs.OneReport.{one_by, one_assembled, one_program}
use Rattle.report_defs.proofs.Fronts.{begins_program, accepted}
use Rattle.gpl_counts.specs.Counts.{ReportsCounts, ShowsCounts}
use Rattle.gpl_counts.proofs.OneCounts.{counts_begin, one_report_of_counts}
use Rattle.gpl_defs.specs.Image.{Image}
use Rattle.source_defs.specs.Refusals.{Refusal}
use Rattle.gpl_source_defs.specs.declared.causes.GplCause.{GplCause}
use Rattle.report_defs.specs.Laws.{IsPrefixOf}
use Rattle.change_defs.specs.Text.{all_changes_text}
use Rattle.debug_report_defs.specs.declared.command.DebugCommand.{DebugCommand}
use Rattle.debug_report_defs.specs.declared.command.DebugCommand.TheVariants.{Gcounts, Grun, Gsteps, Steps}
use Rattle.debug_report_defs.specs.Reports.{AcceptedReport}
use Rattle.machine_change_defs.proofs.ReportLaws.{one_steps_report, steps_fronts_begin_reports}
use Rattle.debug_report_defs.specs.Laws.{OneDebugReport, DebugFrontsBeginReports, GrunReportsAsRun}

one_accepted : (command : DebugCommand) (files : Files) (input : List ℕ) (first second : Report) → AcceptedReport command files input first
    → AcceptedReport command files input second → first ≡ second
one_accepted (Grun limit) files input first second p q =
    one_assembled (ReportsProgram run_lines limit) (one_program run_lines limit) (program_of_source input) first second p q
one_accepted (Gsteps limit) files input first second p q =
    one_assembled (ReportsProgram (shown_lines all_changes_text) limit) (one_program (shown_lines all_changes_text) limit)
    (program_of_source input) first second p q
one_accepted (Gcounts limit) files input first second p q =
    one_assembled (ReportsCounts limit) (one_report_of_counts limit) (program_of_source input) first second p q
one_accepted (Steps limit) files input first second p q = one_steps_report limit input first second p q
one_accepted _ files input first second p q = p ∙ sym q

begins_entered : (limit : ℕ) (image : Image) (entry : Option ℕ) (front report : Report)
    → EnteredReport (ShowsCounts limit) image entry front → EnteredReport (ReportsCounts limit) image entry report
    → IsPrefixOf front report
begins_entered limit image (Some entry) front report p q = counts_begin limit image entry front report p q
begins_entered limit image None front report p q = subst (λ f. IsPrefixOf f report) (sym p) q

begins_counts : (limit : ℕ) (source : Result Program (Refusal GplCause)) (front report : Report)
    → ProgramReport (ShowsCounts limit) source front → ProgramReport (ReportsCounts limit) source report → IsPrefixOf front report
begins_counts limit (Ok program) front report p q = begins_entered limit program.image program.entry front report p q
begins_counts limit (Err refused) front report p q = subst (λ f. IsPrefixOf f report) (sym p) q

pub one_debug_report : OneDebugReport
one_debug_report command files input first second p q =
    one_by (nat_lt largest_input (length input)) (Faulty TooLarge) first second (AcceptedReport command files input)
    (one_accepted command files input) p q

pub debug_fronts_begin_reports : DebugFrontsBeginReports
debug_fronts_begin_reports (Gsteps limit) files input front report p q =
    begins_program all_changes_text limit (program_of_source input) front report p.1
    (accepted (AcceptedReport (Gsteps limit) files) input report p.0 q)
debug_fronts_begin_reports (Gcounts limit) files input front report p q =
    begins_counts limit (program_of_source input) front report p.1
    (accepted (AcceptedReport (Gcounts limit) files) input report p.0 q)
debug_fronts_begin_reports (Steps limit) files input front report p q =
    steps_fronts_begin_reports limit input front report p.1 (accepted (AcceptedReport (Steps limit) files) input report p.0 q)
debug_fronts_begin_reports _ files input front report p q = absurd p

pub grun_reports_as_run : GrunReportsAsRun
grun_reports_as_run limit files input report = (λ on. on, λ on. on)
