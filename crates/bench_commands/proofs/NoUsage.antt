-- No report of a command of `bench` has the status of words that say no command.
use Rattle.std.proofs.Common.{◌≡◌, ℕ, ◌+◌, List, Bool, true, false, length, Result, Ok, Err}
use Rattle.std.specs.Prelude.{nat_lt, if◌then◌else◌}
use Rattle.std.specs.FinMap.{empty}
use Rattle.console_defs.specs.declared.run_end.RunEnd.{RunEnd}
use Rattle.console_defs.specs.declared.run_end.RunEnd.TheVariants as ending
use Rattle.source_defs.specs.Refusals.{Refusal}
use Rattle.gpl_defs.specs.Image.{placed}
use Rattle.gpl_step_defs.specs.State.{start}
use Rattle.gpl_step_defs.specs.Run.{run}
use Rattle.gpl_source_defs.specs.declared.causes.GplCause.{GplCause}
use Rattle.gpl_source_defs.specs.Programs.{Program, program_of_source}
use Rattle.object_defs.specs.Modules.{Module}
use Rattle.asm_defs.specs.declared.causes.AsmCause.{AsmCause}
use Rattle.asm_defs.specs.Modules.{module_of_source}
use Rattle.link_defs.specs.LinkedMemory.{LinkedMemory}
use Rattle.word_listings.specs.Listing.{memory_listing}
use Rattle.report_defs.specs.declared.command.Command.{Command}
use Rattle.report_defs.specs.declared.command.Command.TheVariants.{Asm, Gasm, Dis, Gdis, Link, Exec, Interp}
use Rattle.report_defs.specs.declared.command.Command.TheVariants.{Run, Trace, Demo}
use Rattle.report_defs.specs.declared.fault.Fault.TheVariants.{PastEnd}
use Rattle.report_defs.specs.declared.status.Status.TheVariants.{Usage, Done}
use Rattle.report_defs.specs.Commands.{most_steps}
use Rattle.report_defs.specs.DemoText.{demo_text}
use Rattle.report_defs.specs.Exec.{end_status}
use Rattle.report_defs.specs.GromListing.{image_listing}
use Rattle.report_defs.specs.MemoryListing.{linked_lines}
use Rattle.report_defs.specs.ObjectInput.{linked_input}
use Rattle.report_defs.specs.Report.{Report, Whole, Faulty, Rejected, ProgramRun, ReportsProgram, ProgramReport, ExecReport}
use Rattle.report_defs.specs.Report.{asm_report, gasm_report, link_report, run_lines, trace_lines}
use Rattle.report_defs.specs.Report.{demo_lines, largest_input, AcceptedReport, ReportOn}
use Rattle.reports.proofs.NoUsage.{IsNoUsage, same_no_usage, program_no_usage, large_no_usage, source_no_usage}

asm_no_usage : (found : Result Module (Refusal AsmCause)) → IsNoUsage (asm_report found)
asm_no_usage (Ok found) e = absurd cc
asm_no_usage (Err refused) e = absurd cc

gasm_no_usage : (found : Result Program (Refusal GplCause)) → IsNoUsage (gasm_report found)
gasm_no_usage (Ok program) e = absurd cc
gasm_no_usage (Err refused) e = absurd cc

listed_no_usage : (past : Bool) (lines : List (List ℕ)) → IsNoUsage (if past then Faulty PastEnd else Whole Done lines)
listed_no_usage true lines e = absurd cc
listed_no_usage false lines e = absurd cc

link_no_usage : (found : Result LinkedMemory (List ℕ)) → IsNoUsage (link_report found)
link_no_usage (Ok linked) e = absurd cc
link_no_usage (Err line) e = absurd cc

pub end_no_usage : (found : RunEnd) → end_status found ≡ Usage → ⊥
end_no_usage ending.Limit e = absurd cc
end_no_usage ending.SelfJump e = absurd cc
end_no_usage (ending.Refused at) e = absurd cc
end_no_usage (ending.Port at) e = absurd cc
end_no_usage _ e = absurd cc

exec_no_usage : (limit : ℕ) (found : Result LinkedMemory (List ℕ)) (report : Report) → ExecReport limit found report
    → IsNoUsage report
exec_no_usage limit (Ok linked) report on = same_no_usage report _ on.is (end_no_usage on.ending)
exec_no_usage limit (Err line) report is = same_no_usage report (Rejected line) is (λ e. absurd cc)

pub program_none : (lines : ProgramRun → List (List ℕ)) (limit : ℕ) (source : List ℕ) (report : Report)
    → ProgramReport (ReportsProgram lines limit) (program_of_source source) report → IsNoUsage report
program_none lines limit source report on =
    source_no_usage (ReportsProgram lines limit)
    (λ image entry report on. same_no_usage report _ on.is (program_no_usage (run limit (start on.bytes entry)).stop))
    (program_of_source source) report on

accepted_no_usage : (command : Command) (input : List ℕ) (report : Report) → AcceptedReport command input report
    → IsNoUsage report
accepted_no_usage Asm input report is = same_no_usage report _ is (asm_no_usage (module_of_source input))
accepted_no_usage Gasm input report is = same_no_usage report _ is (gasm_no_usage (program_of_source input))
accepted_no_usage (Dis at) input report is =
    same_no_usage report _ is (listed_no_usage (nat_lt 65536 (at + length input)) (memory_listing at input))
accepted_no_usage (Gdis at) input report is =
    same_no_usage report _ is
    (listed_no_usage (nat_lt 65536 (at + length input)) (image_listing (placed empty at input)))
accepted_no_usage Link input report is = same_no_usage report _ is (link_no_usage (linked_input input))
accepted_no_usage (Exec limit) input report on = exec_no_usage limit (linked_input input) report on
accepted_no_usage Interp input report on = same_no_usage report (Whole Done (linked_lines on.memory)) on.is (λ e. absurd cc)
accepted_no_usage (Run limit) input report on = program_none run_lines limit input report on
accepted_no_usage (Trace limit) input report on = program_none trace_lines limit input report on
accepted_no_usage (Demo number) input report on = program_none (demo_lines number) most_steps (demo_text number) report on

pub no_usage : (command : Command) (input : List ℕ) (report : Report) → ReportOn command input report → IsNoUsage report
no_usage command input report on =
    large_no_usage (nat_lt largest_input (length input)) report (AcceptedReport command input report)
    (accepted_no_usage command input report) on
