use Rattle.gpl_source_defs.specs.Programs.{program_of_source}
use Rattle.report_defs.specs.Report.{ReportsProgram, run_lines}
use Rattle.bench_commands.specs.declared.commands.program.LoadedProgram.{LoadedProgram}
use Rattle.reports.specs.declared.report.Report.TheVariants as made
use Rattle.reports.specs.Made.{model_of_report}
use Rattle.bench_commands.specs.Loaded.{LoadsProgram}
use Rattle.bench_commands.proofs.LoadedSources.{of_program}
use Rattle.bench_commands.proofs.Programs.{reports_program}
use Rattle.bench_commands.proofs.commands.run.run.Goals as goal

pub returns : goal.returns
returns c =
    let source = program_of_source c.args.input.now in
    let loaded : LoadedProgram = c.in_ok-program.program in
    let t = c.run_session-session.result.0 in
    let steps = c.run_session-session.result.1 in
    let l : LoadsProgram source loaded = c.in_ok-program.ensures in
    of_program (ReportsProgram run_lines c.args.limit) source (model_of_report (made.Program t)) loaded l
    (reports_program c.args.limit l.program.image l.program.entry loaded l.entered t steps c.run_session-session.ensures)
