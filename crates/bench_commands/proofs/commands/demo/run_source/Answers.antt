use Rattle.gpl_source_defs.specs.Programs.{program_of_source}
use Rattle.report_defs.specs.Commands.{most_steps}
use Rattle.report_defs.specs.Report.{ReportsProgram, demo_lines}
use Rattle.bench_commands.specs.declared.commands.program.LoadedProgram.{LoadedProgram}
use Rattle.reports.specs.declared.report.Report.TheVariants as made
use Rattle.reports.specs.Made.{model_of_report}
use Rattle.bench_commands.specs.Loaded.{LoadsProgram}
use Rattle.bench_commands.proofs.LoadedSources.{of_program}
use Rattle.bench_commands.proofs.Programs.{reports_demo}
use Rattle.bench_commands.proofs.commands.demo.run_source.Goals as goal

pub returns : goal.returns
returns c =
    let source = program_of_source c.args.source.now in
    let number = c.args.number in
    let loaded : LoadedProgram = c.in_ok-program.program in
    let t = c.run_session-session.result.0 in
    let steps = c.run_session-session.result.1 in
    let summary = c.summarize.result in
    let l : LoadsProgram source loaded = c.in_ok-program.ensures in
    let is = rw (c.ended.ensures, c.machine.ensures) at c.summarize.ensures in
    of_program (ReportsProgram (demo_lines number) most_steps) source (model_of_report (made.Demo summary)) loaded l
    (reports_demo most_steps l.program.image l.program.entry loaded l.entered t steps c.run_session-session.ensures number summary is)
