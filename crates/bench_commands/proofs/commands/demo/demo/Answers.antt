use Rattle.std.proofs.Common.{◌∙◌, ℕ, List, subst}
use Rattle.gpl_source_defs.specs.Programs.{program_of_source}
use Rattle.report_defs.specs.Commands.{most_steps}
use Rattle.report_defs.specs.Report.{ProgramReport, ReportsProgram, demo_lines}
use Rattle.reports.specs.Answers.{WantsMemory, Reported, answer}
use Rattle.bench_commands.proofs.commands.demo.demo.Goals as goal

pub returns : goal.returns
returns c =
    let P : List ℕ → Type 0 =
    λ s. Reported (ProgramReport (ReportsProgram (demo_lines c.args.number) most_steps) (program_of_source s)) WantsMemory (answer c.run_source.result) in
    subst P (c.as_slice.ensures.value ∙ c.in_ok-text.ensures.text) c.run_source.ensures
