-- Sources that are loaded, and the reports of those that are not run.
use Rattle.std.proofs.Common.{◌≡◌, ℕ, Option, Some, None, Result, Ok, Err, sym, subst}
use Rattle.source_defs.specs.Refusals.{Refusal}
use Rattle.gpl_defs.specs.Image.{Image}
use Rattle.gpl_source_defs.specs.declared.causes.GplCause.{GplCause}
use Rattle.gpl_source_defs.specs.Programs.{Program}
use Rattle.report_defs.specs.Report.{Report, EnteredReport, ProgramReport}
use Rattle.bench_commands.specs.declared.commands.program.LoadedProgram.{LoadedProgram}
use Rattle.reports.specs.declared.command_error.CommandError.{CommandError}
use Rattle.reports.specs.Answers.{WantsMemory, error_answer}
use Rattle.reports.proofs.Answers.{reported_as}
use Rattle.bench_commands.specs.Loaded.{RunsNone, LoadsEntered, LoadsProgram, LoadsImage, LoadsSource}

-- what is reported of a program that is not run is so whatever would be reported of one that is
module _ (Reports : Image → ℕ → Report → Type 0) where
  entered_none : (image : Image) (entry : Option ℕ) (report : Report) → EnteredReport RunsNone image entry report → EnteredReport Reports image entry report
  entered_none image (Some entry) report none = absurd none
  entered_none image None report is = is

  pub program_none : (program : Result Program (Refusal GplCause)) (report : Report) → ProgramReport RunsNone program report → ProgramReport Reports program report
  program_none (Ok program) report e = entered_none program.image program.entry report e
  program_none (Err refused) report is = is

  -- what is reported of a program that is loaded
  of_entered : (image : Image) (entry : Option ℕ) (report : Report) (x : LoadedProgram) (l : LoadsEntered image entry x) → Reports image l.address report → EnteredReport Reports image entry report
  of_entered image entry report x l e = subst (λ (o : Option ℕ). EnteredReport Reports image o report) (sym l.is) e

  pub of_program : (source : Result Program (Refusal GplCause)) (report : Report) (x : LoadedProgram) (l : LoadsProgram source x) →
      Reports l.program.image l.entered.address report → ProgramReport Reports source report
  of_program source report x l e =
      subst (λ (o : Result Program (Refusal GplCause)). ProgramReport Reports o report) (sym l.is) (of_entered l.program.image l.program.entry report x l.entered e)

-- what comes of an image is what comes of its source
pub source_loaded : (source : Result Program (Refusal GplCause)) (program : Program) (r : Result LoadedProgram CommandError) → source ≡ Ok program →
    LoadsImage program.image program.entry r → LoadsSource source r
source_loaded source program (Ok x) is h = record { program = program; is = is; entered = h }
source_loaded source program (Err command_error) is h =
    reported_as (EnteredReport RunsNone program.image program.entry) (ProgramReport RunsNone source) WantsMemory (error_answer command_error)
    (λ report e. subst (λ (s : Result Program (Refusal GplCause)). ProgramReport RunsNone s report) (sym is) e) h
