-- A GPL source that is to be run, in the terms of the definitions.
use Rattle.std.specs.Prelude.{◌≡◌, ℕ, List, length, Option, Some, Result, Ok, Err}
use Rattle.source_defs.specs.Refusals.{Refusal}
use Rattle.gpl_defs.specs.Image.{Image, AreBytesOf, written_bytes}
use Rattle.gpl_source_defs.specs.declared.causes.GplCause.{GplCause}
use Rattle.gpl_source_defs.specs.Programs.{Program}
use Rattle.interp_defs.specs.Boot.{IsBoot}
use Rattle.report_defs.specs.Report.{Report, EnteredReport, ProgramReport}
use Rattle.bench_commands.specs.declared.commands.program.LoadedProgram.{LoadedProgram}
use Rattle.reports.specs.declared.command_error.CommandError.{CommandError}
use Rattle.reports.specs.Answers.{WantsMemory, Reported, error_answer}

-- no program is run
abbrev pub RunsNone : Image → ℕ → Report → Type 0
RunsNone image entry report = ⊥

-- the interpreter begins on a machine with an image and an entry, and this is how many bytes the image has
pub record LoadsEntered (image : Image) (entry : Option ℕ) (loaded : LoadedProgram) : Type 0 where
  pub address : ℕ
  pub is : entry ≡ Some address
  pub bytes : List ℕ
  pub of_image : AreBytesOf image bytes
  pub boots : IsBoot bytes address loaded.machine
  pub size : loaded.image_size ≡ length (written_bytes image)

abbrev pub LoadsImage : Image → Option ℕ → Result LoadedProgram CommandError → Type 0
LoadsImage image entry (Ok program) = LoadsEntered image entry program
LoadsImage image entry (Err command_error) =
    Reported (EnteredReport RunsNone image entry) WantsMemory (error_answer command_error)

-- a source that is accepted
pub record LoadsProgram (source : Result Program (Refusal GplCause)) (loaded : LoadedProgram) : Type 0 where
  pub program : Program
  pub is : source ≡ Ok program
  pub entered : LoadsEntered program.image program.entry loaded

abbrev pub LoadsSource : Result Program (Refusal GplCause) → Result LoadedProgram CommandError → Type 0
LoadsSource source (Ok program) = LoadsProgram source program
LoadsSource source (Err command_error) =
    Reported (ProgramReport RunsNone source) WantsMemory (error_answer command_error)
